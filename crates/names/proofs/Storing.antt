-- A name is what it spells: bytes and names of at most the longest length correspond.
use mathlib.Core.Path.{◌≡◌, refl, ap, ◌∙◌}
use mathlib.Core.List.{List, [], ◌∷◌, ◌++◌}
use Prim.Native.Nat.{ℕ, zero, suc, ◌+◌, ◌-◌, ◌≤◌}
use native.Mathlib.Omega.{arith}
use lib.ListN.{length, get_or, drop, replicate, length-append, length-replicate, length-drop, take-append-drop}
use lib.Seq.{take_at, get_or-append-add, get_or-drop, length-take-le}
use Rattle.rules.specs.RoomAndSoundLedger.{longest_name}
use Rattle.names.specs.declared.Name.{Name}
use Rattle.names.specs.Names.{spelled, stored, IsStored}

-- ── repeats ────────────────────────────────────────────────────────────────────────────────────

module _ {A : Type 0} (x : A) where
  -- a repeat reads the same at every index, its end's too
  pub get_or-repeat : (n i : ℕ) → get_or (replicate n x) i x ≡ x
  get_or-repeat zero i = refl
  get_or-repeat (suc n) zero = refl
  get_or-repeat (suc n) (suc i) = get_or-repeat n i

  pub drop-repeat : (n m : ℕ) → drop n (replicate m x) ≡ replicate (m - n) x
  drop-repeat zero m = let e : m ≡ m - 0 = omega arith in ap (λ k. replicate k x) e
  drop-repeat (suc n) zero = let e : 0 ≡ 0 - suc n = omega arith in ap (λ k. replicate k x) e
  drop-repeat (suc n) (suc m) = let e : m - n ≡ suc m - suc n = omega arith in drop-repeat n m ∙ ap (λ k. replicate k x) e

  -- a list that reads the same everywhere is a repeat
  pub is-repeat : (xs : List A) → ((i : ℕ) → get_or xs i x ≡ x) → xs ≡ replicate (length xs) x
  is-repeat [] h = refl
  is-repeat (y ∷ xs) h = let e : y ≡ x = h 0 in let r : xs ≡ replicate (length xs) x = is-repeat xs (λ i. h (suc i)) in cc

-- ── names ──────────────────────────────────────────────────────────────────────────────────────

pub spelled-stored : (a : List ℕ) → spelled (stored a) ≡ a
spelled-stored a = take_at a (replicate (longest_name - length a) 0) (length a) refl

pub stored-is-stored : (a : List ℕ) → length a ≤ longest_name → IsStored (stored a)
stored-is-stored a h =
    record {
      fits = h;
      width = simp (length-append, length-replicate) (omega arith);
      clear =
          λ i l.
          let zeros : List ℕ = replicate (longest_name - length a) 0 in
          let e : i ≡ length a + (i - length a) = omega arith in
          ap (λ j. get_or (a ++ zeros) j 0) e ∙ get_or-append-add a zeros (i - length a) 0 ∙ get_or-repeat 0 (longest_name - length a) (i - length a);
    }

-- the bytes past the length, as a repeat
pub zeros-after : (n : Name) → IsStored n → drop n.length n.bytes ≡ replicate (longest_name - n.length) 0
zeros-after n h =
    let e : length (drop n.length n.bytes) ≡ longest_name - n.length = rw (length-drop, h.width) in
    is-repeat 0 (drop n.length n.bytes) (λ i. get_or-drop n.length n.bytes i 0 ∙ h.clear (n.length + i) (omega arith))
    ∙ ap (λ k. replicate k 0) e

pub stored-spelled : (n : Name) → IsStored n → stored (spelled n) ≡ n
stored-spelled n h =
    let l : length (spelled n) ≡ n.length = length-take-le n.length n.bytes (omega (arith, h.fits, h.width)) in
    let b : spelled n ++ replicate (longest_name - length (spelled n)) 0 ≡ n.bytes =
    rw (l, ← zeros-after n h) (take-append-drop n.length n.bytes) in
    λ j. record { length = l j; bytes = b j }
