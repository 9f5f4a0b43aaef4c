-- A table of n entries of which the first are in use and the rest empty: what is read of it, and what a change of its entries makes of it.
use mathlib.Core.Path.{◌≡◌, refl, sym, ◌∙◌, ap}
use mathlib.Core.List.{List, [], ◌∷◌, ◌++◌, map, append_assoc}
use Prim.Native.Nat.{ℕ, suc, pred, ◌+◌, ◌-◌, ◌≤◌, ◌<◌}
use native.Mathlib.Omega.{arith}
use lib.ListN.{length, get_or, take, drop, set, replicate, length-append, length-replicate, length-map, length-set, length-drop, get_or-append}
use lib.Seq.{take_at, drop_at, set-append_left, set-append_seam, take-append-le, drop-append-add, length-take-le}
use Rattle.room.specs.Contents.{opened, closed}
use Rattle.room.specs.Room.{filled}

module _ {A : Type 0} (n : ℕ) (empty : A) where
  pub filled-length : (xs : List A) → length xs ≤ n → length (filled n empty xs) ≡ n
  unfolding filled
  filled-length xs h = rw (length-append, length-replicate) (omega arith)

  -- the entries in use
  pub filled-take : (xs : List A) → take (length xs) (filled n empty xs) ≡ xs
  unfolding filled
  filled-take xs = take_at xs (replicate (n - length xs) empty) (length xs) refl

  pub filled_at : (xs : List A) (i : ℕ) (d : A) → i < length xs → get_or (filled n empty xs) i d ≡ get_or xs i d
  unfolding filled
  filled_at xs i d h = get_or-append xs (replicate (n - length xs) empty) d i h

  -- an entry in use changed
  pub filled-set : (xs : List A) (i : ℕ) (x : A) → i < length xs → set (filled n empty xs) i x ≡ filled n empty (set xs i x)
  unfolding filled
  filled-set xs i x h = rw (set-append_left xs (replicate (n - length xs) empty) i x h, length-set xs i x)

  -- one more entry in use
  pub filled_more : (xs : List A) (x : A) → length xs < n → set (filled n empty xs) (length xs) x ≡ filled n empty (xs ++ x ∷ [])
  unfolding filled
  filled_more xs x h =
      let e : n - length xs ≡ suc (n - suc (length xs)) = omega arith in
      let f : n - (length xs + 1) ≡ n - suc (length xs) = omega arith in
      rw (e, set-append_seam xs empty (replicate (n - suc (length xs)) empty) x, length-append, f) (sym (append_assoc xs (x ∷ []) (replicate (n - suc (length xs)) empty)))

  -- an entry put in at i
  pub filled-opened : (xs : List A) (i : ℕ) (x : A) → i ≤ length xs → length xs < n → opened i (length xs) x (filled n empty xs) ≡ filled n empty (take i xs ++ x ∷ drop i xs)
  unfolding opened filled
  filled-opened xs i x h k =
      let more : n - length xs ≡ suc (n - suc (length xs)) = omega arith in
      let one : suc (length xs) ≡ length xs + 1 = omega arith in
      let rest = replicate (n - suc (length xs)) empty in
      let behind : drop (suc (length xs)) (xs ++ empty ∷ rest) ≡ rest = ap (λ m. drop m (xs ++ empty ∷ rest)) one ∙ drop-append-add xs (empty ∷ rest) 1 in
      let size : length (take i xs ++ x ∷ drop i xs) ≡ suc (length xs) = rw (length-append, length-take-le i xs h, length-drop) (omega arith) in
      rw (more, size, take-append-le i xs (empty ∷ rest) h, take_at xs (empty ∷ rest) (length xs) refl, behind) (sym (append_assoc (take i xs) (x ∷ drop i xs) rest))

  -- the entry at i taken out
  pub filled-closed : (xs : List A) (i : ℕ) → i < length xs → length xs ≤ n → closed i (length xs) empty (filled n empty xs) ≡ filled n empty (take i xs ++ drop (suc i) xs)
  unfolding closed filled
  filled-closed xs i h k =
      let rest = replicate (n - length xs) empty in
      let size : length (take i xs ++ drop (suc i) xs) ≡ pred (length xs) = rw (length-append, length-take-le i xs (omega arith), length-drop) (omega arith) in
      let one : n - pred (length xs) ≡ suc (n - length xs) = omega arith in
      rw (size, one, take-append-le i xs rest (omega arith), take_at xs rest (length xs) refl, drop_at xs rest (length xs) refl) (sym (append_assoc (take i xs) (drop (suc i) xs) (empty ∷ rest)))

-- the entries in use of a table of records
pub used-part : {A B : Type 0} (f : A → B) (xs : List A) (n : ℕ) (empty : B) → take (length xs) (filled n empty (map f xs)) ≡ map f xs
used-part f xs n empty = rw length-map at (filled-take n empty (map f xs))
