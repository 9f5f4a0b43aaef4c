-- Entries moved by single stores, of any type: what a turn of such a loop makes of the list.
use mathlib.Core.Path.{◌≡◌, refl, sym, ap, ◌∙◌}
use mathlib.Core.List.{List, [], ◌∷◌, ◌++◌, map, map-append, append_assoc}
use Prim.Native.Nat.{ℕ, zero, suc, ◌+◌, ◌-◌, ◌≤◌, ◌<◌}
use native.Mathlib.Nat.{not-suc-le-zero, le_of_suc-le-suc}
use native.Mathlib.Numerals.{add-one, sub-one}
use native.Mathlib.Omega.{arith}
use lib.ListN.{length, get_or, take, drop, set, length-append, length-take, length-drop, length-map, get_or-append}
use lib.Seq.{take-suc, drop-cons, append_snoc, split_at, drop-append-le, set_at, set-get_or, get_or_at, get_or-take, get_or-drop, get_or-append-add, slice_empty, slice-cons, length-take-le}
use borrow.Author.Tests.{le-leb, lt-leb, lt-ltb, le-ltb}
use Rattle.rules.specs.Lists.{All}
use Rattle.records.specs.declared.Booking.{Booking}
use Rattle.room.specs.Contents.{opened, closed, renumbered, with_owner, raised, lowered}
use Rattle.tables.specs.Steps.{moved_up, moved_down}

module _ {A : Type 0} where
  -- what holds of all of the first n, of one of them
  pub all-taken : (P : A → Type 0) (n : ℕ) (xs : List A) (i : ℕ) (z : A) → All P (take n xs) → i < n → i < length xs → P (get_or xs i z)
  all-taken P zero xs i z a h l = absurd (not-suc-le-zero h)
  all-taken P (suc n) [] i z a h l = absurd (not-suc-le-zero l)
  all-taken P (suc n) (x ∷ xs) zero z (p, a) h l = p
  all-taken P (suc n) (x ∷ xs) (suc i) z (p, a) h l = all-taken P n xs i z a (le_of_suc-le-suc h) (le_of_suc-le-suc l)

  -- ── one further ──────────────────────────────────────────────────────────────────────────────

  -- the entry that was put in, replaced
  pub opened-set : (i n : ℕ) (x y : A) (xs : List A) → i ≤ length xs → set (opened i n x xs) i y ≡ opened i n y xs
  unfolding opened
  opened-set i n x y xs h = set_at (take i xs) x (drop i (take n xs) ++ drop (suc n) xs) y i (length-take-le i xs h)

  pub up_none : (n : ℕ) (z : A) (xs : List A) → n < length xs → xs ≡ moved_up n n z xs
  unfolding opened
  up_none n z xs h = rw slice_empty (split_at xs n z h)

  opened-lower : (k n : ℕ) (z : A) (xs : List A) → k < n → n < length xs → opened (suc k) n (get_or xs k z) xs ≡ opened k n (get_or xs k z) xs
  unfolding opened
  opened-lower k n z xs h l =
      let x : A = get_or xs k z in
      rw (take-suc xs k z (omega arith), slice-cons k n xs z h (omega arith)) (append_snoc (take k xs) x (x ∷ (drop (suc k) (take n xs) ++ drop (suc n) xs)))

  up-read : (k n : ℕ) (z : A) (xs : List A) → k < length xs → get_or (moved_up (suc k) n z xs) k z ≡ get_or xs k z
  unfolding opened
  up-read k n z xs h =
      let l : k < length (take (suc k) xs) = rw length-take (omega arith) in
      get_or-append (take (suc k) xs) _ z k l ∙ get_or-take (suc k) xs k z (omega arith)

  pub up_turn : (j n : ℕ) (z : A) (xs : List A) → 0 < j → j ≤ n → n < length xs → set (moved_up j n z xs) j (get_or (moved_up j n z xs) (j - 1) z) ≡ moved_up (j - 1) n z xs
  up_turn zero n z xs p h l = absurd (not-suc-le-zero p)
  up_turn (suc k) n z xs p h l =
      let e : suc k - 1 ≡ k = omega arith in
      rw (e, up-read k n z xs (omega arith), opened-set (suc k) n _ _ xs (omega arith)) (opened-lower k n z xs h l)

  -- ── one nearer ───────────────────────────────────────────────────────────────────────────────

  -- the last entry, replaced
  pub closed-set : (i n : ℕ) (x y : A) (xs : List A) → i < n → n ≤ length xs → set (closed i n x xs) (n - 1) y ≡ closed i n y xs
  unfolding closed
  closed-set i n x y xs h l =
      let moved : List A = drop (suc i) (take n xs) in
      let front : length (take i xs ++ moved) ≡ n - 1 = simp (length-append, length-drop, length-take) (omega arith) in
      ap (λ r. set r (n - 1) y) (sym (append_assoc (take i xs) moved (x ∷ drop n xs)))
      ∙ set_at (take i xs ++ moved) x (drop n xs) y (n - 1) front
      ∙ append_assoc (take i xs) moved (y ∷ drop n xs)

  pub down-none : (i : ℕ) (z : A) (xs : List A) → i < length xs → xs ≡ moved_down i (i + 1) z xs
  unfolding closed
  down-none i z xs h = rw (add-one, slice_empty) (split_at xs i z h)

  module _ (i m : ℕ) (z : A) (xs : List A) (h : i < m) (l : m < length xs) where
    -- the entry behind those moved is as it was
    down-read : (x : A) → get_or (closed i m x xs) m z ≡ get_or xs m z
    unfolding closed
    down-read x =
        let moved : List A = take i xs ++ drop (suc i) (take m xs) in
        let n : length moved ≡ m - 1 = simp (length-append, length-drop, length-take) (omega arith) in
        let e : m ≡ length moved + 1 = omega arith in
        ap (λ r. get_or r m z) (sym (append_assoc (take i xs) (drop (suc i) (take m xs)) (x ∷ drop m xs)))
        ∙ ap (λ k. get_or (moved ++ (x ∷ drop m xs)) k z) e
        ∙ get_or-append-add moved (x ∷ drop m xs) 1 z
        ∙ get_or-drop m xs 0 z
        ∙ (let e : m + 0 ≡ m = omega arith in ap (λ k. get_or xs k z) e)

    closed-higher : closed i m (get_or xs m z) xs ≡ closed i (suc m) (get_or xs m z) xs
    unfolding closed
    closed-higher =
        let x : A = get_or xs m z in
        let n : suc i ≤ length (take m xs) = rw length-take (omega arith) in
        let e : drop (suc i) (take (suc m) xs) ≡ drop (suc i) (take m xs) ++ (x ∷ []) =
        rw (take-suc xs m z l) (drop-append-le (suc i) (take m xs) (x ∷ []) n) in
        ap (λ r. take i xs ++ (drop (suc i) (take m xs) ++ (x ∷ r))) (drop-cons xs m z l)
        ∙ ap (λ r. take i xs ++ r) (sym (ap (λ r. r ++ (x ∷ drop (suc m) xs)) e ∙ append_snoc (drop (suc i) (take m xs)) x (x ∷ drop (suc m) xs)))

    pub down_turn : set (moved_down i m z xs) (m - 1) (get_or (moved_down i m z xs) m z) ≡ moved_down i (m + 1) z xs
    down_turn = rw (down-read, closed-set i m _ _ xs h (omega arith), add-one) closed-higher

-- ── renumbered ─────────────────────────────────────────────────────────────────────────────────

pub renumbered-none : (f : Booking → Booking) (bs : List Booking) → bs ≡ renumbered f 0 bs
unfolding renumbered
renumbered-none f bs = refl

module _ (f : Booking → Booking) (j : ℕ) (z : Booking) (bs : List Booking) (l : j < length bs) where
  passed : length (map f (take j bs)) ≡ j
  passed = length-map (take j bs) f ∙ length-take-le j bs (omega arith)

  pub renumbered-read : get_or (renumbered f j bs) j z ≡ get_or bs j z
  unfolding renumbered
  renumbered-read = rw (drop-cons bs j z l) (get_or_at (map f (take j bs)) (get_or bs j z) (drop (suc j) bs) z j passed)

  pub renumbered-turn : set (renumbered f j bs) j (f (get_or bs j z)) ≡ renumbered f (j + 1) bs
  unfolding renumbered
  renumbered-turn =
      let x : Booking = get_or bs j z in
      rw (drop-cons bs j z l, add-one, take-suc bs j z l, map-append)
      (set_at (map f (take j bs)) x (drop (suc j) bs) (f x) j passed ∙ sym (append_snoc (map f (take j bs)) (f x) (drop (suc j) bs)))

  -- one whose owner stays is not stored again
  pub renumbered-kept : f (get_or bs j z) ≡ get_or bs j z → renumbered f j bs ≡ renumbered f (j + 1) bs
  renumbered-kept e = sym (set-get_or (renumbered f j bs) j z) ∙ ap (set (renumbered f j bs) j) (renumbered-read ∙ sym e) ∙ renumbered-turn

-- the owners that change, and those that stay
module _ (i : ℕ) (b : Booking) where
  pub raised-from : i ≤ b.owner → raised i b ≡ with_owner (b.owner + 1) b
  raised-from h = rw (le-leb i b.owner h, add-one)

  pub raised-before : b.owner < i → raised i b ≡ b
  raised-before h = rw (lt-leb i b.owner h)

  pub lowered-behind : i < b.owner → lowered i b ≡ with_owner (b.owner - 1) b
  lowered-behind h = rw (lt-ltb i b.owner h, sub-one)

  pub lowered-up-to : b.owner ≤ i → lowered i b ≡ b
  lowered-up-to h = rw (le-ltb i b.owner h)
