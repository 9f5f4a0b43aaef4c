-- The readers of the rules, by the bytes that each takes: none where too few are there, and else the value by its place in the bytes. Said of one reader, and
-- of one after another, it is said of the row.
use mathlib.Core.Path.{◌≡◌, refl, sym, ◌∙◌, ap, subst}
use mathlib.Core.List.{List, [], ◌∷◌}
use mathlib.Core.Option.{none, some}
use Prim.Native.Nat.{ℕ, zero, suc, ◌+◌, ◌-◌, ◌≤◌, ◌<◌}
use native.Mathlib.Omega.{arith}
use borrow.Author.Tests.{ltb-true, ltb-false, lt-ltb, le-ltb}
use lib.Dec.{ltb}
use lib.IntN.{ℤ}
use lib.ListN.{length, take, drop, get_or, length-drop}
use lib.Seq.{get_or-drop, drop-drop, length-take-le}
use Rattle.rules.specs.SnapshotsMigrationCertificates.{Row, Reader, reads, go_on, ◌>>=◌, number_from, number_of, signed, read_part, read_number, read_amount, read_name, read_row}
use Rattle.rules.proofs.Tests.{by_bool}
use Rattle.rules.proofs.Reading.{after}
use Rattle.big_endian.specs.Layout.{shortest_row}

-- ── readers that take the bytes from one place to another ──────────────────────────────────────

pub record Takes {A : Type 0} (bs : List ℕ) (from to : ℕ) (reader : Reader A) (value : A) : Type 0 where
  pub long : to ≤ length bs → reader (drop from bs) ≡ some (after value (drop to bs))
  pub short : from ≤ length bs → length bs < to → reader (drop from bs) ≡ none

module _ {A B : Type 0} {bs : List ℕ} {from mid : ℕ} {m : Reader A} {x : A} (f : A → Reader B) (first : Takes bs from mid m x) where
  pub goes_on : mid ≤ length bs → (m >>= f) (drop from bs) ≡ f x (drop mid bs)
  goes_on h = ap (λ o. go_on o f) (first.long h)

  -- none at once, or later
  pub gives_none : from ≤ length bs → (mid ≤ length bs → f x (drop mid bs) ≡ none) → (m >>= f) (drop from bs) ≡ none
  gives_none s later = by_bool (λ b. ltb (length bs) mid ≡ b → go_on (m (drop from bs)) f ≡ none) (ltb (length bs) mid)
      (λ _ t. ap (λ o. go_on o f) (first.short s (ltb-true (length bs) mid t)))
      (λ _ t. let h : mid ≤ length bs = ltb-false (length bs) mid t in goes_on h ∙ later h)
      refl

  -- a reader, and those that go on after it
  pub takes-then : {to : ℕ} {y : B} → mid ≤ to → Takes bs mid to (f x) y → Takes bs from to (m >>= f) y
  takes-then h then = record {
    long = λ l. goes_on (omega arith) ∙ then.long l;
    short = λ s l. gives_none s (λ k. then.short k l);
  }

pub takes-nothing : {A : Type 0} (bs : List ℕ) (from : ℕ) (x : A) → Takes bs from from (reads x) x
takes-nothing bs from x = record { long = λ _. refl; short = λ s l. absurd (omega arith) }

-- ── a part, a number, an amount, a name, a row ─────────────────────────────────────────────────

module _ (bs : List ℕ) (from to size : ℕ) (e : to ≡ from + size) where
  pub part-takes : Takes bs from to (read_part size) (take size (drop from bs))
  unfolding read_part
  part-takes =
      let rest : drop size (drop from bs) ≡ drop to bs = drop-drop size from bs ∙ ap (λ k. drop k bs) (sym e) in
      let l : length (drop from bs) ≡ length bs - from = length-drop from bs in
      record {
        long = λ h. rw (le-ltb (length (drop from bs)) size (omega arith), rest);
        short = λ s h. rw (lt-ltb (length (drop from bs)) size (omega arith));
      }

  pub number-takes : Takes bs from to (read_number size) (number_of (take size (drop from bs)))
  unfolding read_number
  number-takes = takes-then _ part-takes (omega arith) (takes-nothing bs to (number_of (take size (drop from bs))))

abbrev pub amount_at : ℕ → List ℕ → ℤ
amount_at from bs = signed (number_of (take 8 (drop from bs)))

pub amount-takes : (bs : List ℕ) (from to : ℕ) → to ≡ from + 8 → Takes bs from to read_amount (amount_at from bs)
unfolding read_amount
amount-takes bs from to e = takes-then _ (number-takes bs from to 8 e) (omega arith) (takes-nothing bs to (amount_at from bs))

pub byte_at : (place : ℕ) (bs : List ℕ) → number_of (take 1 (drop place bs)) ≡ get_or bs place 0
unfolding number_from
byte_at zero [] = refl
byte_at (suc place) [] = refl
byte_at zero (b ∷ bs) = omega arith
byte_at (suc place) (b ∷ bs) = byte_at place bs

-- a name starts behind its length
module _ (bs : List ℕ) (from start end : ℕ) (starts : start ≡ from + 1) (ends : end ≡ start + get_or bs from 0) where
  pub name-takes-from : Takes bs from end read_name (take (end - start) (drop start bs))
  unfolding read_name
  name-takes-from =
      let size : number_of (take 1 (drop from bs)) ≡ end - start = byte_at from bs ∙ omega arith in
      takes-then read_part (subst (Takes bs from start (read_number 1)) size (number-takes bs from start 1 starts)) (omega arith) (part-takes bs start end (end - start) (omega arith))

pub name-takes : (bs : List ℕ) → Takes bs 0 (1 + get_or bs 0 0) read_name (take (get_or bs 0 0) (drop 1 bs))
name-takes bs =
    let n = get_or bs 0 0 in
    let size : 1 + n - 1 ≡ n = omega arith in
    subst (λ k. Takes bs 0 (1 + n) read_name (take k (drop 1 bs))) size (name-takes-from bs 0 1 (1 + n) refl refl)

-- the row that stands at the front of bytes, by its parts
abbrev pub row_at_front : List ℕ → Row
row_at_front bs =
    let n : ℕ = get_or bs 0 0 in
    record { name = take n (drop 1 bs); initial = amount_at (1 + n) bs; remaining = amount_at (9 + n) bs; reserved = amount_at (17 + n) bs; committed = amount_at (25 + n) bs }

pub row-takes : (bs : List ℕ) → Takes bs 0 (shortest_row + get_or bs 0 0) read_row (row_at_front bs)
unfolding read_row
row-takes bs =
    let n = get_or bs 0 0 in
    takes-then _ (name-takes bs) (omega arith)
    (takes-then _ (amount-takes bs (1 + n) (9 + n) (omega arith)) (omega arith)
    (takes-then _ (amount-takes bs (9 + n) (17 + n) (omega arith)) (omega arith)
    (takes-then _ (amount-takes bs (17 + n) (25 + n) (omega arith)) (omega arith)
    (takes-then _ (amount-takes bs (25 + n) (shortest_row + n) (omega arith)) (omega arith)
    (takes-nothing bs (shortest_row + n) (row_at_front bs))))))

pub row-long : (bs : List ℕ) → shortest_row + get_or bs 0 0 ≤ length bs → read_row bs ≡ some (record { value = row_at_front bs; rest = drop (shortest_row + get_or bs 0 0) bs })
row-long bs h = (row-takes bs).long h

pub name-size : (bs : List ℕ) → shortest_row + get_or bs 0 0 ≤ length bs → length (row_at_front bs).name ≡ get_or bs 0 0
name-size bs h = length-take-le (get_or bs 0 0) (drop 1 bs) (omega (arith, length-drop 1 bs))

pub row-short : (bs : List ℕ) → length bs < shortest_row + get_or bs 0 0 → read_row bs ≡ none
row-short bs h = (row-takes bs).short (omega arith) h

-- ── a row from some byte on ────────────────────────────────────────────────────────────────────

pub front-byte : (at : ℕ) (bs : List ℕ) → get_or (drop at bs) 0 0 ≡ get_or bs at 0
front-byte at bs = get_or-drop at bs 0 0 ∙ ap (λ k. get_or bs k 0) (omega arith)

module _ (bs : List ℕ) (at : ℕ) where
  -- the bytes of the row, by its name's length
  abbrev pub size_at : ℕ
  size_at = shortest_row + get_or bs at 0

  pub no-row-at : at ≤ length bs → length bs - at < size_at → read_row (drop at bs) ≡ none
  no-row-at h short = row-short (drop at bs) (omega (arith, front-byte at bs, length-drop at bs))

  pub row_at : at ≤ length bs → size_at ≤ length bs - at → read_row (drop at bs) ≡ some (after (row_at_front (drop at bs)) (drop (at + size_at) bs))
  row_at h long =
      row-long (drop at bs) (omega (arith, front-byte at bs, length-drop at bs))
      ∙ ap (λ rest. some (after (row_at_front (drop at bs)) rest)) (ap (λ n. drop (shortest_row + n) (drop at bs)) (front-byte at bs) ∙ drop-drop size_at at bs)
