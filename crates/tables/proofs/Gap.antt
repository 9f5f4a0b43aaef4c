-- A gap of one row closed: bytes moved nearer, and what that makes of a table, over any width.
use mathlib.Core.Path.{◌≡◌, sym, ap, ap₂, ◌∙◌}
use mathlib.Core.Logic.{inl}
use mathlib.Core.List.{List, [], ◌∷◌, ◌++◌, map, append_assoc}
use Prim.Native.Nat.{ℕ, zero, suc, ◌+◌, ◌-◌, ◌*◌, ◌≤◌}
use native.Mathlib.Nat.{zero-add, suc-add, mul-suc, mul-add, mul-le-mul_left}
use native.Mathlib.Omega.{arith}
use lib.ListN.{length, take, drop, length-drop, take-append-drop}
use lib.Seq.{take_all, take-nil, drop-cons, drop-drop, drop-append-le}
use Rattle.std.specs.List.{copy_within}
use Rattle.records.specs.Rows.{row, put, rows, table}
use Rattle.records.proofs.Rows.{row-length, put-after, row_put, rows-within, table-length, table-apart, table-take, table-drop}
use Rattle.room.specs.Contents.{closed}
use Rattle.tables.specs.Steps.{moved_down}

-- ── rows moved ─────────────────────────────────────────────────────────────────────────────────

-- what is put in front of a part's own end
pub put-within : (from j k : ℕ) (xs u : List ℕ) → from + (j + k) ≤ length xs → put from (j + k) xs (u ++ drop j (row (j + k) from xs)) ≡ put from j xs u
put-within from j k xs u h =
    let rest = drop from xs in
    let l : length (take (j + k) rest) ≡ j + k = row-length (j + k) from xs h in
    ap (λ r. take from xs ++ r) (append_assoc u (drop j (take (j + k) rest)) (drop (j + k) rest)
    ∙ ap (λ r. u ++ r) (sym (drop-append-le j (take (j + k) rest) (drop (j + k) rest) (omega arith)) ∙ ap (drop j) (take-append-drop (j + k) rest)))

slice-take : {A : Type 0} (f c : ℕ) (l : List A) → drop f (take (f + c) l) ≡ take c (drop f l)
slice-take zero c l = rw zero-add
slice-take (suc f) c [] = rw (suc-add, take-nil)
slice-take (suc f) c (x ∷ l) = rw suc-add (slice-take f c l)

-- the bytes of a part copied to its start from w on: those from there on are put in its place
pub gap-put : (w j m from : ℕ) (xs part : List ℕ) → m ≡ j + w → from + m ≤ length xs → part ≡ copy_within (row m from xs) w (length (row m from xs)) 0
    → put from m xs part ≡ put from j xs (row j (from + w) xs)
gap-put w j m from xs part e h p =
    let sum : w + j ≡ m = omega arith in
    let n : length (row m from xs) ≡ m = row-length m from xs h in
    let l : length (row m from xs) - w ≡ j = rw n (omega arith) in
    let nearer : drop w (row m from xs) ≡ row j (from + w) xs =
    ap (λ n. drop w (take n (drop from xs))) (sym sum) ∙ slice-take w j (drop from xs) ∙ ap (take j) (drop-drop w from xs) in
    let moved : take j (drop w (row m from xs)) ≡ row j (from + w) xs = take_all j (drop w (row m from xs)) (rw (length-drop, n) (omega arith)) ∙ nearer in
    let whole : part ≡ row j (from + w) xs ++ drop j (row (j + w) from xs) =
    p ∙ ap (λ n. take n (drop w (row m from xs)) ++ drop (0 + n) (row m from xs)) l ∙ ap₂ ◌++◌ moved (ap₂ (λ n k. drop n (row k from xs)) (zero-add j) e) in
    (λ t. put from (e t) xs (whole t)) ∙ put-within from j w xs (row j (from + w) xs) (omega arith)

module _ {A : Type 0} (read : List ℕ → A) (k b N : ℕ) (xs : List ℕ) (i c : ℕ) (h : suc (i + c) ≤ N) (fits : b + k * N ≤ length xs) where
  abbrev from : ℕ
  from = b + k * i

  abbrev further : List ℕ
  further = row (k * c) (b + k * suc i) xs

  abbrev moved : List ℕ
  moved = put from (k * c) xs further

  abbrev before : List A
  before = table read k b N xs

  abbrev after : List A
  after = table read k b N moved

  ends : b + k * suc i + k * c ≤ length xs
  ends = omega (arith, mul-le-mul_left k h, mul-suc k (i + c), mul-add k i c, mul-suc k i)

  within : from + k * c ≤ length xs
  within = omega (arith, ends, mul-suc k i)

  width : length further ≡ k * c
  width = row-length (k * c) (b + k * suc i) xs ends

  first : take i after ≡ take i before
  first =
      table-take read k b moved i N (omega arith)
      ∙ table-apart read k b i from (k * c) xs further within width (inl (omega arith))
      ∙ sym (table-take read k b xs i N (omega arith))

  second : take c (drop i after) ≡ take c (drop (suc i) before)
  second =
      ap (take c) (table-drop read k b moved i N (omega arith))
      ∙ table-take read k from moved c (N - i) (omega arith)
      ∙ ap (map read) (sym (rows-within k c (drop from moved)) ∙ ap (rows k c) (row_put from (k * c) xs further within width) ∙ rows-within k c (drop (b + k * suc i) xs))
      ∙ sym (table-take read k (b + k * suc i) xs c (N - suc i) (omega arith))
      ∙ sym (ap (take c) (table-drop read k b xs (suc i) N (omega arith)))

  third : drop (i + c) after ≡ drop (i + c) before
  third =
      table-drop read k b moved (i + c) N (omega arith)
      ∙ ap (λ ys. map read (rows k (N - (i + c)) ys)) (put-after from (k * c) xs further within width (b + k * (i + c)) (omega (arith, mul-add k i c)))
      ∙ sym (table-drop read k b xs (i + c) N (omega arith))

  pub gap-closed : (z : A) → after ≡ moved_down i (suc (i + c)) z before
  unfolding closed
  gap-closed z =
      let l : length before ≡ N = table-length read k b N xs in
      let parts : take i after ++ (take c (drop i after) ++ drop (i + c) after) ≡ after =
      ap (λ r. take i after ++ r) (ap (λ r. take c (drop i after) ++ r) (sym (drop-drop c i after)) ∙ take-append-drop c (drop i after)) ∙ take-append-drop i after in
      let middle : take c (drop (suc i) before) ≡ drop (suc i) (take (suc (i + c)) before) =
      sym (slice-take (suc i) c before) ∙ ap (λ n. drop (suc i) (take n before)) (suc-add i c) in
      sym parts ∙ ap₂ ◌++◌ first (ap₂ ◌++◌ (second ∙ middle) (third ∙ drop-cons before (i + c) z (omega arith)))
