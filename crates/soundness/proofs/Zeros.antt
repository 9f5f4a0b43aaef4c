-- Room not in use: rows of zero bytes are empty records, over any width.
use mathlib.Core.Path.{◌≡◌, refl, sym, ap, ◌∙◌}
use mathlib.Core.Logic.{⊎_elim}
use mathlib.Core.List.{List, [], ◌∷◌, ◌++◌, map, append-nil}
use Prim.Native.Nat.{ℕ, zero, suc, ◌+◌, ◌-◌, ◌*◌, ◌≤◌}
use native.Mathlib.Nat.{mul-add, not-suc-le-zero, le_of_suc-le-suc}
use native.Mathlib.Omega.{arith}
use lib.ListN.{length, get_or, take, drop, replicate, length-replicate, get_or-eq_default}
use Rattle.rules.specs.Lists.{All}
use Rattle.rules.specs.RoomAndSoundLedger.{IsByte}
use Rattle.rules.proofs.Tests.{less-or-not}
use Rattle.names.proofs.Storing.{get_or-repeat, drop-repeat, is-repeat}
use Rattle.numbers.proofs.Bytes.{all-repeat}
use Rattle.records.specs.Rows.{row, rows, table}
use Rattle.records.proofs.Rows.{row-length, rows-within, joined, table-drop, Readable, rows-joined, zeros-joined}
use Rattle.records.proofs.Room.{table-bytes}
use Rattle.soundness.specs.Steps.{ZeroBelow}

abbrev pub zeros : ℕ → List ℕ
zeros n = replicate n 0

-- a list that is zero at its every index
pub zeros-are : (ys : List ℕ) → ZeroBelow (length ys) ys → ys ≡ zeros (length ys)
zeros-are ys h = is-repeat 0 ys (λ i. ⊎_elim (h i) (λ past. get_or-eq_default ys 0 past) (less-or-not i (length ys)))

pub are-zeros : (ys : List ℕ) (n : ℕ) → ys ≡ zeros n → (m : ℕ) → ZeroBelow m ys
are-zeros ys n e m i h = ap (λ l. get_or l i 0) e ∙ get_or-repeat {A = ℕ} 0 n i

take-zeros : (k n : ℕ) → k ≤ n → take k (zeros n) ≡ zeros k
take-zeros zero n h = refl
take-zeros (suc k) zero h = absurd (not-suc-le-zero h)
take-zeros (suc k) (suc n) h = ap (λ ys. 0 ∷ ys) (take-zeros k n (le_of_suc-le-suc h))

pub row-zeros : (k b n : ℕ) → b + k ≤ n → row k b (zeros n) ≡ zeros k
row-zeros k b n h = ap (take k) (drop-repeat {A = ℕ} 0 b n) ∙ take-zeros k (n - b) (omega arith)

module _ {A : Type 0} (read : List ℕ → A) (write : A → List ℕ) (k : ℕ) (back : (w : List ℕ) → All IsByte w → length w ≡ k → write (read w) ≡ w) where
  abbrev empty : A
  empty = read (zeros k)

  row-of-zeros : write empty ≡ zeros k
  row-of-zeros = back (zeros k) (all-repeat IsByte 0 (omega arith) k) (length-replicate k 0)

  bytes-of-empty : (n : ℕ) → joined (map write (replicate n empty)) ≡ zeros (k * n)
  bytes-of-empty = zeros-joined write k empty row-of-zeros

  rows-of-zeros : (n : ℕ) → map read (rows k n (zeros (k * n))) ≡ replicate n empty
  rows-of-zeros n =
      let qs : List A = replicate n empty in
      let readable : All (Readable read write k) qs = all-repeat (Readable read write k) empty (ap length row-of-zeros ∙ length-replicate k 0, ap read row-of-zeros) n in
      ap (λ ys. map read (rows k n ys)) (sym (bytes-of-empty n) ∙ sym (append-nil (joined (map write qs))))
      ∙ ap (λ m. map read (rows k m (joined (map write qs) ++ []))) (sym (length-replicate n empty))
      ∙ rows-joined read write k qs [] readable

  module _ (b n : ℕ) (xs : List ℕ) where
    pub zeros-empty : row (k * n) b xs ≡ zeros (k * n) → table read k b n xs ≡ replicate n empty
    zeros-empty e = ap (map read) (sym (rows-within k n (drop b xs)) ∙ ap (rows k n) e) ∙ rows-of-zeros n

    pub empty-zeros : All IsByte xs → b + k * n ≤ length xs → table read k b n xs ≡ replicate n empty → row (k * n) b xs ≡ zeros (k * n)
    empty-zeros bytes fits e = sym (table-bytes read write k back b n xs bytes fits) ∙ ap (λ t. joined (map write t)) e ∙ bytes-of-empty n

  -- the rows of a table from a number on, which are not in use
  module _ (b used n : ℕ) (xs : List ℕ) (bytes : All IsByte xs) (within : used ≤ n) (fits : b + k * n ≤ length xs) where
    abbrev unused_bytes : List ℕ
    unused_bytes = row (k * (n - used)) (b + k * used) xs

    ends : b + k * used + k * (n - used) ≤ length xs
    ends = let e : used + (n - used) ≡ n = omega arith in omega (arith, sym (mul-add k used (n - used)) ∙ ap (λ m. k * m) e)

    pub cleared : ZeroBelow (length unused_bytes) unused_bytes → drop used (table read k b n xs) ≡ replicate (n - used) empty
    cleared z =
        table-drop read k b xs used n within
        ∙ zeros-empty (b + k * used) (n - used) xs (zeros-are unused_bytes z ∙ ap zeros (row-length (k * (n - used)) (b + k * used) xs ends))

    pub clear : drop used (table read k b n xs) ≡ replicate (n - used) empty → (m : ℕ) → ZeroBelow m unused_bytes
    clear e = are-zeros unused_bytes (k * (n - used)) (empty-zeros (b + k * used) (n - used) xs bytes ends (sym (table-drop read k b xs used n within) ∙ e))
