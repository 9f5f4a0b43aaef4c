-- A table read row by row: what holds of all its rows, or of each two of them, grows by one row and holds of each.
use mathlib.Core.Path.{◌≡◌, sym, ap, ◌∙◌, subst}
use mathlib.Core.List.{List, [], ◌∷◌, ◌++◌}
use Prim.Native.Nat.{ℕ, zero, suc, ◌+◌, ◌*◌, ◌<◌}
use native.Mathlib.Nat.{not-suc-le-zero, le_of_suc-le-suc}
use native.Mathlib.Numerals.{add-one}
use native.Mathlib.Omega.{arith}
use lib.ListN.{length, get_or, drop}
use lib.Seq.{take_all, take-suc, drop-cons}
use Rattle.rules.specs.Lists.{All, Pairwise}
use Rattle.records.specs.Rows.{row, table}
use Rattle.records.proofs.Rows.{table-length, table_at, table-take}

module _ {A : Type 0} where
  pub all-index : (P : A → Type 0) (xs : List A) (i : ℕ) (z : A) → All P xs → i < length xs → P (get_or xs i z)
  all-index P [] i z h l = absurd (not-suc-le-zero l)
  all-index P (x ∷ xs) zero z (h, k) l = h
  all-index P (x ∷ xs) (suc i) z (h, k) l = all-index P xs i z k (le_of_suc-le-suc l)

  pub pairwise-index : (R : A → A → Type 0) (xs : List A) (i j : ℕ) (z : A) → Pairwise R xs → i < j → j < length xs → R (get_or xs i z) (get_or xs j z)
  pairwise-index R [] i j z h k l = absurd (not-suc-le-zero l)
  pairwise-index R (x ∷ xs) i zero z h k l = absurd (not-suc-le-zero k)
  pairwise-index R (x ∷ xs) zero (suc j) z (h, h') k l = all-index (R x) xs j z h (le_of_suc-le-suc l)
  pairwise-index R (x ∷ xs) (suc i) (suc j) z (h, h') k l = pairwise-index R xs i j z h' (le_of_suc-le-suc k) (le_of_suc-le-suc l)

module _ {A : Type 0} (read : List ℕ → A) (k b : ℕ) (xs : List ℕ) where
  pub table_more : (i : ℕ) → table read k b (i + 1) xs ≡ table read k b i xs ++ read (row k (b + k * i) xs) ∷ []
  table_more i =
      let l = table read k b (suc i) xs in
      let n : length l ≡ suc i = table-length read k b (suc i) xs in
      rw add-one (sym (take_all (suc i) l (omega arith)) ∙ take-suc l i (read []) (omega arith)
      ∙ ap (λ t. t ++ get_or l i (read []) ∷ []) (table-take read k b xs i (suc i) (omega arith))
      ∙ ap (λ r. table read k b i xs ++ r ∷ []) (table_at read k b (suc i) i xs (omega arith)))

  -- the rows from j on
  pub table-from : (n j : ℕ) → j < n → drop j (table read k b n xs) ≡ read (row k (b + k * j) xs) ∷ drop (j + 1) (table read k b n xs)
  table-from n j h =
      let l = table read k b n xs in
      let e : length l ≡ n = table-length read k b n xs in
      rw add-one (drop-cons l j (read []) (omega arith) ∙ ap (λ r. r ∷ drop (suc j) l) (table_at read k b n j xs h))

  pub table-all : (P : A → Type 0) (n i : ℕ) → All P (table read k b n xs) → i < n → P (read (row k (b + k * i) xs))
  table-all P n i h l =
      let e : length (table read k b n xs) ≡ n = table-length read k b n xs in
      subst P (table_at read k b n i xs l) (all-index P (table read k b n xs) i (read []) h (omega arith))

  pub table-pairs : (R : A → A → Type 0) (n i j : ℕ) → Pairwise R (table read k b n xs) → i < j → j < n → R (read (row k (b + k * i) xs)) (read (row k (b + k * j) xs))
  table-pairs R n i j h l m =
      let e : length (table read k b n xs) ≡ n = table-length read k b n xs in
      subst (λ q. R (read (row k (b + k * i) xs)) q) (table_at read k b n j xs m)
      (subst (λ p. R p (get_or (table read k b n xs) j (read []))) (table_at read k b n i xs (omega arith)) (pairwise-index R (table read k b n xs) i j (read []) h l (omega arith)))
