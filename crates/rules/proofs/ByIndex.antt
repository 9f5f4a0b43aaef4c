-- Lists read by index: what holds of all, or of each pair, holds of what is read.
use mathlib.Core.Path.{◌≡◌, refl}
use mathlib.Core.List.{List, [], ◌∷◌}
use Prim.Native.Nat.{ℕ, zero, suc, ◌<◌}
use native.Mathlib.Nat.{not-suc-le-zero, le_of_suc-le-suc}
use native.Mathlib.Omega.{arith}
use lib.ListN.{length, get_or}
use Rattle.rules.specs.Lists.{All, Pairwise}

module _ {A : Type 0} where
  -- within the list the default is not read
  pub any-default : (d e : A) (xs : List A) (i : ℕ) → i < length xs → get_or xs i d ≡ get_or xs i e
  any-default d e [] i h = absurd (not-suc-le-zero h)
  any-default d e (x ∷ xs) zero h = refl
  any-default d e (x ∷ xs) (suc i) h = any-default d e xs i (le_of_suc-le-suc h)

  module _ (P : A → Type 0) (d : A) where
    pub all_read : (xs : List A) (i : ℕ) → All P xs → i < length xs → P (get_or xs i d)
    all_read [] i h l = absurd (not-suc-le-zero l)
    all_read (x ∷ xs) zero (h, k) l = h
    all_read (x ∷ xs) (suc i) (h, k) l = all_read xs i k (le_of_suc-le-suc l)

    pub all-of-reads : (xs : List A) → ((i : ℕ) → i < length xs → P (get_or xs i d)) → All P xs
    all-of-reads [] h = tt
    all-of-reads (x ∷ xs) h = (h 0 (omega arith), all-of-reads xs (λ i l. h (suc i) (omega arith)))

  pub pairwise-read : (S : A → A → Type 0) (d : A) (xs : List A) (i j : ℕ) → Pairwise S xs → i < j → j < length xs → S (get_or xs i d) (get_or xs j d)
  pairwise-read S d [] i j h l m = absurd (not-suc-le-zero m)
  pairwise-read S d (x ∷ xs) i zero h l m = absurd (not-suc-le-zero l)
  pairwise-read S d (x ∷ xs) zero (suc j) (h, k) l m = all_read (S x) d xs j h (le_of_suc-le-suc m)
  pairwise-read S d (x ∷ xs) (suc i) (suc j) (h, k) l m = pairwise-read S d xs i j k (le_of_suc-le-suc l) (le_of_suc-le-suc m)
