-- A list that is computed from a function has its rule at each entry, by induction. The code's table is that list by computation, so `gives` is asked for once
-- where a table is made.
use mathlib.Core.Path.{◌≡◌, refl}
use mathlib.Core.List.{List, [], ◌∷◌}
use Prim.Native.Nat.{ℕ, zero, suc, ◌<◌}
use native.Mathlib.Nat.{le_of_suc-le-suc, not-suc-le-zero}
use lib.ListN.{get_or}
use Rattle.digits.specs.Tables.{Gives}

-- the values at 0 up to n
abbrev pub table : (ℕ → ℕ) → ℕ → List ℕ
table f zero = []
table f (suc n) = f 0 ∷ table (λ k. f (suc k)) n

entry : (f : ℕ → ℕ) (n k : ℕ) → k < n → get_or (table f n) k 0 ≡ f k
entry f zero k h = absurd (not-suc-le-zero h)
entry f (suc n) zero h = refl
entry f (suc n) (suc k) h = entry (λ k. f (suc k)) n k (le_of_suc-le-suc h)

pub gives : (f : ℕ → ℕ) (n : ℕ) → Gives f n (table f n)
gives = entry
