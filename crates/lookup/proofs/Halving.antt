-- A search by halving in an ascending list: what lies before low comes before what is sought, what lies from high on comes after it.
use mathlib.Core.Path.{◌≡◌, subst}
use mathlib.Core.Logic.{◌⊎◌, inl, inr}
use mathlib.Core.Bool.{Bool, true, false}
use mathlib.Core.List.{List}
use Prim.Native.Nat.{ℕ, ◌+◌, ◌≤◌, ◌<◌}
use native.Mathlib.Nat.{eq-or-lt_of_le}
use native.Mathlib.Decide.{dec_lt}
use native.Mathlib.Omega.{arith}
use borrow.Author.Count.{below_none, below_more}
use lib.ListN.{length, get_or}
use Rattle.rules.specs.Lists.{Pairwise}
use Rattle.std.specs.Prelude.{Some, None}
use Rattle.rules.proofs.ByIndex.{all-of-reads, pairwise-read}
use Rattle.lookup.proofs.FirstPlace.{FirstIs}

-- what an order and a test need of what comes before and after the one sought
pub record Divides {A : Type 0} (S : A → A → Type 0) (test : A → Bool) (Below Above : A → Type 0) : Type 0 where
  pub lower : (x y : A) → S x y → Below y → Below x
  pub higher : (x y : A) → S x y → Above x → Above y
  pub at : (x y : A) → S x y → test y ≡ true → Below x
  pub below : (x : A) → Below x → test x ≡ false
  pub above : (x : A) → Above x → test x ≡ false

pub record Bracket {A : Type 0} (Below Above : A → Type 0) (d : A) (xs : List A) (low high : ℕ) : Type 0 where
  pub ordered : low ≤ high
  pub within : high ≤ length xs
  pub below : (k : ℕ) → k < low → Below (get_or xs k d)
  pub above : (k : ℕ) → high ≤ k → k < length xs → Above (get_or xs k d)

module _ {A : Type 0} (Below Above : A → Type 0) (d : A) (xs : List A) where
  pub whole : (n : ℕ) → length xs ≡ n → Bracket Below Above d xs 0 n
  whole n e = record { ordered = omega arith; within = omega arith; below = below_none (λ k. Below (get_or xs k d)); above = λ k h l. absurd (omega arith) }

module _ {A : Type 0} {S : A → A → Type 0} {test : A → Bool} {Below Above : A → Type 0} (divides : Divides S test Below Above) (d : A) (xs : List A) (ascend : Pairwise S xs) where
  module _ {low high : ℕ} (bracket : Bracket Below Above d xs low high) (middle : ℕ) (from : low ≤ middle) (to : middle < high) where
    pub raise-low : Below (get_or xs middle d) → Bracket Below Above d xs (middle + 1) high
    raise-low h =
        record {
          ordered = omega arith;
          within = bracket.within;
          below = below_more (λ k. Below (get_or xs k d)) middle (λ k l. divides.lower (get_or xs k d) (get_or xs middle d) (pairwise-read S d xs k middle ascend l (omega arith)) h) h;
          above = bracket.above;
        }

    pub lower_high : Above (get_or xs middle d) → Bracket Below Above d xs low middle
    lower_high h = record { ordered = from; within = omega arith; below = bracket.below; above = λ k l m. go k m (eq-or-lt_of_le l) }
      where
        go : (k : ℕ) → k < length xs → (middle ≡ k) ⊎ (middle < k) → Above (get_or xs k d)
        go k m (inl e) = subst (λ j. Above (get_or xs j d)) e h
        go k m (inr l) = divides.higher (get_or xs middle d) (get_or xs k d) (pairwise-read S d xs middle k ascend l m) h

    pub hit : test (get_or xs middle d) ≡ true → FirstIs test d xs (Some middle)
    hit t = (omega arith, t, λ k l. divides.below (get_or xs k d) (divides.at (get_or xs k d) (get_or xs middle d) (pairwise-read S d xs k middle ascend l (omega arith)) t))

  pub miss : {low high : ℕ} → Bracket Below Above d xs low high → high ≤ low → FirstIs test d xs None
  miss {low} {high} bracket h = all-of-reads (λ x. test x ≡ false) d xs (λ k l. go k l (dec_lt k low))
    where
      go : (k : ℕ) → k < length xs → Dec (k < low) → test (get_or xs k d) ≡ false
      go k l (yes b) = divides.below (get_or xs k d) (bracket.below k b)
      go k l (no b) = divides.above (get_or xs k d) (bracket.above k (omega arith) l)
