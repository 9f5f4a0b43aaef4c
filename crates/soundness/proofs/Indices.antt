-- What holds of all the entries of a list is what holds at every index of it; and sums whose terms agree, or of which one is a part. The facts
-- number the places where the rules name them, so each clause goes from one to the other.
use mathlib.Core.Path.{◌≡◌, refl, ap₂}
use mathlib.Core.List.{List, [], ◌∷◌, map}
use Prim.Native.Nat.{ℕ, zero, suc, ◌+◌, ◌≤◌, ◌<◌}
use native.Mathlib.Omega.{arith}
use lib.ListN.{length, get_or}
use Rattle.rules.specs.Lists.{sum, All}
use Rattle.rules.proofs.Lists.{all_map}

module _ {A : Type 0} where
  -- what holds of all holds at an index
  pub at-index : (P : A → Type 0) (xs : List A) (i : ℕ) (d : A) → All P xs → i < length xs → P (get_or xs i d)
  at-index P [] i d h l = absurd (omega arith)
  at-index P (x ∷ xs) zero d (h, k) l = h
  at-index P (x ∷ xs) (suc i) d (h, k) l = at-index P xs i d k (omega arith)

  pub at-indices : (P : A → Type 0) (xs : List A) (d : A) → ((i : ℕ) → i < length xs → P (get_or xs i d)) → All P xs
  at-indices P [] d h = tt
  at-indices P (x ∷ xs) d h = (h 0 (omega arith), at-indices P xs d (λ i l. h (suc i) (omega arith)))

  -- the own term of each, in the sum that it asks for
  pub own-part : (w : A → A → ℕ) (xs : List A) → All (λ x. w x x ≤ sum (w x) xs) xs
  unfolding sum
  own-part w [] = tt
  own-part w (x ∷ xs) = (omega arith, all_map (λ y. w y y ≤ sum (w y) xs) (λ y. w y y ≤ w y x + sum (w y) xs) (λ y l. omega arith) xs (own-part w xs))

module _ {A B : Type 0} (f : A → B) where
  -- the sum over what a list is mapped to, term by term
  pub sum-images : (v : B → ℕ) (w : A → ℕ) (xs : List A) → All (λ x. v (f x) ≡ w x) xs → sum v (map f xs) ≡ sum w xs
  unfolding sum
  sum-images v w [] h = refl
  sum-images v w (x ∷ xs) (h, k) = ap₂ ◌+◌ h (sum-images v w xs k)

  pub at-mapped : (xs : List A) (i : ℕ) (c : B) (d : A) → i < length xs → get_or (map f xs) i c ≡ f (get_or xs i d)
  at-mapped [] i c d l = absurd (omega arith)
  at-mapped (x ∷ xs) zero c d l = refl
  at-mapped (x ∷ xs) (suc i) c d l = at-mapped xs i c d (omega arith)

  -- a list whose entries all come back comes back
  pub map_back : (g : B → A) (xs : List A) → All (λ x. g (f x) ≡ x) xs → map g (map f xs) ≡ xs
  map_back g [] h = refl
  map_back g (x ∷ xs) (h, k) = ap₂ ◌∷◌ h (map_back g xs k)
