-- The first place that passes a test: `FirstIs` says of an answer what reading the list shows; the answer keeps it, and no other does, by induction.
use mathlib.Core.Path.{◌≡◌, refl, ap}
use mathlib.Core.Bool.{Bool, true, false, cond}
use mathlib.Core.List.{List, [], ◌∷◌}
use Prim.Native.Nat.{ℕ, zero, suc, ◌<◌}
use native.Mathlib.Nat.{not-suc-le-zero}
use native.Mathlib.Omega.{arith}
use lib.ListN.{length, get_or}
use Rattle.rules.specs.Lists.{All}
use Rattle.rules.proofs.Tests.{by-test}
use Rattle.std.specs.Prelude.{Option, Some, None, option_map}

module _ {A : Type 0} (test : A → Bool) where
  abbrev pub first_place : List A → Option ℕ
  first_place [] = None
  first_place (x ∷ xs) = cond (test x) (Some 0) (option_map suc (first_place xs))

module _ {A : Type 0} (test : A → Bool) (d : A) where
  -- what an answer says of the list
  abbrev pub FirstIs : List A → Option ℕ → Type 0
  FirstIs xs (Some i) = (i < length xs) × (test (get_or xs i d) ≡ true) × ((k : ℕ) → k < i → test (get_or xs k d) ≡ false)
  FirstIs xs None = All (λ x. test x ≡ false) xs

  first-later : (x : A) (xs : List A) (r : Option ℕ) → test x ≡ false → FirstIs xs r → FirstIs (x ∷ xs) (option_map suc r)
  first-later x xs (Some i) e (h, t, k) = (omega arith, t, before)
    where
      before : (j : ℕ) → j < suc i → test (get_or (x ∷ xs) j d) ≡ false
      before zero l = e
      before (suc j) l = k j (omega arith)
  first-later x xs None e h = (e, h)

  pub first-is : (xs : List A) → FirstIs xs (first_place test xs)
  first-is [] = tt
  first-is (x ∷ xs) = by-test (FirstIs (x ∷ xs)) (test x) (λ t. (omega arith, t, λ k l. absurd (not-suc-le-zero l))) (λ t. first-later x xs (first_place test xs) t (first-is xs))

  -- and no other answer does
  pub first-only : (xs : List A) (r : Option ℕ) → FirstIs xs r → r ≡ first_place test xs
  first-only [] (Some i) (h, t, k) = absurd (not-suc-le-zero h)
  first-only [] None h = refl
  first-only (x ∷ xs) (Some zero) (h, t, k) = rw t
  first-only (x ∷ xs) (Some (suc i)) (h, t, k) = rw (k 0 (omega arith)) (ap (option_map suc) (first-only xs (Some i) (omega arith, t, λ j l. k (suc j) (omega arith))))
  first-only (x ∷ xs) None (h, k) = rw h (ap (option_map suc) (first-only xs None k))
