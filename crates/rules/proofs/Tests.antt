-- A proof by a test, an option or an order: one case for each answer, with the answer as an equation at hand.
use mathlib.Core.Path.{◌≡◌, refl, sym, ◌∙◌}
use mathlib.Core.Logic.{◌⊎◌, inl, inr, ◌≢◌}
use mathlib.Core.Bool.{Bool, true, false, cond, ◌&&◌, ◌||◌, true≢false}
use mathlib.Core.Option.{Option, none, some}
use Prim.Native.Nat.{ℕ, ◌≤◌, ◌<◌, Ordering}
use native.Mathlib.Omega.{arith}
use lib.Dec.{ltb, eqb}
use borrow.Author.Tests.{ltb-true, ltb-false, eqb-true, eqb-false}

-- the goal names what the test chooses
pub by-test : {A : Type 0} (P : A → Type 0) (b : Bool) {x y : A} → (b ≡ true → P x) → (b ≡ false → P y) → P (cond b x y)
by-test P true f g = f refl
by-test P false f g = g refl

-- the goal names the test itself
pub by_bool : (P : Bool → Type 0) (b : Bool) → (b ≡ true → P true) → (b ≡ false → P false) → P b
by_bool P true f g = f refl
by_bool P false f g = g refl

pub by-option : {A : Type 0} (P : Option A → Type 0) (o : Option A) → (o ≡ none → P none) → ((x : A) → o ≡ some x → P (some x)) → P o
by-option P none f g = f refl
by-option P (some x) f g = g x refl

pub by_order : (P : Ordering → Type 0) (o : Ordering) → (o ≡ Ordering.lt → P Ordering.lt) → (o ≡ Ordering.eq → P Ordering.eq) → (o ≡ Ordering.gt → P Ordering.gt) → P o
by_order P Ordering.lt f g h = f refl
by_order P Ordering.eq f g h = g refl
by_order P Ordering.gt f g h = h refl

pub true-false : {A : Type 0} {b : Bool} → b ≡ true → b ≡ false → A
true-false e f = absurd (true≢false (sym e ∙ f))

pub equal_or_not : (m n : ℕ) → (m ≡ n) ⊎ (m ≢ n)
equal_or_not m n = by_bool (λ b. (m ≡ n) ⊎ (m ≢ n)) (eqb m n) (λ e. inl (eqb-true m n e)) (λ e. inr (eqb-false m n e))

pub less-or-not : (m n : ℕ) → (m < n) ⊎ (n ≤ m)
less-or-not m n = by_bool (λ _. (m < n) ⊎ (n ≤ m)) (ltb m n) (λ e. inl (ltb-true m n e)) (λ e. inr (ltb-false m n e))

pub or-false : (a b : Bool) → a || b ≡ false → (a ≡ false) × (b ≡ false)
or-false true b e = true-false refl e
or-false false b e = (refl, e)

pub and-true : (a b : Bool) → a && b ≡ true → (a ≡ true) × (b ≡ true)
and-true true b e = (refl, e)
and-true false b e = true-false e refl

pub none-some : {A B : Type 0} {x : A} → none ≡ some x → B
none-some e = absurd (let z : ◌≡◌ {A = ℕ} 0 1 = cc in omega arith)
