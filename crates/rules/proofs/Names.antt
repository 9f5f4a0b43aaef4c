-- The order of names is a strict total order, and `same` is equality: by induction along the bytes, from the order of the first two.
use mathlib.Core.Path.{◌≡◌, refl, ◌∙◌, ap}
use mathlib.Core.Logic.{◌⊎◌, inl, inr, ◌≢◌}
use mathlib.Core.Bool.{true, false}
use mathlib.Core.List.{[], ◌∷◌}
use Prim.Native.Nat.{Ordering}
use Prim.Native.Nat.{ℕ, ◌≤◌, ◌<◌, compare}
use native.Mathlib.Omega.{arith}
use borrow.Author.Tests.{leb-true, leb-false, eqb-true, eqb-false}
use lib.Dec.{is_le, compare_is_eq}
use Rattle.rules.specs.RoomAndSoundLedger.{Name, then_by, order, same}
use Rattle.rules.proofs.Tests.{by_bool, by_order, true-false}

-- ── numbers compared ───────────────────────────────────────────────────────────────────────────

pub compare-lt : (x y : ℕ) → compare x y ≡ Ordering.lt → x < y
compare-lt x y e =
    let a : x ≤ y = leb-true x y (ap is_le e) in
    let b : x ≢ y = eqb-false x y (ap compare_is_eq e) in
    omega arith

pub compare-eq : (x y : ℕ) → compare x y ≡ Ordering.eq → x ≡ y
compare-eq x y e = eqb-true x y (ap compare_is_eq e)

pub compare-gt : (x y : ℕ) → compare x y ≡ Ordering.gt → y < x
compare-gt x y e = leb-false x y (ap is_le e)

pub lt-compare : (x y : ℕ) → x < y → compare x y ≡ Ordering.lt
lt-compare x y h = by_order (λ o. o ≡ Ordering.lt) (compare x y) (λ e. refl) (λ e. absurd (omega (arith, compare-eq x y e))) (λ e. absurd (omega (arith, compare-gt x y e)))

pub compare_self : (x : ℕ) → compare x x ≡ Ordering.eq
compare_self x = by_order (λ o. o ≡ Ordering.eq) (compare x x) (λ e. absurd (omega (arith, compare-lt x x e))) (λ e. refl) (λ e. absurd (omega (arith, compare-gt x x e)))

-- ── names compared ─────────────────────────────────────────────────────────────────────────────

pub order-self : (a : Name) → order a a ≡ Ordering.eq
unfolding order
order-self [] = refl
order-self (x ∷ xs) = rw (compare_self x) (order-self xs)

pub order-eq : (a b : Name) → order a b ≡ Ordering.eq → a ≡ b
unfolding order
order-eq [] [] e = refl
order-eq [] (y ∷ ys) e = cc
order-eq (x ∷ xs) [] e = cc
order-eq (x ∷ xs) (y ∷ ys) e = by_order (λ o. compare x y ≡ o → then_by o (order xs ys) ≡ Ordering.eq → (x ∷ xs) ≡ (y ∷ ys)) (compare x y)
    (λ _ h t. cc) (λ _ h t. let p : x ≡ y = compare-eq x y h in let q : xs ≡ ys = order-eq xs ys t in cc) (λ _ h t. cc) refl e

pub order_flip : (a b : Name) → order a b ≡ Ordering.gt → order b a ≡ Ordering.lt
unfolding order
order_flip [] [] e = cc
order_flip [] (y ∷ ys) e = cc
order_flip (x ∷ xs) [] e = refl
order_flip (x ∷ xs) (y ∷ ys) e = by_order (λ o. compare x y ≡ o → then_by o (order xs ys) ≡ Ordering.gt → then_by (compare y x) (order ys xs) ≡ Ordering.lt) (compare x y)
    (λ _ h t. cc)
    (λ _ h t. rw (compare-eq x y h, compare_self y) (order_flip xs ys t))
    (λ _ h t. rw (lt-compare y x (compare-gt x y h))) refl e

pub order_trans : (a b c : Name) → order a b ≡ Ordering.lt → order b c ≡ Ordering.lt → order a c ≡ Ordering.lt
unfolding order
order_trans [] [] c e f = f
order_trans [] (y ∷ ys) [] e f = cc
order_trans [] (y ∷ ys) (z ∷ zs) e f = refl
order_trans (x ∷ xs) [] c e f = cc
order_trans (x ∷ xs) (y ∷ ys) [] e f = cc
order_trans (x ∷ xs) (y ∷ ys) (z ∷ zs) e f =
    by_order (λ o. compare x y ≡ o → then_by o (order xs ys) ≡ Ordering.lt → Goal) (compare x y)
    (λ _ h t. by_order (λ o. compare y z ≡ o → then_by o (order ys zs) ≡ Ordering.lt → Goal) (compare y z)
    (λ _ k u. rw (lt-compare x z (omega (arith, compare-lt x y h, compare-lt y z k))))
    (λ _ k u. rw (lt-compare x z (omega (arith, compare-lt x y h, compare-eq y z k))))
    (λ _ k u. cc) refl f)
    (λ _ h t. by_order (λ o. compare y z ≡ o → then_by o (order ys zs) ≡ Ordering.lt → Goal) (compare y z)
    (λ _ k u. rw (lt-compare x z (omega (arith, compare-eq x y h, compare-lt y z k))))
    (λ _ k u. rw (compare-eq x y h, k) (order_trans xs ys zs t u))
    (λ _ k u. cc) refl f)
    (λ _ h t. cc) refl e
  where
    Goal : Type 0
    Goal = then_by (compare x z) (order xs zs) ≡ Ordering.lt

-- ── the same name ──────────────────────────────────────────────────────────────────────────────

pub same_self : (a : Name) → same a a ≡ true
unfolding same
same_self a = ap compare_is_eq (order-self a)

pub same_true : (a b : Name) → same a b ≡ true → a ≡ b
unfolding same
same_true a b = by_order (λ o. order a b ≡ o → compare_is_eq o ≡ true → a ≡ b) (order a b) (λ _ e t. true-false t refl) (λ _ e t. order-eq a b e) (λ _ e t. true-false t refl) refl

pub same_false : (a b : Name) → same a b ≡ false → a ≢ b
same_false a b e p = true-false (same_self a) (ap (λ c. same a c) p ∙ e)

pub other : (a b : Name) → a ≢ b → same a b ≡ false
other a b n = by_bool (λ c. same a b ≡ c → c ≡ false) (same a b) (λ _ t. absurd (n (same_true a b t))) (λ _ t. refl) refl

pub same_or_not : (a b : Name) → (a ≡ b) ⊎ (same a b ≡ false)
same_or_not a b = by_bool (λ c. (a ≡ b) ⊎ (same a b ≡ false)) (same a b) (λ e. inl (same_true a b e)) (λ e. inr e)

pub lt-other : (a b : Name) → order a b ≡ Ordering.lt → same a b ≡ false
unfolding same
lt-other a b e = ap compare_is_eq e

pub gt-other : (a b : Name) → order a b ≡ Ordering.gt → same a b ≡ false
unfolding same
gt-other a b e = ap compare_is_eq e
