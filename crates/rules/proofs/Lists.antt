-- Laws of the functions and predicates on lists, by induction along the list and a test of its head.
use mathlib.Core.Path.{◌≡◌, refl, subst}
use mathlib.Core.Bool.{Bool, true, false, cond}
use mathlib.Core.List.{List, [], ◌∷◌, ◌++◌, flat_map, append_assoc, append-nil}
use mathlib.Core.Option.{none, some}
use Prim.Native.Nat.{ℕ, suc, ◌+◌, ◌≤◌}
use native.Mathlib.Omega.{arith}
use lib.ListN.{length}
use Rattle.rules.specs.Lists.{first, any, keep, sum, All, Pairwise}
use Rattle.rules.proofs.Tests.{by-test, by_bool, true-false, or-false}

module _ {A : Type 0} where
  -- ── the first, and whether there is one ──────────────────────────────────────────────────────

  pub first_passes : (f : A → Bool) (xs : List A) (x : A) → first f xs ≡ some x → f x ≡ true
  unfolding first
  first_passes f [] x e = cc
  first_passes f (y ∷ xs) x e = by-test (λ o. o ≡ some x → f x ≡ true) (f y) (λ t e. let q : y ≡ x = cc in subst (λ z. f z ≡ true) q t) (λ t e. first_passes f xs x e) e

  -- what holds of all holds of the first
  pub first-all : (P : A → Type 0) (f : A → Bool) (xs : List A) (x : A) → All P xs → first f xs ≡ some x → P x
  unfolding first
  first-all P f [] x h e = absurd (let z : ◌≡◌ {A = ℕ} 0 1 = cc in omega arith)
  first-all P f (y ∷ xs) x (h, k) e = by-test (λ o. o ≡ some x → P x) (f y) (λ t e. let q : y ≡ x = cc in subst P q h) (λ t e. first-all P f xs x k e) e

  pub first-none : (f : A → Bool) (xs : List A) → All (λ x. f x ≡ false) xs → first f xs ≡ none
  unfolding first
  first-none f [] h = refl
  first-none f (x ∷ xs) (h, k) = rw h (first-none f xs k)

  pub first_any : (f : A → Bool) (xs : List A) → any f xs ≡ false → first f xs ≡ none
  unfolding first any
  first_any f [] h = refl
  first_any f (x ∷ xs) h = let (a, b) = or-false (f x) (any f xs) h in rw a (first_any f xs b)

  pub any_none : (f : A → Bool) (xs : List A) → All (λ x. f x ≡ false) xs → any f xs ≡ false
  unfolding any
  any_none f [] h = refl
  any_none f (x ∷ xs) (h, k) = rw h (any_none f xs k)

  pub none_any : (f : A → Bool) (xs : List A) → any f xs ≡ false → All (λ x. f x ≡ false) xs
  unfolding any
  none_any f [] h = tt
  none_any f (x ∷ xs) h = let (a, b) = or-false (f x) (any f xs) h in (a, none_any f xs b)

  -- a first that is kept stays the first
  pub first-keep : (f g : A → Bool) (xs : List A) → ((x : A) → f x ≡ true → g x ≡ true) → first f (keep g xs) ≡ first f xs
  unfolding first keep
  first-keep f g [] h = refl
  first-keep f g (x ∷ xs) h = by-test (λ l. first f l ≡ first f (x ∷ xs)) (g x) (λ t. rw (first-keep f g xs h))
      (λ t. by_bool (λ b. f x ≡ b → first f (keep g xs) ≡ cond b (some x) (first f xs)) (f x) (λ e d. true-false (h x d) t) (λ e d. first-keep f g xs h) refl)

  pub first-keep-none : (f g : A → Bool) (xs : List A) → ((x : A) → f x ≡ true → g x ≡ false) → first f (keep g xs) ≡ none
  unfolding first keep
  first-keep-none f g [] h = refl
  first-keep-none f g (x ∷ xs) h = by-test (λ l. first f l ≡ none) (g x)
      (λ t. by-test (λ o. o ≡ none) (f x) (λ e. true-false t (h x e)) (λ e. first-keep-none f g xs h))
      (λ t. first-keep-none f g xs h)

  -- one more at the end
  pub first_more : (f : A → Bool) (xs : List A) (y : A) → f y ≡ false → first f (xs ++ y ∷ []) ≡ first f xs
  unfolding first
  first_more f [] y e = rw e
  first_more f (x ∷ xs) y e = rw (first_more f xs y e)

  pub first-last : (f : A → Bool) (xs : List A) (y : A) → f y ≡ true → first f xs ≡ none → first f (xs ++ y ∷ []) ≡ some y
  unfolding first
  first-last f [] y e h = rw e
  first-last f (x ∷ xs) y e h = by_bool (λ b. cond b (some x) (first f xs) ≡ none → cond b (some x) (first f (xs ++ y ∷ [])) ≡ some y) (f x) (λ t h. cc) (λ t h. first-last f xs y e h) h

  -- ── all, pairwise, those kept ────────────────────────────────────────────────────────────────

  pub all_map : (P Q : A → Type 0) → ((x : A) → P x → Q x) → (xs : List A) → All P xs → All Q xs
  all_map P Q f [] h = tt
  all_map P Q f (x ∷ xs) (h, k) = (f x h, all_map P Q f xs k)

  pub all_both : (P Q S : A → Type 0) → ((x : A) → P x → Q x → S x) → (xs : List A) → All P xs → All Q xs → All S xs
  all_both P Q S f [] h k = tt
  all_both P Q S f (x ∷ xs) (h, h') (k, k') = (f x h k, all_both P Q S f xs h' k')

  pub all_join : (P : A → Type 0) (xs ys : List A) → All P xs → All P ys → All P (xs ++ ys)
  all_join P [] ys h k = k
  all_join P (x ∷ xs) ys (h, h') k = (h, all_join P xs ys h' k)

  -- each element's list one after the other
  pub all-flat : {B : Type 0} (P : A → Type 0) (Q : B → Type 0) (f : B → List A) → ((y : B) → Q y → All P (f y)) → (ys : List B) → All Q ys → All P (flat_map f ys)
  unfolding flat_map
  all-flat P Q f g [] h = tt
  all-flat P Q f g (y ∷ ys) (h, k) = all_join P (f y) (flat_map f ys) (g y h) (all-flat P Q f g ys k)

  pub all-parts : (P : A → Type 0) (xs ys : List A) → All P (xs ++ ys) → All P xs × All P ys
  all-parts P [] ys h = (tt, h)
  all-parts P (x ∷ xs) ys (h, k) = let (a, b) = all-parts P xs ys k in ((h, a), b)

  pub all_keep : (P : A → Type 0) (g : A → Bool) (xs : List A) → All P xs → All P (keep g xs)
  unfolding keep
  all_keep P g [] h = tt
  all_keep P g (x ∷ xs) (h, k) = by-test (All P) (g x) (λ t. (h, all_keep P g xs k)) (λ t. all_keep P g xs k)

  pub all-kept : (g : A → Bool) (xs : List A) → All (λ x. g x ≡ true) (keep g xs)
  unfolding keep
  all-kept g [] = tt
  all-kept g (x ∷ xs) = by-test (All (λ x. g x ≡ true)) (g x) (λ t. (t, all-kept g xs)) (λ t. all-kept g xs)

  pub all_more : (P : A → Type 0) (xs : List A) (y : A) → All P xs → P y → All P (xs ++ y ∷ [])
  all_more P [] y h p = (p, tt)
  all_more P (x ∷ xs) y (h, k) p = (h, all_more P xs y k p)

  pub pairwise-keep : (S : A → A → Type 0) (g : A → Bool) (xs : List A) → Pairwise S xs → Pairwise S (keep g xs)
  unfolding keep
  pairwise-keep S g [] h = tt
  pairwise-keep S g (x ∷ xs) (h, k) = by-test (Pairwise S) (g x) (λ t. (all_keep (S x) g xs h, pairwise-keep S g xs k)) (λ t. pairwise-keep S g xs k)

  pub pairwise-more : (S : A → A → Type 0) (xs : List A) (y : A) → Pairwise S xs → All (λ x. S x y) xs → Pairwise S (xs ++ y ∷ [])
  pairwise-more S [] y h k = (tt, tt)
  pairwise-more S (x ∷ xs) y (h, h') (k, k') = (all_more (S x) xs y h k, pairwise-more S xs y h' k')

  pub length-keep : (g : A → Bool) (xs : List A) → length (keep g xs) ≤ length xs
  unfolding keep
  length-keep g [] = omega arith
  length-keep g (x ∷ xs) = by-test (λ l. length l ≤ suc (length xs)) (g x) {x = x ∷ keep g xs} {y = keep g xs} (λ t. omega (arith, length-keep g xs)) (λ t. omega (arith, length-keep g xs))

  pub keep_all : (g : A → Bool) (xs : List A) → All (λ x. g x ≡ true) xs → keep g xs ≡ xs
  unfolding keep
  keep_all g [] h = refl
  keep_all g (x ∷ xs) (h, k) = rw (h, keep_all g xs k)

  -- ── sums ─────────────────────────────────────────────────────────────────────────────────────

  pub sum_more : (w : A → ℕ) (xs : List A) (y : A) → sum w (xs ++ y ∷ []) ≡ sum w xs + w y
  unfolding sum
  sum_more w [] y = omega arith
  sum_more w (x ∷ xs) y = omega (arith, sum_more w xs y)

  pub sum-zero : (w : A → ℕ) (xs : List A) → All (λ x. w x ≡ 0) xs → sum w xs ≡ 0
  unfolding sum
  sum-zero w [] h = refl
  sum-zero w (x ∷ xs) (h, k) = omega (arith, sum-zero w xs k)

-- ── lists made one behind the other ────────────────────────────────────────────────────────────

pub flat_map-append : {A B : Type 0} (f : A → List B) (xs ys : List A) → flat_map f (xs ++ ys) ≡ flat_map f xs ++ flat_map f ys
unfolding flat_map
flat_map-append f [] ys = refl
flat_map-append f (x ∷ xs) ys = rw (flat_map-append f xs ys, append_assoc)

pub flat_map-one : {A B : Type 0} (f : A → List B) (x : A) → flat_map f (x ∷ []) ≡ f x
unfolding flat_map
flat_map-one f x = append-nil (f x)
