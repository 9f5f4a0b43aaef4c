-- Lists in which each has a key of its own: places by name, bookings and notes by id. What is found by a key is then all there is to know of
-- such a list: with the keys in ascending order, two lists in which every key finds the same are one list, by induction on both, since the least
-- keys find each other. The reordering theorem compares two ledgers by what each airline finds in them, and this turns that into their equality.
use mathlib.Core.Path.{◌≡◌, refl, sym, ◌∙◌, ap, ap₂, subst}
use mathlib.Core.Bool.{Bool, true, false}
use mathlib.Core.List.{List, [], ◌∷◌, map}
use mathlib.Core.Option.{none, some}
use Prim.Native.Nat.{Ordering}
use lib.Dec.{compare_is_eq}
use Rattle.rules.specs.Lists.{first, All, Pairwise}
use Rattle.rules.proofs.Tests.{by_order, none-some}
use Rattle.rules.proofs.Lists.{first-none, all_map, all_both}

-- ── all and pairwise, of a list and of its images ──────────────────────────────────────────────

module _ {A : Type 0} where
  pub pairwise_map : (S U : A → A → Type 0) → ((x y : A) → S x y → U x y) → (xs : List A) → Pairwise S xs → Pairwise U xs
  pairwise_map S U f [] h = tt
  pairwise_map S U f (x ∷ xs) (h, k) = (all_map (S x) (U x) (λ y s. f x y s) xs h, pairwise_map S U f xs k)

  -- a relation that needs both to have a property
  pub pairwise-with : (P : A → Type 0) (S U : A → A → Type 0) → ((x y : A) → P x → P y → S x y → U x y) → (xs : List A) → All P xs → Pairwise S xs → Pairwise U xs
  pairwise-with P S U f [] p h = tt
  pairwise-with P S U f (x ∷ xs) (p, q) (h, k) = (all_both P (S x) (U x) (λ y r s. f x y p r s) xs q h, pairwise-with P S U f xs q k)

module _ {A B : Type 0} (g : A → B) where
  pub all-images : (P : B → Type 0) (xs : List A) → All (λ x. P (g x)) xs → All P (map g xs)
  all-images P [] h = tt
  all-images P (x ∷ xs) (h, k) = (h, all-images P xs k)

  pub all-sources : (P : B → Type 0) (xs : List A) → All P (map g xs) → All (λ x. P (g x)) xs
  all-sources P [] h = tt
  all-sources P (x ∷ xs) (h, k) = (h, all-sources P xs k)

  pub pairwise-images : (S : B → B → Type 0) (xs : List A) → Pairwise (λ x y. S (g x) (g y)) xs → Pairwise S (map g xs)
  pairwise-images S [] h = tt
  pairwise-images S (x ∷ xs) (h, k) = (all-images (S (g x)) xs h, pairwise-images S xs k)

-- ── found by its own key ───────────────────────────────────────────────────────────────────────

-- where no key finds an earlier one, each is found by its own
pub all_found : {A : Type 0} (finds : A → A → Bool) → ((x : A) → finds x x ≡ true) → (xs : List A) → Pairwise (λ x y. finds y x ≡ false) xs → All (λ x. first (finds x) xs ≡ some x) xs
unfolding first
all_found finds self [] h = tt
all_found finds self (x ∷ xs) (h, k) =
    (rw (self x), all_both (λ y. finds y x ≡ false) (λ y. first (finds y) xs ≡ some y) (λ y. first (finds y) (x ∷ xs) ≡ some y) (λ y e f. rw e f) xs h (all_found finds self xs k))

-- ── in ascending order ─────────────────────────────────────────────────────────────────────────

abbrev pub has_key : {A K : Type 0} → (A → K) → (K → K → Ordering) → K → A → Bool
has_key key compare k x = compare_is_eq (compare k (key x))

abbrev pub Ascends : {A K : Type 0} → (A → K) → (K → K → Ordering) → A → A → Type 0
Ascends key compare x y = compare (key x) (key y) ≡ Ordering.lt

-- what makes a comparison a strict order
pub record IsOrder {K : Type 0} (compare : K → K → Ordering) : Type 0 where
  pub self : (k : K) → compare k k ≡ Ordering.eq
  pub equal : (j k : K) → compare j k ≡ Ordering.eq → j ≡ k
  pub flip : (j k : K) → compare j k ≡ Ordering.gt → compare k j ≡ Ordering.lt
  pub trans : (i j k : K) → compare i j ≡ Ordering.lt → compare j k ≡ Ordering.lt → compare i k ≡ Ordering.lt

module _ {A K : Type 0} (key : A → K) (compare : K → K → Ordering) (order : IsOrder compare) where
  -- a key below all is not there
  absent : (k : K) (xs : List A) → All (λ x. compare k (key x) ≡ Ordering.lt) xs → first (has_key key compare k) xs ≡ none
  absent k xs h = first-none (has_key key compare k) xs (all_map (λ x. compare k (key x) ≡ Ordering.lt) (λ x. has_key key compare k x ≡ false) (λ x e. ap compare_is_eq e) xs h)

  further : (k : K) (x : A) (xs : List A) → compare k (key x) ≡ Ordering.lt → All (Ascends key compare x) xs → All (λ y. compare k (key y) ≡ Ordering.lt) (x ∷ xs)
  further k x xs e h = (e, all_map (Ascends key compare x) (λ y. compare k (key y) ≡ Ordering.lt) (λ y f. order.trans k (key x) (key y) e f) xs h)

  head-found : (x : A) (xs : List A) → first (has_key key compare (key x)) (x ∷ xs) ≡ some x
  unfolding first
  head-found x xs = rw (order.self (key x))

  -- the smaller head is not in the other list
  smaller-head : {B : Type 0} (x y : A) (xs ys : List A) → first (has_key key compare (key x)) (x ∷ xs) ≡ first (has_key key compare (key x)) (y ∷ ys) → Ascends key compare x y → All (Ascends key compare y) ys → B
  smaller-head x y xs ys e l h = none-some (sym (absent (key x) (y ∷ ys) (further (key x) y ys l h)) ∙ sym e ∙ head-found x xs)

  tail-found : (k : K) (x : A) (xs : List A) → compare_is_eq (compare k (key x)) ≡ false → first (has_key key compare k) (x ∷ xs) ≡ first (has_key key compare k) xs
  unfolding first
  tail-found k x xs e = rw e

  pub same-ascending : (xs ys : List A) → Pairwise (Ascends key compare) xs → Pairwise (Ascends key compare) ys → ((k : K) → first (has_key key compare k) xs ≡ first (has_key key compare k) ys) → xs ≡ ys
  unfolding first
  same-ascending [] [] h g e = refl
  same-ascending [] (y ∷ ys) h g e = none-some (e (key y) ∙ head-found y ys)
  same-ascending (x ∷ xs) [] h g e = none-some (sym (e (key x)) ∙ head-found x xs)
  same-ascending (x ∷ xs) (y ∷ ys) (h, h') (g, g') e = by_order (λ o. compare (key x) (key y) ≡ o → (x ∷ xs) ≡ (y ∷ ys)) (compare (key x) (key y))
      (λ _ l. smaller-head x y xs ys (e (key x)) l g)
      (λ _ l. let q : some x ≡ some y = sym (head-found x xs) ∙ e (key x) ∙ ap (λ k. first (has_key key compare k) (y ∷ ys)) (order.equal (key x) (key y) l) ∙ head-found y ys in
      let p : x ≡ y = cc in
      ap₂ ◌∷◌ p (same-ascending xs ys h' g' (rest p)))
      (λ _ l. smaller-head y x ys xs (sym (e (key y))) (order.flip (key x) (key y) l) h) refl
    where
      rest : x ≡ y → (k : K) → first (has_key key compare k) xs ≡ first (has_key key compare k) ys
      rest p k = by_order (λ o. compare k (key x) ≡ o → first (has_key key compare k) xs ≡ first (has_key key compare k) ys) (compare k (key x))
          (λ _ l. apart (ap compare_is_eq l))
          (λ _ l. let n : k ≡ key x = order.equal k (key x) l in
          subst (λ j. first (has_key key compare j) xs ≡ first (has_key key compare j) ys) (sym n) (absent (key x) xs h ∙ sym (subst (λ z. first (has_key key compare (key z)) ys ≡ none) (sym p) (absent (key y) ys g))))
          (λ _ l. apart (ap compare_is_eq l)) refl
        where
          apart : compare_is_eq (compare k (key x)) ≡ false → first (has_key key compare k) xs ≡ first (has_key key compare k) ys
          apart n = sym (tail-found k x xs n) ∙ e k ∙ tail-found k y ys (subst (λ z. compare_is_eq (compare k (key z)) ≡ false) p n)
