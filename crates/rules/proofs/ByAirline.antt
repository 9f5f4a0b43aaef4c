-- Two lists in which every airline has the same part, in the same order, hold the same things, each as often: what holds of all in one holds of
-- all in the other, and every sum over them is the same. So ids drawn airline by airline add up to one next id, whatever the order between them.
-- By induction on the one list: its head is its airline's first in the other too, and is taken out there.
use mathlib.Core.Path.{◌≡◌, refl, sym, ◌∙◌, ap, subst}
use mathlib.Core.Logic.{◌⊎◌, inl, inr}
use mathlib.Core.Bool.{false, cond}
use mathlib.Core.List.{List, [], ◌∷◌}
use Prim.Native.Nat.{ℕ, ◌+◌}
use native.Mathlib.Omega.{arith}
use Rattle.rules.specs.Lists.{keep, sum, All}
use Rattle.rules.specs.RoomAndSoundLedger.{Name, same}
use Rattle.rules.proofs.Tests.{by-test, by_bool}
use Rattle.rules.proofs.Names.{same_self, same_true, same_or_not}

module _ {A : Type 0} (airline : A → Name) where
  -- an airline's part of a list
  abbrev pub part : Name → List A → List A
  part a = keep (λ x. same a (airline x))

  -- all but an airline's first
  but_first : Name → List A → List A
  but_first a [] = []
  but_first a (x ∷ xs) = cond (same a (airline x)) xs (x ∷ but_first a xs)

  head-of-part : (x : A) (xs : List A) → part (airline x) (x ∷ xs) ≡ x ∷ part (airline x) xs
  unfolding keep
  head-of-part x xs = rw (same_self (airline x))

  not-of-part : (a : Name) (x : A) (xs : List A) → same a (airline x) ≡ false → part a (x ∷ xs) ≡ part a xs
  unfolding keep
  not-of-part a x xs n = rw n

  part-but-first : (a : Name) (xs : List A) (x : A) (rest : List A) → part a xs ≡ x ∷ rest → part a (but_first a xs) ≡ rest
  unfolding keep but_first
  part-but-first a [] x rest e = cc
  part-but-first a (y ∷ xs) x rest e = by_bool (λ b. same a (airline y) ≡ b → cond b (y ∷ part a xs) (part a xs) ≡ x ∷ rest → part a (cond b xs (y ∷ but_first a xs)) ≡ rest) (same a (airline y))
      (λ _ t f. cc) (λ _ t f. rw t (part-but-first a xs x rest f)) refl e

  part-but-first-other : (b a : Name) (xs : List A) → same b a ≡ false → part b (but_first a xs) ≡ part b xs
  unfolding keep but_first
  part-but-first-other b a [] n = refl
  part-but-first-other b a (y ∷ xs) n = by_bool (λ c. same a (airline y) ≡ c → part b (cond c xs (y ∷ but_first a xs)) ≡ part b (y ∷ xs)) (same a (airline y))
      (λ _ t. rw (← same_true a (airline y) t, n)) (λ _ t. rw (part-but-first-other b a xs n)) refl

  sum-but-first : (w : A → ℕ) (a : Name) (xs : List A) (x : A) (rest : List A) → part a xs ≡ x ∷ rest → sum w xs ≡ w x + sum w (but_first a xs)
  unfolding keep but_first sum
  sum-but-first w a [] x rest e = absurd (let z : ◌≡◌ {A = ℕ} 0 1 = cc in omega arith)
  sum-but-first w a (y ∷ xs) x rest e = by_bool (λ b. cond b (y ∷ part a xs) (part a xs) ≡ x ∷ rest → w y + sum w xs ≡ w x + sum w (cond b xs (y ∷ but_first a xs))) (same a (airline y))
      (λ _ f. let p : y ≡ x = cc in ap (λ z. w z + sum w xs) p) (λ _ f. omega (arith, sum-but-first w a xs x rest f)) e

  pub same_sum : (w : A → ℕ) (xs ys : List A) → ((a : Name) → part a xs ≡ part a ys) → sum w xs ≡ sum w ys
  unfolding sum
  same_sum w [] [] h = refl
  same_sum w [] (y ∷ ys) h = absurd (let p = head-of-part y ys in let q = h (airline y) in let z : ◌≡◌ {A = ℕ} 0 1 = unfold keep in cc in omega arith)
  same_sum w (x ∷ xs) ys h =
      let e : part (airline x) ys ≡ x ∷ part (airline x) xs = sym (h (airline x)) ∙ head-of-part x xs in
      omega (arith, sum-but-first w (airline x) ys x _ e, same_sum w xs (but_first (airline x) ys) (λ a. rest e a (same_or_not a (airline x))))
    where
      rest : part (airline x) ys ≡ x ∷ part (airline x) xs → (a : Name) → (a ≡ airline x) ⊎ (same a (airline x) ≡ false) → part a xs ≡ part a (but_first (airline x) ys)
      rest e a (inl q) = subst (λ b. part b xs ≡ part b (but_first (airline x) ys)) (sym q) (sym (part-but-first (airline x) ys x _ e))
      rest e a (inr n) = sym (not-of-part a x xs n) ∙ h a ∙ sym (part-but-first-other a (airline x) ys n)

  -- what holds of every airline's part holds of all
  pub all-by-airline : (P : A → Type 0) (xs : List A) → ((a : Name) → All P (part a xs)) → All P xs
  unfolding keep
  all-by-airline P [] h = tt
  all-by-airline P (x ∷ xs) h =
      let here : P x × All P (part (airline x) xs) = rw (same_self (airline x)) at (h (airline x)) in
      (here.0, all-by-airline P xs (λ a. by-test (λ l. All P l → All P (part a xs)) (same a (airline x)) (λ _ k. k.1) (λ _ k. k) (h a)))
