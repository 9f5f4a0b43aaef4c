-- The bits, the shapes and the rules' forms agree. For the codes and the numbers that there are, this is one test over all pairs, which is computed; every other code and
-- number is in no row.
use mathlib.Core.Path.{◌≡◌, refl, sym, ◌∙◌, ap, ap₂}
use mathlib.Core.Logic.{◌⊎◌, inl, inr, ⊎_elim}
use mathlib.Core.Bool.{Bool, true, false, cond, ◌&&◌}
use mathlib.Core.List.{List, [], ◌∷◌, map}
use mathlib.Core.Option.{Option, none, some}
use Prim.Native.Nat.{ℕ, zero, suc, ◌/◌, ◌%◌, ◌^◌, ◌≤◌, ◌<◌}
use native.Mathlib.Nat.{zero-div}
use native.Mathlib.Omega.{arith}
use borrow.Author.Tests.{eq-eqb, ne_eqb, eqb-true, ltb-true, ltb-false}
use lib.Dec.{eqb, ltb}
use lib.ListN.{length}
use Rattle.rules.specs.Lists.{first, sum, All}
use Rattle.rules.specs.AnswerNumbers.{Reply}
use Rattle.rules.specs.Recorder.{Answers, answer_table, forms_in, form_of}
use Rattle.rules.proofs.Tests.{by-test, by_bool, by-option, and-true, true-false, equal_or_not}
use Rattle.rules.proofs.Lists.{first-none, first-all, all_map}
use Rattle.recorder.specs.Shapes.{Kind, a_word, a_byte, a_flag, a_name, a_snapshot, kind_of, kinds_in}
use Rattle.recorder.specs.Refusals.{forms_at, bit_of, refusal_set, carrying, carried_in, carried_by}

-- a proof of all, one by one
infixr 5 ◌and◌
abbrev pub ◌and◌ : {A B : Type 0} → A → B → A × B
a and b = (a, b)

-- ── what is in no row ──────────────────────────────────────────────────────────────────────────

-- 01 to 0e are all the codes
pub no_row : (code : ℕ) → (1 ≤ code → 14 < code) → first (λ (a : Answers). eqb code a.code) answer_table ≡ none
unfolding answer_table
no_row code h = first-none (λ (a : Answers). eqb code a.code) answer_table
    (all_map (λ (a : Answers). (1 ≤ a.code) × (a.code ≤ 14)) (λ a. eqb code a.code ≡ false)
    (λ a (low, high). ne_eqb code a.code (λ e. let above : 14 < code = h (omega arith) in omega arith)) answer_table (omega arith))

pub no-forms : (code : ℕ) → (1 ≤ code → 14 < code) → forms_at code ≡ []
no-forms code h = ap forms_in (no_row code h)

-- what a match over the numbers 1 to k leaves
abbrev NoneOf : (n k : ℕ) → Type 0
NoneOf n zero = Unit {0}
NoneOf n (suc k) = NoneOf n k × (n ≡ suc k → ⊥)

pub above : (n k : ℕ) → NoneOf n k → 1 ≤ n → k < n
above n zero h low = low
above n (suc k) (h, other) low = let below : k < n = above n k h low in omega arith

-- no answer has a number above 24
numbers-end : All (λ (a : Answers). All (λ (r : Reply). r.number ≤ 24) a.forms) answer_table
unfolding answer_table
numbers-end =
    omega arith and omega arith and omega arith and omega arith and omega arith and omega arith and omega arith
    and omega arith and omega arith and omega arith and omega arith and omega arith and omega arith and omega arith and tt

pub beyond : (code number : ℕ) → 24 < number → form_of code number ≡ none
unfolding form_of
beyond code number h = first-none (λ (r : Reply). eqb number r.number) (forms_at code)
    (all_map (λ (r : Reply). r.number ≤ 24) (λ r. eqb number r.number ≡ false) (λ r small. ne_eqb number r.number (λ e. omega arith)) (forms_at code)
    (by-option (λ o. first (λ (a : Answers). eqb code a.code) answer_table ≡ o → All (λ (r : Reply). r.number ≤ 24) (forms_in o))
    (first (λ (a : Answers). eqb code a.code) answer_table)
    (λ _ _. tt)
    (λ a _ found. first-all (λ (a : Answers). All (λ (r : Reply). r.number ≤ 24) a.forms) _ answer_table a numbers-end found)
    refl))

-- ── one test for all the others ────────────────────────────────────────────────────────────────

abbrev kind_number : Kind → ℕ
kind_number a_word = 0
kind_number a_byte = 1
kind_number a_flag = 2
kind_number a_name = 3
kind_number a_snapshot = 4

abbrev kind_numbered : ℕ → Kind
kind_numbered zero = a_word
kind_numbered (suc zero) = a_byte
kind_numbered (suc (suc zero)) = a_flag
kind_numbered (suc (suc (suc zero))) = a_name
kind_numbered (suc (suc (suc (suc n)))) = a_snapshot

kind-numbered : (k : Kind) → kind_numbered (kind_number k) ≡ k
kind-numbered a_word = refl
kind-numbered a_byte = refl
kind-numbered a_flag = refl
kind-numbered a_name = refl
kind-numbered a_snapshot = refl

abbrev same_kinds : List Kind → List Kind → Bool
same_kinds [] [] = true
same_kinds [] (l ∷ ls) = false
same_kinds (k ∷ ks) [] = false
same_kinds (k ∷ ks) (l ∷ ls) = eqb (kind_number k) (kind_number l) && same_kinds ks ls

same-kinds : (ks ls : List Kind) → same_kinds ks ls ≡ true → ks ≡ ls
same-kinds [] [] t = refl
same-kinds [] (l ∷ ls) t = true-false t refl
same-kinds (k ∷ ks) [] t = true-false t refl
same-kinds (k ∷ ks) (l ∷ ls) t =
    let (head, tail) = and-true (eqb (kind_number k) (kind_number l)) (same_kinds ks ls) t in
    ap₂ (λ x xs. x ∷ xs) (sym (kind-numbered k) ∙ ap kind_numbered (eqb-true (kind_number k) (kind_number l) head) ∙ kind-numbered l) (same-kinds ks ls tail)

abbrev same : Option (List Kind) → Option (List Kind) → Bool
same none none = true
same none (some ls) = false
same (some ks) none = false
same (some ks) (some ls) = same_kinds ks ls

same-is : (o p : Option (List Kind)) → same o p ≡ true → o ≡ p
same-is none none t = refl
same-is none (some ls) t = true-false t refl
same-is (some ks) none t = true-false t refl
same-is (some ks) (some ls) t = ap some (same-kinds ks ls t)

abbrev every : (ℕ → Bool) → ℕ → Bool
every f zero = true
every f (suc n) = f n && every f n

every-at : (f : ℕ → Bool) (n : ℕ) → every f n ≡ true → (k : ℕ) → k < n → f k ≡ true
every-at f zero t k h = absurd (omega arith)
every-at f (suc n) t k h =
    let (last, others) = and-true (f n) (every f n) t in
    ⊎_elim (λ e. ap f e ∙ last) (λ other. every-at f n others k (omega arith)) (equal_or_not k n)

-- what stands behind a refusal's number, by the bits and the list of what carries something
abbrev pub bit_at : (code number : ℕ) → ℕ
bit_at code number = refusal_set code / 2 ^ number % 2

abbrev behind : (code number : ℕ) → Option (List Kind)
behind code number = cond (eqb (bit_at code number) 0) none (some (cond (eqb number 4 && eqb code 2) [] (carried_by number)))

unfoldable agrees : (code number : ℕ) → Bool
agrees code number = same (kinds_in (form_of code number)) (behind code number)

tested : every (λ code. every (λ n. agrees code (suc n)) 24) 15 ≡ true
unfolding agrees form_of refusal_set carried_by carrying answer_table first sum
tested = refl

within : (code number : ℕ) → code < 15 → 1 ≤ number → number ≤ 24 → kinds_in (form_of code number) ≡ behind code number
unfolding agrees
within code zero c low high = absurd (omega arith)
within code (suc n) c low high =
    same-is (kinds_in (form_of code (suc n))) (behind code (suc n))
    (every-at (λ n. agrees code (suc n)) 24 (every-at (λ code. every (λ n. agrees code (suc n)) 24) 15 tested code c) n (omega arith))

-- an unknown code has no forms, so no bits either
unknown : (code number : ℕ) → 14 < code → kinds_in (form_of code number) ≡ behind code number
unfolding form_of first refusal_set sum
unknown code number h =
    let forms : forms_at code ≡ [] = no-forms code (λ _. h) in
    let bit : bit_at code number ≡ 0 = ap (λ xs. sum bit_of xs / 2 ^ number % 2) forms ∙ ap (λ n. n % 2) (zero-div (2 ^ number)) in
    ap (λ xs. kinds_in (first (λ r. eqb number r.number) xs)) forms
    ∙ sym (ap (λ b. cond (eqb b 0) none (some (cond (eqb number 4 && eqb code 2) [] (carried_by number)))) bit)

agreed : (code number : ℕ) → 1 ≤ number → number ≤ 24 → kinds_in (form_of code number) ≡ behind code number
agreed code number low high = by_bool (λ _. kinds_in (form_of code number) ≡ behind code number) (ltb code 15)
    (λ t. within code number (ltb-true code 15 t) low high)
    (λ t. unknown code number (ltb-false code 15 t))

-- by what the bit is, and whether it is the 4 of a top-up
module _ (code number : ℕ) (low : 1 ≤ number) (high : number ≤ 24) where
  pub no-bit : bit_at code number ≡ 0 → none ≡ kinds_in (form_of code number)
  no-bit e = sym (agreed code number low high ∙ ap (λ b. cond (eqb b 0) none (some (cond (eqb number 4 && eqb code 2) [] (carried_by number)))) e)

  has-bit : (bit_at code number ≡ 0 → ⊥) → (top_up : Bool) → eqb number 4 && eqb code 2 ≡ top_up → some (cond top_up [] (carried_by number)) ≡ kinds_in (form_of code number)
  has-bit other top_up e = sym (agreed code number low high
      ∙ ap₂ (λ b t. cond b none (some (cond t [] (carried_by number)))) (ne_eqb (bit_at code number) 0 other) e)

  pub of-top-up : (bit_at code number ≡ 0 → ⊥) → number ≡ 4 → code ≡ 2 → some [] ≡ kinds_in (form_of code number)
  of-top-up other n c = has-bit other true (ap₂ (λ a b. a && b) (eq-eqb number 4 n) (eq-eqb code 2 c))

  pub of_others : (bit_at code number ≡ 0 → ⊥) → ((number ≡ 4) × (code ≡ 2 → ⊥)) ⊎ (number ≡ 4 → ⊥) → some (carried_by number) ≡ kinds_in (form_of code number)
  of_others other (inl (n, c)) = has-bit other false (ap₂ (λ a b. a && b) (eq-eqb number 4 n) (ne_eqb code 2 c))
  of_others other (inr n) = has-bit other false (ap (λ a. a && eqb code 2) (ne_eqb number 4 n))

-- ── how many values ────────────────────────────────────────────────────────────────────────────

abbrev count_in : Option (List Kind) → ℕ
count_in none = 0
count_in (some ks) = length ks

carried-few : (number : ℕ) → length (carried_by number) ≤ 3
unfolding carried_by carrying
carried-few number = by-option (λ o. first (λ (r : Reply). eqb number r.number) carrying ≡ o → length (carried_in o) ≤ 3) (first (λ (r : Reply). eqb number r.number) carrying)
    (λ _ _. omega arith)
    (λ r _ found. first-all (λ (r : Reply). length (map kind_of r.carried) ≤ 3) (λ (r : Reply). eqb number r.number) carrying r (omega arith) found)
    refl

behind-few : (code number : ℕ) → count_in (behind code number) ≤ 3
behind-few code number = by-test (λ o. count_in o ≤ 3) (eqb (bit_at code number) 0)
    (λ _. omega arith)
    (λ _. by-test (λ ks. length ks ≤ 3) (eqb number 4 && eqb code 2) (λ _. omega arith) (λ _. carried-few number))

-- a refusal carries at most three
pub many-is-done : (code number : ℕ) (ks : List Kind) → some ks ≡ kinds_in (form_of code number) → 4 ≤ length ks → number ≡ 0
many-is-done code zero ks is many = refl
many-is-done code (suc n) ks is many =
    let counted : length ks ≡ count_in (kinds_in (form_of code (suc n))) = ap count_in is in
    by_bool (λ _. suc n ≡ 0) (ltb 24 (suc n))
    (λ t. let none-there : count_in (kinds_in (form_of code (suc n))) ≡ 0 = ap (λ o. count_in (kinds_in o)) (beyond code (suc n) (ltb-true 24 (suc n) t)) in absurd (omega arith))
    (λ t. let few = behind-few code (suc n) in
    let same_count : count_in (kinds_in (form_of code (suc n))) ≡ count_in (behind code (suc n)) = ap count_in (agreed code (suc n) (omega arith) (ltb-false 24 (suc n) t)) in
    absurd (omega arith))
