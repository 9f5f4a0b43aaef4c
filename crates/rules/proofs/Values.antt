-- What an answer carries can be read back from its parts, so whether two answers are one can be told, part by part.
use mathlib.Core.Path.{◌≡◌, refl, sym, ap, ◌∙◌}
use mathlib.Core.Logic.{◌⊎◌, inl, inr, ⊎_elim}
use mathlib.Core.Bool.{Bool, true, false, cond, true≢false}
use mathlib.Core.List.{List, [], ◌∷◌, head-eq_of_cons-eq, tail-eq_of_cons-eq}
use Prim.Native.Nat.{ℕ}
use native.Mathlib.Omega.{arith}
use borrow.Author.Tests.{eq-eqb}
use lib.Dec.{eqb}
use lib.IntN.{ℤ, pos, negsuc}
use Rattle.rules.specs.AnswerNumbers.{Value, Amount, Identifier, Version, Fence, Count, Field, YesOrNo, TheName, SnapshotBytes, Reply}
use Rattle.rules.specs.SnapshotsMigrationCertificates.{equals}
use Rattle.rules.proofs.Tests.{equal_or_not, by_bool, true-false}
use Rattle.rules.proofs.Names.{same_false, same_or_not}
use Rattle.rules.proofs.Checks.{equals-true}

-- ── what can be told ───────────────────────────────────────────────────────────────────────────

abbrev pub Told : Type 0 → Type 0
Told P = P ⊎ (P → ⊥)

pub both_told : {P Q : Type 0} → Told P → Told Q → Told (P × Q)
both_told (inl p) (inl q) = inl (p, q)
both_told (inl p) (inr n) = inr (λ both. n both.1)
both_told (inr n) q = inr (λ both. n both.0)

-- another form of the same question
pub as-told : {P Q : Type 0} → (P → Q) → (Q → P) → Told P → Told Q
as-told f g = ⊎_elim (λ p. inl (f p)) (λ n. inr (λ q. n (g q)))

pub bytes-told : (xs ys : List ℕ) → Told (xs ≡ ys)
bytes-told xs ys = ⊎_elim inl (λ e. inr (same_false xs ys e)) (same_or_not xs ys)

list-told : {A : Type 0} → ((x y : A) → Told (x ≡ y)) → (xs ys : List A) → Told (xs ≡ ys)
list-told told [] [] = inl refl
list-told told [] (y ∷ ys) = inr (λ e. absurd (let z : ◌≡◌ {A = ℕ} 0 1 = cc in omega arith))
list-told told (x ∷ xs) [] = inr (λ e. absurd (let z : ◌≡◌ {A = ℕ} 0 1 = cc in omega arith))
list-told told (x ∷ xs) (y ∷ ys) =
    as-told (λ same i. same.0 i ∷ same.1 i) (λ e. (head-eq_of_cons-eq e, tail-eq_of_cons-eq e)) (both_told (told x y) (list-told told xs ys))

bools-told : (b c : Bool) → Told (b ≡ c)
bools-told true true = inl refl
bools-told true false = inr true≢false
bools-told false true = inr (λ e. true≢false (sym e))
bools-told false false = inl refl

pub equals-self : (z : ℤ) → equals z z ≡ true
equals-self (pos n) = eq-eqb n n refl
equals-self (negsuc n) = eq-eqb n n refl

amounts-told : (y z : ℤ) → Told (y ≡ z)
amounts-told y z = by_bool (λ _. Told (y ≡ z)) (equals y z) (λ t. inl (equals-true y z t)) (λ f. inr (λ e. true-false (ap (equals y) (sym e) ∙ equals-self y) f))

-- ── a value by its parts ───────────────────────────────────────────────────────────────────────

-- its kind, and what it holds by that kind
pub record Parts : Type 0 where
  pub kind : ℕ
  pub amount : ℤ
  pub number : ℕ
  pub yes : Bool
  pub bytes : List ℕ

abbrev parts : ℕ → ℤ → ℕ → Bool → List ℕ → Parts
parts k z n b bs = record { kind = k; amount = z; number = n; yes = b; bytes = bs }

abbrev pub parts_of : Value → Parts
parts_of (Amount z) = parts 0 z 0 false []
parts_of (Identifier n) = parts 1 (pos 0) n false []
parts_of (Version n) = parts 2 (pos 0) n false []
parts_of (Fence n) = parts 3 (pos 0) n false []
parts_of (Count n) = parts 4 (pos 0) n false []
parts_of (Field n) = parts 5 (pos 0) n false []
parts_of (YesOrNo b) = parts 6 (pos 0) 0 b []
parts_of (TheName a) = parts 7 (pos 0) 0 false a
parts_of (SnapshotBytes bs) = parts 8 (pos 0) 0 false bs

-- what stands beside a number in a table, and the last thing where it stands nowhere
abbrev pub beside : {A : Type 0} → ℕ → List (ℕ × A) → A → A
beside n [] last = last
beside n (x ∷ xs) last = cond (eqb n x.0) x.1 (beside n xs last)

abbrev value_of : Parts → Value
value_of p =
    beside p.kind
    ((0, Amount p.amount)
    ∷ (1, Identifier p.number)
    ∷ (2, Version p.number)
    ∷ (3, Fence p.number)
    ∷ (4, Count p.number)
    ∷ (5, Field p.number)
    ∷ (6, YesOrNo p.yes)
    ∷ (7, TheName p.bytes)
    ∷ [])
    (SnapshotBytes p.bytes)

value-back : (v : Value) → value_of (parts_of v) ≡ v
value-back (Amount z) = refl
value-back (Identifier n) = refl
value-back (Version n) = refl
value-back (Fence n) = refl
value-back (Count n) = refl
value-back (Field n) = refl
value-back (YesOrNo b) = refl
value-back (TheName a) = refl
value-back (SnapshotBytes bs) = refl

parts-told : (p q : Parts) → Told (p ≡ q)
parts-told p q =
    as-told
    (λ same i. record { kind = same.0.0 i; amount = same.0.1 i; number = same.1.0 i; yes = same.1.1.0 i; bytes = same.1.1.1 i })
    (λ e. ((λ i. (e i).kind, λ i. (e i).amount), (λ i. (e i).number, (λ i. (e i).yes, λ i. (e i).bytes))))
    (both_told (both_told (equal_or_not p.kind q.kind) (amounts-told p.amount q.amount))
    (both_told (equal_or_not p.number q.number) (both_told (bools-told p.yes q.yes) (bytes-told p.bytes q.bytes))))

values-told : (v w : Value) → Told (v ≡ w)
values-told v w = as-told (λ e. sym (value-back v) ∙ ap value_of e ∙ value-back w) (ap parts_of) (parts-told (parts_of v) (parts_of w))

-- ── whether two answers are one ────────────────────────────────────────────────────────────────

pub answers-told : (r s : Reply) → Told (r ≡ s)
answers-told r s =
    as-told (λ same i. record { number = same.0 i; carried = same.1 i }) (λ e. (λ i. (e i).number, λ i. (e i).carried))
    (both_told (equal_or_not r.number s.number) (list-told values-told r.carried s.carried))
