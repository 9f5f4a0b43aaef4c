-- Answers that decide something: made of a fact, of a refutation, of a test, and put to use.
use Rattle.std.proofs.Common.{◌≡◌, ◌≢◌, refl, Bool, true, false, not, ℕ, eqb}
use borrow.Author.Tests.{eqb-true, eqb-false, not-true, not-false}
use Rattle.rules.proofs.Tests.{true-false}
use Rattle.soundness.specs.Facts.{Decides}
use Rattle.soundness.specs.Steps.{Leaves}

module _ {P : Type 0} where
  pub accept : P → Decides P true
  accept p = record { holds = λ _. p; fails = λ e _. true-false refl e }

  pub refuse : (P → ⊥) → Decides P false
  refuse n = record { holds = λ e. true-false e refl; fails = λ _. n }

  -- an answer that is a comparison
  pub by_equal : (m n : ℕ) → (m ≡ n → P) → (P → m ≡ n) → Decides P (eqb m n)
  by_equal m n f g = record { holds = λ e. f (eqb-true m n e); fails = λ e p. eqb-false m n e (g p) }

  pub by-unequal : (m n : ℕ) → (m ≢ n → P) → (P → m ≢ n) → Decides P (not (eqb m n))
  by-unequal m n f g = record { holds = λ e. f (eqb-false m n (not-true _ e)); fails = λ e p. g p (eqb-true m n (not-false _ e)) }

-- an answer to a question that is the same
pub by_answer : {P Q : Type 0} {r : Bool} → Decides P r → (P → Q) → (Q → P) → Decides Q r
by_answer d f g = record { holds = λ e. f (d.holds e); fails = λ e q. d.fails e (g q) }

-- answers that leave a question
module _ {P Q : Type 0} where
  pub leave : (Q → P) → (P → Q) → Leaves P Q true
  leave f g = record { suffices = λ _. f; needed = λ _. g; fails = λ e _. true-false refl e }

  pub leave_none : (P → ⊥) → Leaves P Q false
  leave_none n = record { suffices = λ e. true-false e refl; needed = λ e. true-false e refl; fails = λ _. n }
