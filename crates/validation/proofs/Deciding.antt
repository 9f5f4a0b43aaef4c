-- Checks in their order, as code asks them: one that fails decides, and one that passes leaves what stands after it.
use mathlib.Core.Path.{◌≡◌, refl, ap}
use mathlib.Core.Logic.{◌≢◌}
use mathlib.Core.Bool.{Bool, true, false}
use mathlib.Core.List.{[]}
use mathlib.Core.Option.{Option, none, some}
use lib.IntN.{ℤ}
use Rattle.std.specs.Prelude.{Result, Ok, Err}
use Rattle.rules.specs.AnswerNumbers.{Refusal, done}
use Rattle.rules.specs.SnapshotsMigrationCertificates.{◌gives◌else◌, and_then, reply_or, equals}
use Rattle.rules.proofs.Tests.{by_bool}
use Rattle.rules.proofs.Checks.{equals-true}
use Rattle.refusals.specs.declared.Refusal.{Refusal as Told}
use Rattle.refusals.specs.Answers.{refusal_in, answer_of, carries_nothing}

module _ (fails : Bool) (refusal : Refusal) (later : Option Refusal) where
  pub decides : fails ≡ true → (fails gives refusal else later) ≡ some refusal
  unfolding ◌gives◌else◌
  decides e = rw e

  pub goes_on : fails ≡ false → (fails gives refusal else later) ≡ later
  unfolding ◌gives◌else◌
  goes_on e = rw e

-- ── a check that was made, and what is checked after it ────────────────────────────────────────

module _ {checked : Option Refusal} (later : Option Refusal) where
  pub refuses : {e : Refusal} → some e ≡ checked → some e ≡ and_then checked later
  unfolding and_then
  refuses is = ap (λ o. and_then o later) is

  pub passes_on : none ≡ checked → later ≡ and_then checked later
  unfolding and_then
  passes_on is = ap (λ o. and_then o later) is

-- an answer that carries nothing, as the rules give it
pub answered : {A : Type 0} (r : Result A Told) → answer_of carries_nothing r ≡ reply_or (refusal_in r) (done [])
unfolding reply_or
answered (Ok x) = refl
answered (Err e) = refl

-- ── amounts ────────────────────────────────────────────────────────────────────────────────────

pub equals-other : (y z : ℤ) → y ≢ z → equals y z ≡ false
equals-other y z other = by_bool (λ b. equals y z ≡ b → b ≡ false) (equals y z) (λ _ e. absurd (other (equals-true y z e))) (λ _ e. refl) refl
