-- The answer table as a machine holds it: for each operation the set of its refusals as bits, and for each refusal what it carries.
use Rattle.std.specs.Prelude.{cond, List, [], ◌∷◌, map, ℕ, ◌^◌, eqb}
use Rattle.std.proofs.Math.Option.{Option, none, some}
use Rattle.rules.specs.Lists.{first, sum}
use Rattle.rules.specs.AnswerNumbers.{Reply, NegativeAmount, OverflowOfReserve, ExposureLimitExceeded, Insufficient, Overrun, ActiveReservations, DuplicateTenant, GhostReservation, NegativeLedgerField, ConservationViolation, InvalidAllocatorFence, reply_of}
use Rattle.rules.specs.Recorder.{amount, name, answer_table, forms_in}
use Rattle.recorder.specs.Shapes.{Kind, kind_of}

abbrev pub forms_at : (code : ℕ) → List Reply
forms_at code = forms_in (first (λ a. eqb code a.code) answer_table)

-- bit n stands for answer number n; done, number 0, is no refusal
abbrev pub bit_of : Reply → ℕ
bit_of r = cond (eqb r.number 0) 0 (2 ^ r.number)

unfoldable pub refusal_set : (code : ℕ) → ℕ
refusal_set code = sum bit_of (forms_at code)

-- the refusals that carry something; the others carry nothing
unfoldable pub carrying : List Reply
carrying = map reply_of (
    NegativeAmount amount ∷ OverflowOfReserve amount ∷ ExposureLimitExceeded amount amount ∷ Insufficient amount amount ∷ Overrun amount ∷ ActiveReservations 0
    ∷ DuplicateTenant name ∷ GhostReservation name amount ∷ NegativeLedgerField name 0 amount ∷ ConservationViolation name amount ∷ InvalidAllocatorFence 0 ∷ [])

abbrev pub carried_in : Option Reply → List Kind
carried_in none = []
carried_in (some form) = map kind_of form.carried

unfoldable pub carried_by : (number : ℕ) → List Kind
carried_by number = carried_in (first (λ r. eqb number r.number) carrying)
