-- `answer_table::shape_of`: a number above 24 has no form (`beyond`), and for all others `no-bit`, `of-top-up` and `of_others` of AnswerTable.antt say what the bit settles.
use mathlib.Core.Path.{sym, ◌∙◌, ap}
use mathlib.Core.Logic.{inl, inr}
use Prim.Native.Nat.{◌/◌, ◌%◌, ◌^◌}
use native.Mathlib.Omega.{arith}
use mathlib.Core.Option.{some}
use Rattle.recorder.specs.Shapes.{kinds_in}
use Rattle.recorder.proofs.AnswerTable.{beyond, no-bit, of-top-up, of_others}
use Rattle.recorder.proofs.answer_table.shape_of.Goals as goal
use Rattle.recorder.proofs.answer_table.shape_of.Goals.{then-number-eq-OVERFLOW_NUMBER+else-code-eq-TOP_UP, else-number-eq-OVERFLOW_NUMBER}

pub returns-then-number-gt-LAST_NUMBER : goal.returns-then-number-gt-LAST_NUMBER
returns-then-number-gt-LAST_NUMBER c = sym (ap kinds_in (beyond c.args.code c.args.number (omega arith)))

pub returns-then-refusals-number-eq0 : goal.returns-then-refusals-number-eq0
returns-then-refusals-number-eq0 c =
    no-bit _ _ (omega arith) (omega arith) (sym (ap (λ set. set / 2 ^ c.args.number % 2) c.refusals.ensures) ∙ c.if-refusals-number-eq0.true)

pub returns-then-code-eq-TOP_UP : goal.returns-then-code-eq-TOP_UP
returns-then-code-eq-TOP_UP c =
    of-top-up _ _ (omega arith) (omega arith)
    (λ e. c.if-refusals-number-eq0.false (ap (λ set. set / 2 ^ c.args.number % 2) c.refusals.ensures ∙ e))
    c.if-number-eq-OVERFLOW_NUMBER.true c.if-code-eq-TOP_UP.true

pub returns : goal.returns
returns c =
    ap (λ ks. some ks) c.carried.ensures
    ∙ of_others _ _ (omega arith) (omega arith)
    (λ e. c.if-refusals-number-eq0.false (ap (λ set. set / 2 ^ c.args.number % 2) c.refusals.ensures ∙ e))
    (elim c.if-number-eq-OVERFLOW_NUMBER.branch [
      | then-number-eq-OVERFLOW_NUMBER+else-code-eq-TOP_UP w ↦ inl (w.if-number-eq-OVERFLOW_NUMBER.true, w.if-code-eq-TOP_UP.false)
      | else-number-eq-OVERFLOW_NUMBER w ↦ inr w.if-number-eq-OVERFLOW_NUMBER.false
    ])
