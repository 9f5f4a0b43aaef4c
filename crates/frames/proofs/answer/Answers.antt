-- `frames::answer`: a bad frame is refused whatever the memory is lent as. What is known of the memory says which of the two it is lent as; the other is absurd.
-- A sound room goes to `perform`, and other memory is left alone, since an unsound ledger stays one (`still-unsound` of Arms.antt).
use mathlib.Core.Path.{◌≡◌, refl, sym, subst}
use mathlib.Core.Bool.{Bool, true, false}
use mathlib.Core.List.{List}
use mathlib.Core.Option.{none}
use Prim.Native.Nat.{ℕ}
use Rattle.std.specs.Prelude.{Option, Some, None}
use Rattle.rules.specs.AnswerNumbers.{sound, unsound}
use Rattle.frame_reader.specs.declared.Frame.{Frame}
use Rattle.frame_reader.specs.Operations.{operation_in, operation_read}
use Rattle.frames.specs.Answering.{Known, AnswersOperation}
use Rattle.frames.proofs.Arms.{still-unsound, left_alone}
use Rattle.frames.proofs.answer.Goals as goal

bad-frame : (bs : List ℕ) (read : Option Frame) → ((f : Frame) → read ≡ Some f → ⊥) → operation_read bs read ≡ none
bad-frame bs None other = refl
bad-frame bs (Some f) other = absurd (other f refl)

pub returns-in_default : goal.returns-in_default
returns-in_default c l lent =
    subst (λ o. AnswersOperation o l c.args.room.now c.args.room.now c.args.output.now c.write_refusal.new.output c.write_refusal.result)
    (sym (bad-frame c.args.bytes.now c.args.read c.in_default.not-Some))
    (left_alone {o = none} refl lent c.write_refusal.ensures)

pub returns : goal.returns
returns c (sound L) is_room = absurd (subst (λ (known : Bool). Known known c.args.room.now) c.if-known.false c.requires.0 L is_room)
returns c unsound other =
    subst (λ (read : Option Frame). AnswersOperation (operation_read c.args.bytes.now read) unsound c.args.room.now c.args.room.now c.args.output.now c.without_ledger.new.output c.without_ledger.result)
    (sym c.in-Some.is)
    (left_alone (still-unsound (operation_in c.args.bytes.now c.in-Some.frame)) other c.without_ledger.ensures)
