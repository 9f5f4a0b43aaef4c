-- `turns::settle`: `make_room` says what is held on; where the line that filled the input is handed on, its answer is the one line more (`further` of
-- Answering.antt), and else there is none.
use mathlib.Core.Path.{◌≡◌, refl, sym, subst, ap, ◌∙◌}
use mathlib.Core.Bool.{true}
use mathlib.Core.List.{List, [], ◌∷◌}
use Prim.Native.Nat.{ℕ, ◌≤◌, ◌<◌}
use native.Mathlib.Omega.{arith}
use lib.ListN.{length, take}
use Rattle.rules.specs.AnswerNumbers.{unsound}
use Rattle.rules.specs.Frames.{answers_to_lines, lent_after}
use Rattle.rules.proofs.Tests.{true-false}
use Rattle.frames.specs.Answering.{IsLent}
use Rattle.turns.specs.declared.Held.{Held}
use Rattle.turns.specs.Turns.{held_in, passed_over, TurnWithin}
use Rattle.turns.proofs.Answering.{line-written, line-lent, further}
use Rattle.turns.proofs.settle.Goals as goal

done-within : (h : Held) (size : ℕ) (input output : List ℕ) → (h.from ≤ h.end) × (h.end < length input) → size ≤ length output
    → (before : Held) → TurnWithin before input output (record { held = h; written = size; done = true })
done-within h size input output (order, room) fits before = record { held = (order, omega arith); written = fits; room_left = λ _. room; further = λ e. true-false refl e }

pub returns-then-held : goal.returns-then-held
returns-then-held c =
    let made = c.make_room-held in
    let call = c.answer_line-written in
    let taken = c.if-held.true in
    let h = made.result in
    let input = made.new.input in
    let after = call.new.room in
    let text = take call.result call.new.output in
    record {
      within = done-within h call.result input call.new.output made.ensures.room (omega (arith, call.ensures.within, call.auto));
      answers =
          λ is_line l read written a.
          let lent = lent_after l a.handed_on in
          let answer = call.ensures.answers lent a.lent in
          let (reads, held-line) = made.ensures.reads read a.handed_on is_line a.reads in
          let lines : passed_over h.passing input ≡ input ∷ [] = ap (λ p. passed_over p input) taken in
          record {
            answers =
                further a (passed_over h.passing input) h.passing (held_in input h) text after reads
                (line-written input answer ∙ ap (answers_to_lines lent) (sym lines))
                (subst (λ given. IsLent after (lent_after lent given)) (sym lines) (line-lent input answer));
            none_left = λ _. held-line;
          };
      unsound = λ is. (call.ensures.answers unsound is).untouched refl;
    }

pub returns : goal.returns
unfolding answers_to_lines lent_after
returns c =
    let made = c.make_room-held in
    let h = made.result in
    let input = made.new.input in
    let room = c.args.room.now in
    record {
      within = done-within h 0 input c.args.output.now made.ensures.room (omega arith);
      answers =
          λ is_line l read written a.
          let lent = lent_after l a.handed_on in
          let (reads, held-line) = made.ensures.reads read a.handed_on is_line a.reads in
          let lines : passed_over h.passing input ≡ [] = ap (λ p. passed_over p input) c.if-held.false in
          record {
            answers =
                further a (passed_over h.passing input) h.passing (held_in input h) [] room reads
                (ap (answers_to_lines lent) (sym lines))
                (subst (λ given. IsLent room (lent_after lent given)) (sym lines) a.lent);
            none_left = λ _. held-line;
          };
      unsound = λ is. refl;
    }

pub make_room-held-requires : goal.make_room-held-requires
make_room-held-requires c = (c.requires.0, c.requires.1, c.requires.2)

pub answer_line-written-requires : goal.answer_line-written-requires
answer_line-written-requires c = c.requires.3

pub shape_of-room-then-held : goal.shape_of-room-then-held
shape_of-room-then-held c = c.room-1.given

pub shape_of-input-then-held : goal.shape_of-input-then-held
shape_of-input-then-held c = c.input-1.given

pub shape_of-output-then-held : goal.shape_of-output-then-held
shape_of-output-then-held c = c.output-1.given

pub shape_of-input : goal.shape_of-input
shape_of-input c = c.input-1.given
