-- `turns::answer`: nothing held leaves all as it was. Where the batch used something it answered whole lines at the front of what is held (`batched` of
-- Answering.antt); where it used nothing no whole line is left, since the output has room for any answer (`none-batched`), and `settle` ends the turn.
use mathlib.Core.Path.{◌≡◌, refl, sym, subst, ap, ◌∙◌}
use mathlib.Core.Bool.{false}
use mathlib.Core.List.{List, ◌++◌}
use Prim.Native.Nat.{ℕ, ◌+◌, ◌-◌, ◌≤◌, ◌<◌}
use native.Mathlib.Omega.{arith}
use lib.ListN.{length, take}
use Rattle.rules.specs.AnswerNumbers.{unsound}
use Rattle.rules.specs.Frames.{lent_after}
use Rattle.rules.proofs.Tests.{true-false}
use Rattle.records.specs.Rows.{row}
use Rattle.frames.specs.Answering.{IsLent}
use Rattle.turns.specs.Turns.{held_in, Answers}
use Rattle.turns.proofs.Parts.{part_length, part-shorter}
use Rattle.turns.proofs.Answering.{not-passing, unwritten, none-batched, lent-as, batched}
use Rattle.turns.proofs.answer.Lts as place
use Rattle.turns.proofs.answer.Tie as tie
use Rattle.turns.proofs.answer.Goals as goal

abbrev Start : Type 0
Start = place.Start tie.the-claims tie.handed_pre tie.handed_post tie.handed_clauses

abbrev After-struct_known-2-1 : Type 0
After-struct_known-2-1 = place.After-struct_known2 tie.the-claims tie.handed_pre tie.handed_post tie.handed_clauses

module _ (s : Start) where
  abbrev input : List ℕ
  input = s.args.input.now

  abbrev part : List ℕ
  part = held_in input s.args.held

  long : length part ≡ s.args.held.end - s.args.held.from
  long = part_length s.args.held.from s.args.held.end input s.requires.0.0 s.requires.0.1

  some : (s.args.held.from ≡ s.args.held.end → ⊥) → 0 < length part
  some apart = omega (arith, long, apart, s.requires.0.0)

pub returns-then-from-end : goal.returns-then-from-end
returns-then-from-end c =
    let h = c.args.held in
    let none : h.end - h.from ≡ 0 = omega (arith, c.if-from-end.true) in
    record {
      within = record { held = (omega arith, omega arith); written = omega arith; room_left = λ _. c.requires.1; further = λ e. true-false refl e };
      answers =
          λ l read written a. record {
            answers = unwritten (subst (Answers l (length (input c.before.before.before.before.before)) read written c.args.room.now h.passing) (ap (λ n. row n h.from (input c.before.before.before.before.before)) none) a);
            none_left = λ _. tt;
          };
      unsound = λ _. refl;
    }

pub returns-then-progress-eq0 : goal.returns-then-progress-eq0
returns-then-progress-eq0 c =
    let call = c.settle in
    let batch = c.batch-progress in
    let after = batch.new.room in
    record {
      within = call.ensures.within c.args.held;
      answers =
          λ l read written passing.
          let a = not-passing passing (some c.before.before.before.before.before.before.before.before.before.before.before.before.before.before.before.before.before.before.before.before.before.before.before.before.before c.if-from-end.false) in
          let (lent, is_line) = none-batched c.requires.2 c.if-progress-eq0.true (batch.ensures.batches (lent_after l a.handed_on) a.lent) in
          call.ensures.answers is_line l read written (lent-as a after lent);
      unsound = λ is. let same = (batch.ensures.batches unsound is).untouched refl in call.ensures.unsound (subst (λ m. IsLent m unsound) (sym same) is) ∙ same;
    }

pub settle-requires : goal.settle-requires
settle-requires c = (c.requires.0.0, c.requires.0.1, c.requires.1, omega (arith, c.requires.2, c.output-1.given))

module _ (c : After-struct_known-2-1) where
  abbrev start : Start
  start = c.before.before.before.before.before.before.before.before.before.before.before.before.before.before.before

  used-within : start.args.held.from + c.batch-progress.result.used ≤ start.args.held.end
  used-within = omega (arith, c.batch-progress.ensures.within.0, long start, start.requires.0.0)

pub returns : goal.returns
returns c =
    let batch = c.batch-progress in
    let s = start c.before in
    let h = s.args.held in
    let b = batch.result in
    let text = take b.written batch.new.output in
    record {
      within = record {
        held = (used-within c.before, s.requires.0.1);
        written = omega (arith, batch.ensures.within.1, batch.auto);
        room_left = λ e. true-false e refl;
        further = λ _. (omega (arith, c.if-progress-eq0.false), refl);
      };
      answers =
          λ l read written passing.
          let a = not-passing passing (some s c.if-from-end.false) in
          record {
            answers =
                subst (Answers l (length (input s)) read (written ++ text) batch.new.room false)
                (part-shorter h.from h.end b.used (input s) s.requires.0.0 s.requires.0.1 (omega (arith, used-within c.before)))
                (batched a (omega (arith, long s, s.requires.0.1)) (batch.ensures.batches (lent_after l a.handed_on) a.lent));
            none_left = λ e. true-false e refl;
          };
      unsound = λ is. (batch.ensures.batches unsound is).untouched refl;
    }

pub shape_of-room-then-progress-eq0 : goal.shape_of-room-then-progress-eq0
shape_of-room-then-progress-eq0 c = c.room-then-progress-eq0-1.given ∙ c.room-1.given

pub shape_of-input-then-progress-eq0 : goal.shape_of-input-then-progress-eq0
shape_of-input-then-progress-eq0 c = c.input-1.given

pub shape_of-output-then-progress-eq0 : goal.shape_of-output-then-progress-eq0
shape_of-output-then-progress-eq0 c = c.output-then-progress-eq0-1.given ∙ c.output-1.given

pub shape_of-room : goal.shape_of-room
shape_of-room c = c.room-1.given

pub shape_of-output : goal.shape_of-output
shape_of-output c = c.output-1.given
