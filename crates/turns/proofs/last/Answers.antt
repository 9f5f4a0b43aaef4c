-- `turns::last`: nothing held is no line (`ends-at-feed` of WholeInput.antt); what is held is one, and its answer ends the output (`ends-in-line`).
use mathlib.Core.Path.{◌≡◌, refl, ap}
use mathlib.Core.List.{List}
use Prim.Native.Nat.{ℕ, ◌-◌, ◌≤◌}
use native.Mathlib.Omega.{arith}
use lib.ListN.{length}
use Rattle.rules.specs.AnswerNumbers.{unsound}
use Rattle.rules.specs.Frames.{lent_after}
use Rattle.records.specs.Rows.{row}
use Rattle.turns.specs.Turns.{held_in}
use Rattle.turns.proofs.Parts.{part_length}
use Rattle.turns.proofs.WholeInput.{ends-at-feed, ends-in-line}
use Rattle.turns.proofs.last.Lts as place
use Rattle.turns.proofs.last.Tie as tie
use Rattle.turns.proofs.last.Goals as goal

abbrev Start : Type 0
Start = place.Start tie.the-claims tie.handed_pre tie.handed_post tie.handed_clauses

module _ (s : Start) where
  abbrev input : List ℕ
  input = s.args.input.now

  long : length (held_in input s.args.held) ≡ s.args.held.end - s.args.held.from
  long = part_length s.args.held.from s.args.held.end input s.requires.0.0 s.requires.0.1

  short : length (held_in input s.args.held) ≤ length input
  short = omega (arith, long, s.requires.0.1)

pub returns-then-end-from : goal.returns-then-end-from
returns-then-end-from c =
    let h = c.args.held in
    let none : h.end - h.from ≡ 0 = omega (arith, c.if-end-from.true) in
    record {
      within = omega arith;
      answers = λ l read written enough is_line a. ends-at-feed (length (input c.before.before.before.before.before)) enough (short c.before.before.before.before.before) is_line a (ap (λ n. row n h.from (input c.before.before.before.before.before)) none);
      unsound = λ _. refl;
    }

pub returns : goal.returns
returns c =
    let call = c.answer_line in
    record {
      within = omega (arith, call.ensures.within, call.auto);
      answers =
          λ l read written enough is_line a. ends-in-line (length (input c.before.before.before.before.before.before.before.before.before.before.before.before.before)) enough (short c.before.before.before.before.before.before.before.before.before.before.before.before.before) is_line a (omega (arith, long c.before.before.before.before.before.before.before.before.before.before.before.before.before, c.if-end-from.false, c.requires.0.0))
          (call.ensures.answers (lent_after l a.handed_on) a.lent);
      unsound = λ is. (call.ensures.answers unsound is).untouched refl;
    }

pub answer_line-requires : goal.answer_line-requires
answer_line-requires c = c.requires.1

pub shape_of-room : goal.shape_of-room
shape_of-room c = c.room-1.given

pub shape_of-output : goal.shape_of-output
shape_of-output c = c.output-1.given
