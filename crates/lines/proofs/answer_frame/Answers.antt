-- `lines::answer_frame`: the frame read is the bytes' operation, so its room is known, and at most the longest answer's. The answer stands in the part lent;
-- put back into the output (`put_back`) it is written there, and `line-written` of AnswerLines.antt makes its line.
use mathlib.Core.Path.{◌≡◌, refl, sym, ap, subst, ◌∙◌}
use mathlib.Core.List.{List, ◌++◌}
use mathlib.Core.Option.{Option}
use Prim.Native.Nat.{ℕ, ◌+◌, ◌≤◌}
use native.Mathlib.Omega.{arith}
use borrow.Author.Rules.{rules}
use lib.ListN.{length, take, drop}
use lib.Seq.{length_front, length-take-le}
use Rattle.rules.specs.Frames.{Operation, operation_of_frame}
use Rattle.frames.specs.Answering.{AnswersOperation, PromisesAnswer, longest_answer, room_for}
use Rattle.frames.proofs.Arms.{room-bounds}
use Rattle.lines.proofs.AnswerLines.{some-lent, within, put_back, line-written}
use Rattle.lines.proofs.answer_frame.Lts as place
use Rattle.lines.proofs.answer_frame.Tie as tie
use Rattle.lines.proofs.answer_frame.Goals as goal

abbrev Start : Type 0
Start = place.Start tie.the-claims tie.handed_pre tie.handed_post tie.handed_clauses

abbrev After-room_for-needed : Type 0
After-room_for-needed = place.After-room_for tie.the-claims tie.handed_pre tie.handed_post tie.handed_clauses

abbrev After-answer-size : Type 0
After-answer-size = place.After-answer tie.the-claims tie.handed_pre tie.handed_post tie.handed_clauses

-- the frame read is the bytes' operation, and its room is known
module _ (c : After-room_for-needed) where
  abbrev start : Start
  start = c.before.before.before.before.before

  abbrev operation : Option Operation
  operation = operation_of_frame start.args.bytes.now

  needed-is : c.room_for-needed.result ≡ room_for operation
  needed-is = let read = c.read-frame in c.room_for-needed.ensures start.args.bytes.now read.ensures.parts ∙ ap room_for read.ensures.operation

  needed-bound : c.room_for-needed.result ≤ longest_answer
  needed-bound = omega (arith, needed-is, (room-bounds operation).1)

-- the answer in the output's front
module _ (c : After-answer-size) where
  abbrev roomed : After-room_for-needed
  roomed = c.before.before.before.before

  abbrev output : List ℕ
  output = (start roomed).args.output.now

  abbrev needed : ℕ
  needed = roomed.room_for-needed.result

  abbrev part : List ℕ
  part = c.answer-size.new.output

  room : needed + needed + 1 ≤ length output
  room = c.if-output-needed.false

  kept : length part ≡ length (take needed output)
  kept = omega (arith, c.answer-size.auto)

  answers : PromisesAnswer (operation roomed) (start roomed).args.room.now c.answer-size.new.room output (part ++ drop needed output) c.answer-size.result
  answers l is_lent =
      let given = c.answer-size.ensures l is_lent in
      let same : AnswersOperation (operation roomed) l (start roomed).args.room.now c.answer-size.new.room (take needed output) part c.answer-size.result =
      subst (λ o. AnswersOperation o l (start roomed).args.room.now c.answer-size.new.room (take needed output) part c.answer-size.result) roomed.read-frame.ensures.operation given in
      record { writes = put_back output needed kept (omega (arith, room)) same.writes; lent = same.lent; untouched = same.untouched }

  short : c.answer-size.result ≤ needed
  short = let known = some-lent (start roomed).args.known (start roomed).requires in within output needed kept (omega (arith, room)) (c.answer-size.ensures known.lent known.is_lent).writes

pub overflow_add-needed : goal.overflow_add-needed
overflow_add-needed c = let bound = needed-bound c.before in search rules

pub overflow_add-needed-2 : goal.overflow_add-needed-2
overflow_add-needed-2 c = let bound = needed-bound c.before in search rules

pub returns-then-output-needed : goal.returns-then-output-needed
returns-then-output-needed c l is_lent = (omega (arith, needed-is c.before.before, c.if-output-needed.true), refl, refl)

pub slice_bounds-answer-end-2 : goal.slice_bounds-answer-end-2
slice_bounds-answer-end-2 c =
    sym (length-take-le c.room_for-needed.result (start c.before.before.before.before).args.output.now (omega (arith, c.if-output-needed.false)))

pub answer-size-requires : goal.answer-size-requires
answer-size-requires c =
    let read = c.read-frame in
    let long = length-take-le c.room_for-needed.result (start c.before.before.before.before).args.output.now (omega (arith, c.if-output-needed.false)) in
    ((start c.before.before.before.before).requires, (read.ensures.parts, omega (arith, long, c.room_for-needed.ensures (start c.before.before.before.before).args.bytes.now read.ensures.parts)))

pub finish-requires : goal.finish-requires
finish-requires c =
    omega (arith, short c.before.before.before.before.before.before, room c.before.before.before.before.before.before, length_front (output c.before.before.before.before.before.before) (part c.before.before.before.before.before.before) (needed c.before.before.before.before.before.before) (kept c.before.before.before.before.before.before))

pub returns : goal.returns
returns c l is_lent =
    (omega (arith, needed-is (roomed c.before.before.before.before.before.before.before.before.before), room c.before.before.before.before.before.before.before.before.before), line-written c.finish.ensures.end c.finish.ensures.line (answers c.before.before.before.before.before.before.before.before.before l is_lent))
