-- `lines::answer_lines`: each line answered makes the stretch longer (`turn`), and its answer stands within the output whatever is lent (`longer`).
use mathlib.Core.Path.{◌≡◌, ◌∙◌}
use mathlib.Core.Bool.{Bool}
use mathlib.Core.List.{List}
use mathlib.Core.Option.{Option}
use Prim.Native.Nat.{ℕ, ◌+◌, ◌-◌, ◌≤◌}
use native.Mathlib.Omega.{arith}
use lib.ListN.{length, take}
use Rattle.std.specs.Prelude.{Some}
use Rattle.rules.specs.Frames.{Operation, operation_of_line}
use Rattle.records.specs.Rows.{put}
use Rattle.records.proofs.Rows.{put-length}
use Rattle.frames.specs.Answering.{Known}
use Rattle.lines.specs.Batching.{FirstLine, PromisesLine}
use Rattle.lines.proofs.AnswerLines.{some-lent}
use Rattle.lines.proofs.StaysKnown.{stays-known}
use Rattle.lines.proofs.Stretch.{begun, part_from, part_length, written-within, turn, stopped, at-the-end}
use Rattle.lines.proofs.answer_lines.Goals as goal

further : (input : List ℕ) {used end : ℕ} → FirstLine (part_from used input) end → used ≤ length input → used + (end + 1) ≤ length input
further input {used} first read = omega (arith, first.inside, part_length used input)

longer : (known : Bool) (output : List ℕ) {o : Option Operation} {before after part : List ℕ} {written size : ℕ} → Known known before → PromisesLine o before after (part_from written output) part (Some size)
    → length part ≡ length (part_from written output) → written ≤ length output → written + size ≤ length output
longer known output {written = written} is promise kept fits =
    let lent = some-lent known is in omega (arith, written-within (promise lent.lent lent.is_lent).1 kept, part_length written output)

pub loop-used-init : goal.loop-used-init
loop-used-init c =
    record { read = omega arith; fits = omega arith; known = c.requires.0; underway = λ l is. begun l c.args.input.now c.args.room.now c.args.output.now is }

pub returns-in_default : goal.returns-in_default
returns-in_default c =
    let o = c.loop-used in record {
      batches = λ l is. stopped c.answer_next.new.room c.answer_next.new.output (o.invariant.underway l is) o.auto.output c.in_default.ensures.answered;
      within = (o.invariant.read, omega (arith, o.invariant.fits, o.auto.output));
    }

pub loop-used-preserved : goal.loop-used-preserved
loop-used-preserved c =
    let o = c.loop-used in
    let part = c.answer_next.new.output in
    let next = c.in-Some.ensures in
    let whole : length (put o.written (length o.output - o.written) o.output part) ≡ length o.output =
    put-length o.written (length o.output - o.written) o.output part (omega (arith, o.invariant.fits)) (c.answer_next.auto.output ∙ part_length o.written o.output) in record {
      read = further c.args.input.now next.found o.invariant.read;
      fits = omega (arith, longer c.args.known o.output o.invariant.known next.answered c.answer_next.auto.output o.invariant.fits, whole);
      known = stays-known c.args.known (operation_of_line (take c.in-Some.answered.end (part_from o.used c.args.input.now))) o.room c.answer_next.new.room (part_from o.written o.output) part c.in-Some.answered.size o.invariant.known next.answered;
      underway = λ l is. turn c.answer_next.new.room part c.in-Some.answered.end c.in-Some.answered.size (o.invariant.underway l is) next.found next.answered;
    }

pub loop-used-smaller : goal.loop-used-smaller
loop-used-smaller c = omega (arith, further c.args.input.now c.in-Some.ensures.found c.loop-used.invariant.read)

pub returns : goal.returns
returns c =
    let o = c.loop-used in record {
      batches = λ l is. at-the-end (o.invariant.underway l is) c.loop-used-test.false;
      within = (o.invariant.read, omega (arith, o.invariant.fits, o.auto.output));
    }

pub overflow_add-used : goal.overflow_add-used
overflow_add-used c = omega (arith, further c.args.input.now c.in-Some.ensures.found c.loop-used.invariant.read)

pub overflow_add-used-in-loop-used : goal.overflow_add-used-in-loop-used
overflow_add-used-in-loop-used c = omega (arith, further c.args.input.now c.in-Some.ensures.found c.loop-used.invariant.read)

pub overflow_add-written : goal.overflow_add-written
overflow_add-written c = omega (arith, longer c.args.known c.loop-used.output c.loop-used.invariant.known c.in-Some.ensures.answered c.answer_next.auto.output c.loop-used.invariant.fits)
