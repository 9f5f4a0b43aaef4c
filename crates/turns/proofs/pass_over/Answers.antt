-- `turns::pass_over`: what stands in front of the line feed found, or all that was read where there is none, is more of the line that is passed over
-- (`passed` and `pass_on` of Reading.antt); what stands behind it is held (`behind-feed` of Parts.antt).
use mathlib.Core.Path.{sym, subst}
use mathlib.Core.Bool.{false}
use mathlib.Core.List.{◌++◌}
use Prim.Native.Nat.{◌+◌, ◌-◌}
use native.Mathlib.Omega.{arith}
use lib.ListN.{length, take, drop}
use lib.Seq.{length-take-le}
use Rattle.records.specs.Rows.{row}
use Rattle.lines.specs.Batching.{IsLine}
use Rattle.turns.specs.Turns.{Reads}
use Rattle.turns.proofs.Parts.{part-is, behind-feed}
use Rattle.turns.proofs.Reading.{pass_on, passed}
use Rattle.turns.proofs.pass_over.Goals as goal

pub slice_bounds-line_end-end : goal.slice_bounds-line_end-end
slice_bounds-line_end-end c = sym (length-take-le c.args.end c.args.input.now c.requires.1)

pub line_end-requires : goal.line_end-requires
line_end-requires c = omega (arith, length-take-le c.args.end c.args.input.now c.requires.1, c.requires)

pub returns-in_default : goal.returns-in_default
returns-in_default c =
    let a = c.args in
    let more = row (a.end - a.from) a.from a.input.now in
    record { within = (omega arith, omega arith); reads = λ read handed_on reads. pass_on more (subst IsLine (sym (part-is a.input.now a.from a.end c.requires.0)) c.in_default.ensures) reads }

pub overflow_add-result : goal.overflow_add-result
overflow_add-result c = record { fits = omega (arith, c.in-Some.ensures.1, length-take-le c.args.end c.args.input.now c.requires.1, c.ranges) }

pub returns : goal.returns
returns c =
    let a = c.args in
    let input = a.input.now in
    let feed = c.in-Some.feed in
    let found = c.in-Some.ensures in
    let held = row (a.end - (feed + 1)) (feed + 1) input in
    let part = take (feed - a.from) (drop a.from (take a.end input)) in
    record {
      within = (omega (arith, found.1, length-take-le a.end input c.requires.1), c.requires.1);
      reads = λ read handed_on reads. subst (λ more. Reads (length input) (read ++ more) handed_on false held) (sym (behind-feed input a.from a.end feed c.requires.0 c.requires.1 found))
          (passed part held found.3 reads);
    }
