-- `snapshot_reader::check` meets its contract: each step of the pass, and each of its ends, is a law of Passing.
use mathlib.Core.Bool.{true, false}
use Prim.Native.Nat.{◌+◌, ◌-◌}
use native.Mathlib.Omega.{arith}
use Rattle.snapshot_reader.proofs.Passing.{refused, by_rows, passed, broken, left_over, ended}
use Rattle.snapshot_reader.proofs.check.Goals as goal

pub returns-then-bytes-lt-SNAPSHOT_HEADER : goal.returns-then-bytes-lt-SNAPSHOT_HEADER
returns-then-bytes-lt-SNAPSHOT_HEADER c = refused c.args.bytes.now (λ h. absurd (omega arith))

pub returns-then-count-gt-MOST_ROWS : goal.returns-then-count-gt-MOST_ROWS
returns-then-count-gt-MOST_ROWS c = refused c.args.bytes.now (λ _. omega (arith, c.read2-count.ensures))

pub loop-init : goal.loop-init
loop-init c = by_rows c.args.bytes.now (omega (arith, c.read2-count.ensures)) (omega arith) (omega arith)

pub returns-in_default : goal.returns-in_default
returns-in_default c = broken c.loop.invariant (c.read2-count.result - (c.loop.counter + 1)) (omega arith) c.row_end.ensures c.in_default.is

pub loop-preserved : goal.loop-preserved
loop-preserved c = passed c.loop.invariant (c.read2-count.result - (c.loop.counter + 1)) (omega arith) c.in-Some.end c.row_end.ensures c.in-Some.is

pub returns-then-at-bytes : goal.returns-then-at-bytes
returns-then-at-bytes c = left_over c.loop.invariant (omega arith) c.if-at-bytes.true

pub returns-then-long : goal.returns-then-long
returns-then-long c = ended c.loop.invariant (omega arith) c.if-at-bytes.false true c.if-long.true

pub returns : goal.returns
returns c = ended c.loop.invariant (omega arith) c.if-at-bytes.false false c.if-long.false
