-- `validation::seen_earlier` meets its contract: each turn of the pass, and each of its ends, is a law of Seen.
use native.Mathlib.Omega.{arith}
use Rattle.snapshot_reader.proofs.Rows.{forward}
use Rattle.validation.proofs.Seen.{looks, stands-before, seen, unseen, none-seen}
use Rattle.validation.proofs.seen_earlier.Goals as goal

pub loop-earlier-init : goal.loop-earlier-init
loop-earlier-init c = looks

pub name_at-requires : goal.name_at-requires
name_at-requires c = stands-before c.loop-earlier.invariant c.loop-earlier-test.true c.requires

pub loop-earlier-preserved : goal.loop-earlier-preserved
loop-earlier-preserved c =
    unseen c.loop-earlier.invariant c.loop-earlier-test.true c.name_at-name.ensures c.name_at.ensures c.is_same.ensures c.if-is_same.false c.name_end-earlier.ensures

pub returns-then-is_same : goal.returns-then-is_same
returns-then-is_same c = seen c.loop-earlier.invariant c.loop-earlier-test.true c.name_at-name.ensures c.name_at.ensures c.is_same.ensures c.if-is_same.true

pub name_end-earlier-requires : goal.name_end-earlier-requires
name_end-earlier-requires c = stands-before c.loop-earlier.invariant c.loop-earlier-test.true c.requires

pub overflow_add-earlier : goal.overflow_add-earlier
overflow_add-earlier c = omega (arith, forward (stands-before c.loop-earlier.invariant c.loop-earlier-test.true c.requires) c.name_end-earlier.ensures)

pub loop-earlier-smaller : goal.loop-earlier-smaller
loop-earlier-smaller c = omega (arith, forward (stands-before c.loop-earlier.invariant c.loop-earlier-test.true c.requires) c.name_end-earlier.ensures)

pub returns : goal.returns
returns c = none-seen c.loop-earlier.invariant c.loop-earlier-test.false
