-- `validation::each_row` meets its contract: a pass that judges (Passing). The invariant: the rows to come decide.
use native.Mathlib.Omega.{arith}
use Rattle.snapshot_reader.proofs.Rows.{forward}
use Rattle.validation.proofs.Passing.{first, row-there, standing, stops, goes_on, none-bad}
use Rattle.validation.proofs.each_row.Goals as goal

pub loop-at-init : goal.loop-at-init
loop-at-init g c = first g.pass

pub returns-in-Err : goal.returns-in-Err
returns-in-Err g c =
    stops g.pass c.loop-at.invariant c.loop-at-test.true c.check.result (λ here. c.requires.1.1.answered c.loop-at.at here c.check.result c.check.ensures)
    c.in-Err.refusal c.tenant_at.result c.with_name.result c.in-Err.is c.tenant_at.ensures c.with_name.ensures c.requires.1.0

pub loop-at-preserved : goal.loop-at-preserved
loop-at-preserved g c =
    goes_on g.pass c.loop-at.invariant c.loop-at-test.true c.check.result (λ here. c.requires.1.1.answered c.loop-at.at here c.check.result c.check.ensures)
    c.name_end-at.ensures c.in_default.is

pub returns : goal.returns
returns g c = none-bad g.pass c.loop-at.invariant c.loop-at-test.false c.requires.1.0

pub check-requires : goal.check-requires
check-requires g c = c.requires.1.1.asked c.loop-at.at (row-there g.pass c.loop-at.invariant c.loop-at-test.true c.requires.1.0)

pub tenant_at-requires : goal.tenant_at-requires
tenant_at-requires g c = row-there g.pass c.loop-at.invariant c.loop-at-test.true c.requires.1.0

pub name_end-at-requires : goal.name_end-at-requires
name_end-at-requires g c = standing (row-there g.pass c.loop-at.invariant c.loop-at-test.true c.requires.1.0)

pub overflow_add-at : goal.overflow_add-at
overflow_add-at g c = omega (arith, forward (standing (row-there g.pass c.loop-at.invariant c.loop-at-test.true c.requires.1.0)) c.name_end-at.ensures)

pub loop-at-smaller : goal.loop-at-smaller
loop-at-smaller g c = omega (arith, forward (standing (row-there g.pass c.loop-at.invariant c.loop-at-test.true c.requires.1.0)) c.name_end-at.ensures)
