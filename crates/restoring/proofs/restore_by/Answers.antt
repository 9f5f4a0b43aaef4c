-- `restoring::restore_by` meets its contract: what was checked is the rule's refusal; where it refuses, the room is left, and else the room filled is the
-- ledger restored, sound by what the form keeps (Restoring).
use mathlib.Core.Path.{◌≡◌}
use native.Mathlib.Omega.{arith}
use Rattle.std.specs.Prelude.{Err}
use Rattle.restoring.proofs.Restoring.{checked, refused, taken, replaced}
use Rattle.restoring.proofs.restore_by.Goals as goal

pub returns-in_err-check : goal.returns-in_err-check
returns-in_err-check c =
    let is : c.from_residual.result ≡ Err c.in_err-check.field-0.0 = grind arith in
    rw is (refused (checked c.load_sizes-sizes.ensures c.check.ensures) c.in_err-check.was)

pub fill-requires : goal.fill-requires
fill-requires c = (c.requires.0, taken (checked c.load_sizes-sizes.ensures c.check.ensures) c.in_ok-check.was c.requires.1)

pub returns : goal.returns
returns c = replaced (checked c.load_sizes-sizes.ensures c.check.ensures) c.in_ok-check.was c.fill.ensures c.type_inv.bytes c.requires.2
