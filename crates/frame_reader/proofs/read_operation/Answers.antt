-- `frame_reader::read_operation`: each arm's reader has promised the operation of its codes, so search returns it. By hand is what the ranges and the `|` leave
-- of the code: that what no arm takes is above 14 or 0 (`unknown` of Codes.antt).
use mathlib.Core.Path.{sym}
use native.Mathlib.Omega.{arith}
use Rattle.frame_reader.proofs.Codes.{empty, unknown}
use Rattle.frame_reader.proofs.read_operation.Goals as goal

pub returns-in_default : goal.returns-in_default
returns-in_default c = record { operation = sym (unknown c.args.bytes.now (omega arith) (λ low. absurd (omega arith))); parts = tt }

pub returns-in_default-2 : goal.returns-in_default-2
returns-in_default-2 c = record { operation = sym (unknown c.args.bytes.now (omega arith) (λ _. grind arith)); parts = tt }

pub returns-then-bytes-eq0 : goal.returns-then-bytes-eq0
returns-then-bytes-eq0 c = record { operation = sym (empty _ c.if-bytes-eq0.true); parts = tt }
