-- `recorder::operations::write`: each arm's function has promised the operation of its codes; what no arm takes is above 14 or 0 (`unknown-frame`).
use Prim.Native.Nat.{◌<◌}
use native.Mathlib.Omega.{arith}
use Rattle.recorder.specs.Recording.{parts}
use Rattle.recorder.proofs.OperationFrames.{no-operation, unknown-frame}
use Rattle.recorder.proofs.operations.write.Goals as goal

pub returns-in_default : goal.returns-in_default
returns-in_default g c =
    let args = c.args in
    no-operation g.T.Text.text args.code (parts args.number args.amount.0 args.part.now) args.output.now (unknown-frame args.code (λ low. absurd (omega arith)) (parts args.number args.amount.0 args.part.now))

pub returns-in_default-2 : goal.returns-in_default-2
returns-in_default-2 g c =
    let args = c.args in
    let code = args.code in
    let past : 14 < code = grind arith in
    no-operation g.T.Text.text args.code (parts args.number args.amount.0 args.part.now) args.output.now (unknown-frame args.code (λ _. past) (parts args.number args.amount.0 args.part.now))
