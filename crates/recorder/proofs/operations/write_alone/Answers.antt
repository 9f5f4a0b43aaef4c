-- `recorder::operations::write_alone`: the code is the whole frame (`alone-frame`).
use mathlib.Core.Path.{refl}
use mathlib.Core.List.{[], flat_map}
use Rattle.recorder.specs.Recording.{parts}
use Rattle.recorder.proofs.OperationFrames.{head-is, written, alone-frame}
use Rattle.recorder.proofs.operations.write_alone.Goals as goal

pub returns : goal.returns
unfolding flat_map
returns g c number amount =
    let args = c.args in
    let p = parts number amount args.part.now in
    written g.T.Text.text args.code p args.output.now _ _ [] _ [] (alone-frame args.code c.requires p) refl (head-is c.write_number-size.ensures) refl c.put.ensures
