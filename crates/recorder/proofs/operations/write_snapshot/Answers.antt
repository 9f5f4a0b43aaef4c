-- `recorder::operations::write_snapshot`: the snapshot is judged once (`says`) and stands behind the code as it is (`snapshot-frame`).
use mathlib.Core.Path.{◌≡◌, sym}
use mathlib.Core.List.{[], flat_map}
use mathlib.Core.Option.{some}
use native.Mathlib.Omega.{arith}
use borrow.Author.Rules.{rules}
use Rattle.std.specs.Prelude.{Err}
use Rattle.numbers.proofs.Bytes.{all-bytes}
use Rattle.snapshot_reader.specs.Standing.{ShortNames}
use Rattle.snapshot_reader.proofs.Checking.{says}
use Rattle.recorder.specs.Recording.{parts}
use Rattle.recorder.proofs.OperationFrames.{head-is, head-size, code-size, written, refused, snapshot-frame, snapshot-stands}
use Rattle.recorder.proofs.operations.write_snapshot.Goals as goal

pub returns-in_err-check : goal.returns-in_err-check
returns-in_err-check g c number amount =
    let args = c.args in
    let p = parts number amount args.snapshot.now in
    let returned : c.from_residual.result ≡ Err c.in_err-check.field-0.0 = search rules in
    refused g.T.Text.text args.code p args.output.now [] (snapshot-frame args.code c.requires p) c.check.ensures c.in_err-check.was returned

pub put-requires : goal.put-requires
put-requires g c =
    let part = c.args.snapshot.now in
    let head = c.write_number-size.ensures in
    let (_, size) = snapshot-stands part (all-bytes part c.type_inv.snapshot) (says part c.check.ensures c.in_ok-check.was) in
    omega (arith, head-size head, head.size, code-size c.args.code, size)

pub returns : goal.returns
unfolding flat_map
returns g c number amount =
    let args = c.args in
    let part = args.snapshot.now in
    let p = parts number amount part in
    let short : ShortNames part = says part c.check.ensures c.in_ok-check.was in
    let (stands, _) = snapshot-stands part (all-bytes part c.type_inv.snapshot) short in
    written g.T.Text.text args.code p args.output.now _ _ [] _ part (snapshot-frame args.code c.requires p (some short.snapshot) short.is_read) short.short
    (head-is c.write_number-size.ensures) (sym stands) c.put.ensures
