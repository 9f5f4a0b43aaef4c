-- `recorder::operations::write_word_and_snapshot`: as `write_snapshot`, with a word between the code and the snapshot (`word-frame`).
use mathlib.Core.Path.{◌≡◌, refl, sym, ◌∙◌, ap}
use mathlib.Core.List.{[], ◌∷◌, ◌++◌}
use mathlib.Core.Option.{some}
use native.Mathlib.Omega.{arith}
use borrow.Author.Rules.{rules}
use Rattle.rules.specs.AnswerNumbers.{Identifier}
use Rattle.rules.specs.SnapshotsMigrationCertificates.{bytes_of, snapshot_bytes}
use Rattle.std.specs.Prelude.{Err}
use Rattle.numbers.proofs.Bytes.{all-bytes}
use Rattle.snapshot_reader.specs.Standing.{ShortNames}
use Rattle.snapshot_reader.proofs.Checking.{says}
use Rattle.recorder.specs.Recording.{parts, word_behind}
use Rattle.recorder.proofs.OperationFrames.{head-is, head-within, head-size, word_size, one_value, written, refused, word-frame, snapshot-stands}
use Rattle.recorder.proofs.operations.write_word_and_snapshot.Goals as goal

pub returns-in_err-check : goal.returns-in_err-check
returns-in_err-check g c number amount is =
    let args = c.args in
    let p = parts number amount args.snapshot.now in
    let returned : c.from_residual.result ≡ Err c.in_err-check.field-0.0 = search rules in
    refused g.T.Text.text args.code p args.output.now (bytes_of 8 (word_behind args.code number amount)) (word-frame args.code c.requires p) c.check.ensures c.in_err-check.was returned

pub slice_bounds-head-end : goal.slice_bounds-head-end
slice_bounds-head-end g c = head-within (c.write_word-size.ensures (Identifier _) refl)

pub slice_bounds-put-end : goal.slice_bounds-put-end
slice_bounds-put-end g c = sym (head-size (c.write_word-size.ensures (Identifier _) refl))

pub put-requires : goal.put-requires
put-requires g c =
    let part = c.args.snapshot.now in
    let head = c.write_word-size.ensures (Identifier _) refl in
    let (_, size) = snapshot-stands part (all-bytes part c.type_inv.snapshot) (says part c.check.ensures c.in_ok-check.was) in
    omega (arith, head-size head, head.size, word_size c.args.code c.args.word, size)

pub returns : goal.returns
returns g c number amount is =
    let args = c.args in
    let part = args.snapshot.now in
    let p = parts number amount part in
    let short : ShortNames part = says part c.check.ensures c.in_ok-check.was in
    let (stands, _) = snapshot-stands part (all-bytes part c.type_inv.snapshot) short in
    written g.T.Text.text args.code p args.output.now _ _ (Identifier args.word ∷ []) _ part (word-frame args.code c.requires p (some short.snapshot) short.is_read) short.short
    (head-is (c.write_word-size.ensures (Identifier _) refl)) (one_value (Identifier args.word) part ∙ ap (λ l. bytes_of 8 args.word ++ l) (sym stands) ∙ ap (λ w. bytes_of 8 w ++ snapshot_bytes short.snapshot) (sym is)) c.put.ensures
