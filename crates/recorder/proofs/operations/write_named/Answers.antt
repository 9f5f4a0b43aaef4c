-- `recorder::operations::write_named`: a name of more than 24 bytes is too long; any other is stored, and spelled behind the code as the part spells it, with the amount's
-- word behind it (`named-frame`).
use mathlib.Core.Path.{◌≡◌, sym, ◌∙◌, ap}
use mathlib.Core.Bool.{false, ◌||◌}
use mathlib.Core.List.{[], ◌∷◌, ◌++◌}
use native.Mathlib.Omega.{arith}
use borrow.Author.Tests.{lt-ltb, le-ltb}
use lib.ListN.{length}
use Rattle.rules.specs.RoomAndSoundLedger.{longest_name}
use Rattle.rules.specs.AnswerNumbers.{Amount, TheName}
use Rattle.rules.specs.SnapshotsMigrationCertificates.{amount_bytes, name_bytes}
use Rattle.names.specs.Names.{spelled}
use Rattle.names.proofs.Storing.{spelled-stored}
use Rattle.answer_bytes.proofs.Arms.{word-is}
use Rattle.recorder.specs.Recording.{parts}
use Rattle.recorder.proofs.OperationFrames.{head-is, head-within, head-size, two-values, written, too_long, named-frame}
use Rattle.recorder.proofs.operations.write_named.Goals as goal

pub returns-then-name-gt-LONGEST_NAME : goal.returns-then-name-gt-LONGEST_NAME
returns-then-name-gt-LONGEST_NAME g c number =
    let args = c.args in
    let p = parts number args.amount.0 args.name.now in
    too_long g.T.Text.text args.code p args.output.now _ _ (named-frame args.code c.requires.0 c.requires.1 p) (ap (λ b. b || false) (lt-ltb longest_name (length args.name.now) (omega arith)))

pub slice_bounds-head-end : goal.slice_bounds-head-end
slice_bounds-head-end g c = head-within (c.write_named_word-size.ensures (Amount c.args.amount.0) (word-is c.word_of-word.ensures))

pub slice_bounds-put-end : goal.slice_bounds-put-end
slice_bounds-put-end g c = sym (head-size (c.write_named_word-size.ensures (Amount c.args.amount.0) (word-is c.word_of-word.ensures)))

pub returns : goal.returns
returns g c number =
    let args = c.args in
    let p = parts number args.amount.0 args.name.now in
    let name = c.name_of.result in
    let is : spelled name ≡ args.name.now = ap spelled c.name_of.ensures ∙ spelled-stored args.name.now in
    written g.T.Text.text args.code p args.output.now _ _ (TheName (spelled name) ∷ Amount args.amount.0 ∷ []) _ [] (named-frame args.code c.requires.0 c.requires.1 p)
    (ap (λ b. b || false) (le-ltb longest_name (length args.name.now) (omega arith)))
    (head-is (c.write_named_word-size.ensures (Amount args.amount.0) (word-is c.word_of-word.ensures))) (two-values (TheName (spelled name)) (Amount args.amount.0) ∙ ap (λ a. name_bytes a ++ amount_bytes args.amount.0) is) c.put.ensures
