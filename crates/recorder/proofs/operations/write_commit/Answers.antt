-- `recorder::operations::write_commit`: the code, the id and the amount's word are the whole frame (`commit-frame`).
use mathlib.Core.Path.{refl, sym}
use mathlib.Core.List.{[], ◌∷◌}
use Rattle.rules.specs.AnswerNumbers.{Amount, Identifier}
use Rattle.answer_bytes.proofs.Arms.{word-is}
use Rattle.recorder.specs.Recording.{parts}
use Rattle.recorder.proofs.OperationFrames.{head-is, head-within, head-size, two-values, written, commit-frame}
use Rattle.recorder.proofs.operations.write_commit.Goals as goal

pub slice_bounds-head-end : goal.slice_bounds-head-end
slice_bounds-head-end g c = head-within (c.write_two_words-size.ensures (Identifier _) (Amount c.args.amount.0) refl (word-is c.word_of-word.ensures))

pub slice_bounds-put-end : goal.slice_bounds-put-end
slice_bounds-put-end g c = sym (head-size (c.write_two_words-size.ensures (Identifier _) (Amount c.args.amount.0) refl (word-is c.word_of-word.ensures)))

pub returns : goal.returns
returns g c =
    let args = c.args in
    let p = parts args.id args.amount.0 args.part.now in
    written g.T.Text.text 5 p args.output.now _ _ (Identifier args.id ∷ Amount args.amount.0 ∷ []) _ [] (commit-frame p) refl
    (head-is (c.write_two_words-size.ensures (Identifier _) (Amount args.amount.0) refl (word-is c.word_of-word.ensures))) (two-values (Identifier args.id) (Amount args.amount.0)) c.put.ensures
