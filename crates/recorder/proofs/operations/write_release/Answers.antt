-- `recorder::operations::write_release`: the code and the id are the whole frame (`release-frame`).
use mathlib.Core.Path.{refl, sym, ◌∙◌}
use mathlib.Core.List.{[], ◌∷◌, append-nil}
use Rattle.rules.specs.AnswerNumbers.{Identifier}
use Rattle.recorder.specs.Recording.{parts}
use Rattle.recorder.proofs.OperationFrames.{head-is, head-within, head-size, one_value, written, release-frame}
use Rattle.recorder.proofs.operations.write_release.Goals as goal

pub slice_bounds-head-end : goal.slice_bounds-head-end
slice_bounds-head-end g c = head-within (c.write_word-size.ensures (Identifier _) refl)

pub slice_bounds-put-end : goal.slice_bounds-put-end
slice_bounds-put-end g c = sym (head-size (c.write_word-size.ensures (Identifier _) refl))

pub returns : goal.returns
returns g c amount =
    let args = c.args in
    let p = parts args.id amount args.part.now in
    written g.T.Text.text 6 p args.output.now _ _ (Identifier args.id ∷ []) _ [] (release-frame p) refl
    (head-is (c.write_word-size.ensures (Identifier _) refl)) (one_value (Identifier args.id) [] ∙ append-nil _) c.put.ensures
