-- `recorder::answer_reader::read_snapshot`: by what `check` told of the part behind the number (SnapshotPlace).
use mathlib.Core.Path.{◌≡◌, refl, ◌∙◌, ap}
use borrow.Author.Rules.{rules}
use Rattle.std.specs.Prelude.{Ok}
use Rattle.std.specs.Result.{is_ok}
use Rattle.rules.proofs.Tests.{true-false}
use Rattle.recorder.specs.Reading.{values_in}
use Rattle.recorder.proofs.SnapshotPlace.{no-snapshot, a-snapshot}
use Rattle.recorder.proofs.answer_reader.read_snapshot.Goals as goal

pub returns-in_err-ok : goal.returns-in_err-ok
returns-in_err-ok c form same =
    ap values_in c.from_residual.ensures
    ∙ no-snapshot c.args.bytes.now c.requires.0 c.requires.1 c.check.ensures (λ e. true-false (c.in_err-ok.ensures.variant ∙ ap is_ok e) refl) form same

pub returns : goal.returns
returns c =
    let passes : c.check.result ≡ Ok tt = search rules in
    a-snapshot c.args.bytes.now c.requires.0 c.requires.1 c.check.ensures passes c.up_to_three.ensures
