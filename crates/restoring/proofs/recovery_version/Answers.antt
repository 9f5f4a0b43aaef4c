-- `restoring::recovery_version` meets its contract: the tag is asked before the fence, and each return is one law of Versions.
use mathlib.Core.Path.{sym, ◌∙◌}
use Rattle.restoring.proofs.Versions.{legacy, zero-fence-refused, recovers}
use Rattle.restoring.proofs.recovery_version.Goals as goal

pub returns-then-not-has_tag : goal.returns-then-not-has_tag
returns-then-not-has_tag c = legacy c.args.version (sym c.if-not-has_tag.ensures)

pub returns-then-fence_of-eq0 : goal.returns-then-fence_of-eq0
returns-then-fence_of-eq0 c = zero-fence-refused c.args.version (sym c.if-not-has_tag.ensures) (sym c.fence_of.ensures ∙ c.if-fence_of-eq0.true)

pub returns : goal.returns
returns c = recovers c.args.version (sym c.if-not-has_tag.ensures) (λ zero-fence. c.if-fence_of-eq0.false (c.fence_of.ensures ∙ zero-fence))
