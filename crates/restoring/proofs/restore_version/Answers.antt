-- `restoring::restore_version` meets its contract: the version is carried as an amount, so no more than M (Versions).
use mathlib.Core.Path.{sym, ap, ◌∙◌}
use mathlib.Core.Logic.{inl, inr}
use mathlib.Core.Option.{some}
use native.Mathlib.Omega.{arith}
use lib.IntN.{pos}
use Rattle.rules.specs.RoomAndSoundLedger.{M}
use Rattle.rules.specs.AnswerNumbers.{version_field, NegativeLedgerField}
use Rattle.names.specs.Names.{spelled}
use Rattle.restoring.proofs.Versions.{carried, restores}
use Rattle.restoring.proofs.restore_version.Goals as goal
use Rattle.restoring.proofs.restore_version.Goals.{then-not-has_tag-via-then-not-has_tag, then-not-has_tag-via-else-not-has_tag+then-fence_of-eq0}

pub amount-requires : goal.amount-requires
unfolding M
amount-requires c = omega arith

pub returns-then-not-has_tag : goal.returns-then-not-has_tag
unfolding M
returns-then-not-has_tag c =
    (λ i. some (NegativeLedgerField (spelled (c.no_tenant.ensures i)) version_field ((c.amount.ensures ∙ ap pos c.min.ensures) i)))
    ∙ carried c.args.version
    (elim c.then-not-has_tag.branch [
      | then-not-has_tag-via-then-not-has_tag w ↦ inl (sym w.if-not-has_tag.ensures)
      | then-not-has_tag-via-else-not-has_tag+then-fence_of-eq0 w ↦ inr (sym w.fence_of.ensures ∙ w.if-fence_of-eq0.true)
    ])

pub returns : goal.returns
returns c = restores c.args.version (sym c.if-not-has_tag.ensures) (λ zero-fence. c.if-fence_of-eq0.false (c.fence_of.ensures ∙ zero-fence))
