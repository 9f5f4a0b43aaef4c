-- `validation::status` meets its contract: a long name is 19, and else the names are short, which is what `conservation` asks.
use mathlib.Core.Path.{sym, ap, ◌∙◌}
use mathlib.Core.List.{[]}
use Rattle.rules.specs.AnswerNumbers.{done}
use Rattle.rules.specs.SnapshotsMigrationCertificates.{reply_or, status}
use Rattle.validation.proofs.Deciding.{decides, goes_on, answered}
use Rattle.validation.proofs.status.Goals as goal

pub returns-then-has_long_name : goal.returns-then-has_long_name
unfolding status reply_or
returns-then-has_long_name c s e = ap (λ o. reply_or o (done [])) (sym (decides _ _ _ (sym (c.has_long_name.ensures s e) ∙ c.if-has_long_name.true)))

pub returns : goal.returns
unfolding status
returns c s e =
    answered c.conservation.result
    ∙ ap (λ o. reply_or o (done [])) (c.conservation.ensures s e ∙ sym (goes_on _ _ _ (sym (c.has_long_name.ensures s e) ∙ c.if-has_long_name.false)))
