-- `certificates::of_supplied` meets its contract: a long name is 19, and else the certificate is `of_snapshot`'s.
use mathlib.Core.Path.{sym, ap, ◌∙◌}
use Rattle.rules.specs.SnapshotsMigrationCertificates.{reply_or, certificate, certificate_of_snapshot}
use Rattle.validation.proofs.Deciding.{decides, goes_on}
use Rattle.certificates.proofs.of_supplied.Goals as goal

pub returns-then-has_long_name : goal.returns-then-has_long_name
unfolding certificate_of_snapshot reply_or
returns-then-has_long_name c s e =
    ap (λ o. reply_or o (certificate s c.args.since.0)) (sym (decides _ _ _ (sym (c.if-has_long_name.ensures s e))))

pub returns : goal.returns
unfolding certificate_of_snapshot reply_or
returns c s e =
    c.of_snapshot.ensures s e
    ∙ ap (λ o. reply_or o (certificate s c.args.since.0)) (sym (goes_on _ _ _ (sym (c.if-has_long_name.ensures s e))))
