-- `migration::migrate` meets its contract: the migrated snapshot stands at the output's front, as long as the one supplied (MigratedBytes).
use mathlib.Core.Path.{◌≡◌, ap, ◌∙◌}
use mathlib.Core.List.{[], ◌∷◌, ◌++◌}
use native.Mathlib.Omega.{arith}
use lib.ListN.{length, drop}
use Rattle.std.specs.Prelude.{Err}
use Rattle.rules.specs.AnswerNumbers.{SnapshotBytes, done}
use Rattle.rules.specs.SnapshotsMigrationCertificates.{bytes_of, reply_or}
use Rattle.refusals.specs.Answers.{answer_of, carries_snapshot}
use Rattle.numbers.proofs.Bytes.{all-bytes}
use Rattle.snapshot_reader.proofs.Header.{is-long}
use Rattle.migration.proofs.MigratedBytes.{front}
use Rattle.migration.proofs.migrate.Goals as goal

pub returns-in_err-check-clause-answer : goal.returns-in_err-check-clause-answer
unfolding reply_or
returns-in_err-check-clause-answer c s e =
    let is : c.from_residual.result ≡ Err c.in_err-check.field-0.0 = grind arith in
    ap (answer_of (carries_snapshot c.args.output.now)) is ∙ c.in_err-check.ensures.answer s e

pub write_migrated-requires : goal.write_migrated-requires
write_migrated-requires c = (omega (arith, is-long c.args.bytes.now c.requires), c.in_ok-check.ensures.room.1)

pub returns-clause-answer : goal.returns-clause-answer
unfolding reply_or
returns-clause-answer c s e =
    ap (λ handed. done (SnapshotBytes handed ∷ []))
    (front c.args.bytes.now (all-bytes c.args.bytes.now c.type_inv.bytes) s e c.args.fence c.args.output.now c.write_migrated.new.output
    (c.write_migrated.ensures ∙ ap (λ v. bytes_of 8 v ++ drop 8 c.args.bytes.now ++ drop (length c.args.bytes.now) c.args.output.now) c.tagged-version.ensures))
    ∙ c.in_ok-check.ensures.answer s e
