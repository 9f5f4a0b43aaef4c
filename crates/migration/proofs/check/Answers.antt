-- `migration::check` meets its contract: each check in its order, and the validation between the fence and the room; each return is one law of Refusing.
use mathlib.Core.Path.{◌≡◌, sym, ap, ◌∙◌}
use native.Mathlib.Omega.{arith}
use Rattle.std.specs.Prelude.{Err}
use Rattle.rules.specs.RoomAndSoundLedger.{M, has_tag}
use Rattle.rules.specs.SnapshotsMigrationCertificates.{reply_or, tagged}
use Rattle.refusals.specs.Answers.{refusal_in}
use Rattle.numbers.proofs.Bytes.{all-bytes}
use Rattle.migration.specs.Migrated.{migrated_to}
use Rattle.migration.proofs.MigratedBytes.{migrated-length}
use Rattle.migration.proofs.Refusing.{long-name, aware, bad-fence, invalid, short-room, room-enough}
use Rattle.migration.proofs.check.Goals as goal

pub returns-clause-room : goal.returns-clause-room
unfolding M
returns-clause-room c = (omega arith, omega arith)

pub returns-then-has_long_name-clause-answer : goal.returns-then-has_long_name-clause-answer
returns-then-has_long_name-clause-answer c s e = long-name _ _ s (sym (c.if-has_long_name.ensures s e))

pub returns-then-has_tag-clause-answer : goal.returns-then-has_tag-clause-answer
returns-then-has_tag-clause-answer c s e =
    aware _ _ s (sym (c.if-has_long_name.ensures s e)) (ap has_tag (sym (c.version.ensures s e)) ∙ sym c.if-has_tag.ensures)

pub returns-then-fence-eq0-clause-answer : goal.returns-then-fence-eq0-clause-answer
unfolding M
returns-then-fence-eq0-clause-answer c s e =
    bad-fence _ _ s (sym (c.if-has_long_name.ensures s e)) (ap has_tag (sym (c.version.ensures s e)) ∙ sym c.if-has_tag.ensures) c.then-fence-eq0.either

pub returns-in_err-validation-clause-answer : goal.returns-in_err-validation-clause-answer
unfolding M
returns-in_err-validation-clause-answer c s e =
    let is : c.from_residual.result ≡ Err c.in_err-validation.field-0.0 = grind arith in
    ap (λ r. reply_or (refusal_in r) (migrated_to c.args.fence s)) is
    ∙ invalid _ _ s
    (record {
      short = sym (c.if-has_long_name.ensures s e);
      untagged = ap has_tag (sym (c.version.ensures s e)) ∙ sym c.if-has_tag.ensures;
      given = c.if-fence-eq0.false;
      low = omega arith;
    })
    (c.in_err-validation.ensures s e)

pub returns-then-size-bytes-clause-answer : goal.returns-then-size-bytes-clause-answer
unfolding M
returns-then-size-bytes-clause-answer c s e =
    short-room _ _ s
    (record {
      short = sym (c.if-has_long_name.ensures s e);
      untagged = ap has_tag (sym (c.version.ensures s e)) ∙ sym c.if-has_tag.ensures;
      given = c.if-fence-eq0.false;
      low = omega arith;
    })
    (c.in_ok-validation.ensures s e) (omega (arith, migrated-length c.args.bytes.now (all-bytes c.args.bytes.now c.type_inv.bytes) s e (tagged c.args.fence)))

pub returns-clause-answer : goal.returns-clause-answer
unfolding M
returns-clause-answer c s e =
    room-enough _ _ s
    (record {
      short = sym (c.if-has_long_name.ensures s e);
      untagged = ap has_tag (sym (c.version.ensures s e)) ∙ sym c.if-has_tag.ensures;
      given = c.if-fence-eq0.false;
      low = omega arith;
    })
    (c.in_ok-validation.ensures s e) (omega (arith, migrated-length c.args.bytes.now (all-bytes c.args.bytes.now c.type_inv.bytes) s e (tagged c.args.fence)))
