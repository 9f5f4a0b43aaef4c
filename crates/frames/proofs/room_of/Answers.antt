-- `frames::room_of`: a frame matched by name computes; a migration's operation is there, since its snapshot is; the others are known by their tags
-- (`short-answer` of Arms.antt).
use mathlib.Core.Path.{sym, ap, subst, ◌∙◌}
use Rattle.rules.specs.Frames.{migrate_to}
use Rattle.frame_reader.specs.Operations.{operation_in, PartsWithin}
use Rattle.frames.specs.Answering.{room_for}
use Rattle.frames.proofs.Arms.{supplied-is, is_short, short-answer}
use Rattle.frames.proofs.room_of.Goals as goal

pub returns-in-Snapshot : goal.returns-in-Snapshot
returns-in-Snapshot c bs within = sym (ap (λ f. room_for (operation_in bs f)) c.in-Snapshot.is)

pub returns-in-Migrate : goal.returns-in-Migrate
returns-in-Migrate c bs within =
    let is = c.in-Migrate.is in
    sym (ap (λ f. room_for (operation_in bs f)) is ∙ ap room_for (supplied-is (subst (PartsWithin bs) is within) (migrate_to _)))

pub returns-in_default : goal.returns-in_default
returns-in_default c bs within = short-answer bs c.args.frame (is_short c.args.frame c.in_default.not-Snapshot c.in_default.not-Migrate)
