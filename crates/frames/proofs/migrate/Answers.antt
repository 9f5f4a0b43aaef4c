-- `frames::migrate`: as for `snapshot`, the part behind the number has room for the longest snapshot, so the rule answers as for just that room. What is written
-- stands behind the number's place; a refusal is written over an output that is as it was.
use mathlib.Core.Path.{◌≡◌, refl, sym, subst, ◌∙◌}
use mathlib.Core.List.{List, [], ◌∷◌}
use mathlib.Core.Option.{some}
use Prim.Native.Nat.{ℕ, ◌+◌, ◌-◌, ◌≤◌}
use native.Mathlib.Omega.{arith}
use lib.ListN.{length, take}
use Rattle.rules.specs.AnswerNumbers.{SnapshotBytes, done, reply_of}
use Rattle.rules.specs.SnapshotsMigrationCertificates.{Snapshot, snapshot_of_bytes, migrate}
use Rattle.rules.specs.Frames.{longest_snapshot}
use Rattle.rules.proofs.SnapshotBytes.{snapshot-only}
use Rattle.numbers.proofs.Bytes.{all-bytes}
use Rattle.refusals.specs.Answers.{refusal_of}
use Rattle.answer_bytes.specs.Writing.{WritesReply}
use Rattle.answer_bytes.proofs.Arms.{matched}
use Rattle.frames.proofs.BehindTheNumber.{part, part_length, handed-out, refusal-leaves}
use Rattle.frames.proofs.RoomForSnapshots.{same-migration}
use Rattle.frames.proofs.migrate.Goals as goal

-- the part behind the number
long : (output : List ℕ) → 1 + longest_snapshot ≤ length output → longest_snapshot ≤ length (part output)
long output h = omega (arith, part_length output (omega arith))

pub behind_number-requires : goal.behind_number-requires
behind_number-requires c = omega (arith, c.in-Ok.ensures.size.1, part_length c.args.output.now (omega (arith, c.requires.1)))

pub returns-in-Ok : goal.returns-in-Ok
returns-in-Ok c s e =
    let output = c.args.output.now in
    let room : 1 ≤ length output = omega (arith, c.requires.1) in
    let few = (snapshot-only c.args.bytes.now (all-bytes c.args.bytes.now c.type_inv.bytes) s e).1.count in
    matched (sym (c.in-Ok.ensures.answer s e ∙ same-migration (long output c.requires.1) c.args.fence s few))
    (subst (λ n. WritesReply (done (SnapshotBytes (take c.in-Ok.size c.migrate.new.output) ∷ [])) output c.behind_number.new.output n) (sym c.behind_number.ensures.size)
    (handed-out output room c.in-Ok.size c.migrate.new.output (omega (arith, c.in-Ok.ensures.size.1, c.migrate.auto.output)) c.in-Ok.ensures.output c.behind_number.ensures.output))

pub returns-in-Err : goal.returns-in-Err
returns-in-Err c s e =
    let output = c.args.output.now in
    let refusal = refusal_of c.in-Err.refusal in
    let few = (snapshot-only c.args.bytes.now (all-bytes c.args.bytes.now c.type_inv.bytes) s e).1.count in
    matched (sym (c.in-Err.ensures.answer s e ∙ same-migration (long output c.requires.1) c.args.fence s few))
    (subst (λ before. WritesReply (reply_of refusal) before c.write_refusal.new.output c.write_refusal.result) (refusal-leaves output refusal c.in-Err.ensures.output) c.write_refusal.ensures)
