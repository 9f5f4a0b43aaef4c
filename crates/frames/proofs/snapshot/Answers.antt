-- `frames::snapshot`: the part behind the number has room for the longest snapshot, so the rule answers as for just that room (RoomForSnapshots.antt). What is
-- written stands behind the number's place, and the number goes in front of it; a refusal is written over an output that is as it was (BehindTheNumber.antt).
use mathlib.Core.Path.{◌≡◌, refl, sym, subst}
use mathlib.Core.List.{List, [], ◌∷◌}
use Prim.Native.Nat.{ℕ, ◌+◌, ◌-◌, ◌≤◌}
use native.Mathlib.Omega.{arith}
use lib.ListN.{length, take}
use Rattle.rules.specs.AnswerNumbers.{SnapshotBytes, done, reply_of}
use Rattle.rules.specs.Frames.{longest_snapshot, answer}
use Rattle.refusals.specs.Answers.{refusal_of}
use Rattle.answer_bytes.specs.Writing.{WritesReply}
use Rattle.frames.proofs.Performing.{performed}
use Rattle.frames.proofs.BehindTheNumber.{part, part_length, handed-out, refusal-leaves}
use Rattle.frames.proofs.RoomForSnapshots.{taken}
use Rattle.frames.proofs.snapshot.Goals as goal

-- the part behind the number
long : (output : List ℕ) → 1 + longest_snapshot ≤ length output → longest_snapshot ≤ length (part output)
long output h = omega (arith, part_length output (omega arith))

pub behind_number-requires : goal.behind_number-requires
behind_number-requires c = omega (arith, c.in-Ok.ensures.size, part_length c.args.output.now (omega (arith, c.requires.1)))

pub returns-in-Ok : goal.returns-in-Ok
unfolding answer
returns-in-Ok c L is_room =
    let output = c.args.output.now in
    let room : 1 ≤ length output = omega (arith, c.requires.1) in
    performed (taken (long output c.requires.1) is_room.sound (c.in-Ok.ensures.performs L is_room))
    (subst (λ n. WritesReply (done (SnapshotBytes (take c.in-Ok.size c.snapshot.new.output) ∷ [])) output c.behind_number.new.output n) (sym c.behind_number.ensures.size)
    (handed-out output room c.in-Ok.size c.snapshot.new.output (omega (arith, c.in-Ok.ensures.size, c.snapshot.auto.output)) c.in-Ok.ensures.output c.behind_number.ensures.output)) refl

pub returns-in-Err : goal.returns-in-Err
unfolding answer
returns-in-Err c L is_room =
    let output = c.args.output.now in
    let refusal = refusal_of c.in-Err.refusal in
    performed (taken (long output c.requires.1) is_room.sound (c.in-Err.ensures.performs L is_room))
    (subst (λ before. WritesReply (reply_of refusal) before c.write_refusal.new.output c.write_refusal.result) (refusal-leaves output refusal c.in-Err.ensures.output) c.write_refusal.ensures) refl
