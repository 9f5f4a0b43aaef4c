-- An output with room for the longest snapshot answers as one of just that room does: no snapshot is too long for either, by the rules' bound on a snapshot's
-- bytes.
use mathlib.Core.Path.{◌≡◌, refl, sym, ap, subst, ◌∙◌}
use mathlib.Core.Bool.{false}
use mathlib.Core.List.{List, [], ◌∷◌}
use mathlib.Core.Logic.{◌≢◌}
use mathlib.Core.Option.{Option, none, some}
use Prim.Native.Nat.{ℕ, ◌≤◌}
use native.Mathlib.Omega.{arith}
use borrow.Author.Tests.{ltb-false, le-ltb}
use denote.Enum.Declared.{tag_of, declared}
use types.Run.{OneOf, hit, miss}
use lib.Dec.{eqb}
use lib.ListN.{length}
use Rattle.rules.specs.RoomAndSoundLedger.{M, Ledger, Sound}
use Rattle.rules.specs.AnswerNumbers.{Reply, Outcome}
use Rattle.room.specs.Room.{IsRoom, Performed}
use Rattle.rules.specs.SnapshotsMigrationCertificates.{Snapshot, snapshot_bytes, has_long_name, snapshot_of, taking_snapshot, too_short_for, handed_out, snapshot, ◌gives◌else◌, tagged, with_version, reply_or, migrate, most_rows}
use Rattle.rules.specs.Frames.{longest_snapshot}
use Rattle.rules.proofs.Tests.{by-test, by_bool}
use Rattle.rules.proofs.SnapshotBytes.{never-too-short}
use Rattle.rules.proofs.EveryLine.{own-snapshot-has-room}
use Rattle.rules.proofs.Refusals.{refusal-number}

module _ {size : ℕ} (long : longest_snapshot ≤ size) where
  enough : (s : Snapshot) → too_short_for longest_snapshot s ≡ false → too_short_for size s ≡ too_short_for longest_snapshot s
  enough s fits = le-ltb size (length (snapshot_bytes s)) (omega (arith, ltb-false longest_snapshot (length (snapshot_bytes s)) fits)) ∙ sym fits

  -- with a long name both are 19 first
  pub same-migration : (fence : ℕ) (s : Snapshot) → length s.rows ≤ most_rows → migrate size fence s ≡ migrate longest_snapshot fence s
  unfolding migrate ◌gives◌else◌
  same-migration fence s few =
      by_bool (λ b. has_long_name s.rows ≡ b → migrate size fence s ≡ migrate longest_snapshot fence s) (has_long_name s.rows)
      (λ _ e. rw e)
      (λ _ e. rw (enough (with_version (tagged fence) s) (never-too-short (with_version (tagged fence) s) few e)))
      refl

  pub same-snapshot : (L : Ledger) → Sound L → snapshot size L ≡ snapshot longest_snapshot L
  unfolding snapshot taking_snapshot
  same-snapshot L known = rw (enough (snapshot_of L) (own-snapshot-has-room L known))

  -- so what is performed with this room is performed with just that one
  pub taken : {L : Ledger} {r : Reply} {ys : List ℕ} → Sound L → Performed (snapshot size) L r ys → Performed (snapshot longest_snapshot) L r ys
  taken {L} {r} {ys} known given = let same = same-snapshot L known in record {
    answer = given.answer ∙ ap (λ (o : Outcome). o.reply) same;
    room = subst (λ (o : Outcome). IsRoom ys o.ledger) same given.room;
  }
