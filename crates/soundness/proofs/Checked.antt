-- An operation that asks first whether the memory is sound: what it promises of any memory, from what the operation proper promises of a sound room.
use Rattle.std.proofs.Common.{◌≡◌, refl, List, ℕ}
use Rattle.rules.specs.RoomAndSoundLedger.{Ledger}
use Rattle.rules.specs.AnswerNumbers.{Reply, UnsoundLedger, reply_of, Outcome}
use Rattle.refusals.specs.declared.Refusal.{Refusal}
use Rattle.refusals.specs.declared.Refusal.TheVariants as refusal
use Rattle.refusals.specs.Answers.{refusal_of}
use Rattle.room.specs.Room.{SoundRoom, Performs, Answers}

module _ (f : Ledger → Outcome) (before : List ℕ) where
  -- document 01, Answer numbers: memory that is not sound is refused with 24, and nothing changes
  pub refused : (SoundRoom before → ⊥) → Answers f before (reply_of UnsoundLedger) before
  refused no_room = record {
    sound_room = λ L room. absurd (no_room (record { ledger = L; is_room = room }));
    other = λ _. (refl, refl);
  }

  -- as `expect_sound` says it
  pub refused_as : (e : Refusal) → (e ≡ refusal.UnsoundLedger) × (SoundRoom before → ⊥) → Answers f before (reply_of (refusal_of e)) before
  refused_as e (is, no_room) = rw is (refused no_room)

  pub answered : SoundRoom before → (reply : Reply) (after : List ℕ) → Performs f before reply after → Answers f before reply after
  answered known reply after performs = record { sound_room = performs; other = λ no_room. absurd (no_room known.ledger known.is_room) }
