-- What the contracts leave open: nothing. For any memory, the answer and every byte at exit are fixed; and where the rules leave the ledger as it was, as
-- every refusal but 6 does, no byte changes. Whether memory is a room need not be decided: whether answers and bytes are the same can be told (`by-room`).
use mathlib.Core.Path.{◌≡◌, sym, ◌∙◌, subst}
use mathlib.Core.Logic.{⊎_elim}
use mathlib.Core.List.{List}
use Prim.Native.Nat.{ℕ}
use Rattle.rules.specs.Lists.{All}
use Rattle.rules.specs.RoomAndSoundLedger.{Ledger, IsByte}
use Rattle.rules.specs.AnswerNumbers.{Reply, Outcome}
use Rattle.rules.proofs.Values.{Told, both_told, bytes-told, answers-told}
use Rattle.refusals.proofs.SameResult.{ReadBack, one-result}
use Rattle.room.specs.Room.{IsRoom, OfRoom, Answers}
use Rattle.room.proofs.Decoding.{canonical}

-- what can be told, and holds of the room of a sound ledger and of memory that is none, holds of any memory
pub by-room : (memory : List ℕ) {P : Type 0} → Told P → OfRoom memory (λ L. P) → (OfRoom memory (λ L. ⊥) → P) → P
by-room memory told holds other = ⊎_elim (λ p. p) (λ n. absurd (n (other (λ L room. n (holds L room))))) told

module _ (before : List ℕ) (f : Ledger → Outcome) (r : Reply) (after : List ℕ) (bytes : All IsByte after) (answers : Answers f before r after) where
  pub same_answer : (s : Reply) (others : List ℕ) → All IsByte others → Answers f before s others → (r ≡ s) × (after ≡ others)
  same_answer s others other-bytes also = by-room before (both_told (answers-told r s) (bytes-told after others))
      (λ L room.
      let one = answers.sound_room L room in
      let two = also.sound_room L room in
      (one.answer ∙ sym two.answer, canonical after others (f L).ledger bytes other-bytes one.room two.room))
      (λ none. ((answers.other none).0 ∙ sym (also.other none).0, (answers.other none).1 ∙ sym (also.other none).1))

  pub same_bytes : (L : Ledger) → IsRoom before L → All IsByte before → (f L).ledger ≡ L → after ≡ before
  same_bytes L room before-bytes kept = canonical after before L bytes before-bytes (subst (IsRoom after) kept (answers.sound_room L room).room) room

-- ── the result itself ──────────────────────────────────────────────────────────────────────────

module _ {R : Type 0} (reply : R → Reply) (read : ReadBack reply) where
  -- of every operation on a ledger: two results that its contract permits are one, and so is the memory
  pub same-result : (f : Ledger → Outcome) (before after others : List ℕ) → All IsByte after → All IsByte others → (r s : R)
      → Answers f before (reply r) after → Answers f before (reply s) others → (r ≡ s) × (after ≡ others)
  same-result f before after others bytes other-bytes r s one two =
      let same = same_answer before f (reply r) after bytes one (reply s) others other-bytes two in
      (one-result reply read r s same.0, same.1)
