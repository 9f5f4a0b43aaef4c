-- The three words that a certificate and a proof begin with: they end where the code goes on, whatever values they are.
use mathlib.Core.List.{List, [], ◌∷◌, flat_map}
use Prim.Native.Nat.{ℕ}
use Rattle.rules.specs.AnswerNumbers.{Value, reply}
use Rattle.rules.specs.SnapshotsMigrationCertificates.{bytes_of}
use Rattle.rules.specs.Frames.{reply_bytes}
use Rattle.answer_bytes.specs.Sizes.{three_words}
use Rattle.answer_bytes.specs.Writing.{WritesReply, IsWritten}

pub opening : (version rows active : ℕ) {n : ℕ} {v w x : Value} {before after : List ℕ} {written : ℕ} → IsWritten version v → IsWritten rows w → IsWritten active x
    → WritesReply (reply n (v ∷ w ∷ x ∷ [])) before after written → WritesReply (reply n (v ∷ w ∷ x ∷ [])) before after three_words
unfolding reply_bytes flat_map bytes_of
opening version rows active first second third words = record { size = rw (first, second, third); output = words.output }
