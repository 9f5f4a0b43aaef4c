-- What the contract of a read leaves open: nothing. For any memory its answer is fixed, by whether it is sound.
use mathlib.Core.Path.{◌≡◌, sym, ◌∙◌}
use mathlib.Core.List.{List}
use Prim.Native.Nat.{ℕ}
use Rattle.rules.specs.RoomAndSoundLedger.{Ledger}
use Rattle.rules.specs.AnswerNumbers.{Reply}
use Rattle.rules.proofs.Values.{answers-told}
use Rattle.refusals.proofs.SameResult.{ReadBack, one-result}
use Rattle.room.proofs.SameAnswers.{by-room}
use Rattle.any_memory_accounts.specs.Tells.{Tells}

module _ {R : Type 0} (reply : R → Reply) (read : ReadBack reply) where
  pub same-reading : (f : Ledger → Reply) (memory : List ℕ) (r s : R) → Tells f memory (reply r) → Tells f memory (reply s) → r ≡ s
  same-reading f memory r s one two =
      one-result reply read r s
      (by-room memory (answers-told (reply r) (reply s))
      (λ L room. one.sound_room L room ∙ sym (two.sound_room L room))
      (λ none. one.other none ∙ sym (two.other none)))
