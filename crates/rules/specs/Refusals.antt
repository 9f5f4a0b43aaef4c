-- Document 01, section "Answer numbers": what an answer leaves of the lent ledger, and which operations can get 24.
use Rattle.std.specs.Prelude.{◌≡◌, ◌⊎◌, ◌≢◌, Bool, true, false, ℕ, suc, ◌<◌, pos}
use Rattle.rules.specs.RoomAndSoundLedger.{Name, Ledger}
use Rattle.rules.specs.AnswerNumbers.{Refusal, reply_of, sound, LentSound, Answered}
use Rattle.rules.specs.AccountRules.{drawn, reserve}
use Rattle.rules.specs.SnapshotsMigrationCertificates.{after_snapshot}
use Rattle.rules.specs.Frames.{Operation, on_account, take_snapshot, certify_ledger, prove_conservation, restore_from, recover_from, judge, migrate_to, certify}

-- The two rows that the table marks: 6 where the cost is above 0, and 15 from a conservation proof
pub data Marked (x : Operation) (number : ℕ) : Type 0 where
  with-cost : (a : Name) (cost : ℕ) → x ≡ on_account (reserve a (pos (suc cost))) → number ≡ 6 → Marked x number
  from-proof : x ≡ prove_conservation → number ≡ 15 → Marked x number

-- The answer r to the operation x where the sound ledger L was lent: done, or a row of the table before 23. What is lent is a sound ledger again.
-- A refusal leaves L itself, save in the marked rows: 6 has drawn an id, and 15 has taken the snapshot of its proof, and each has moved nothing else
pub record AnswerOf (L : Ledger) (x : Operation) (r : Answered) : Type 0 where
  pub row : (r.reply.number ≡ 0) ⊎ ((e : Refusal) × (r.reply ≡ reply_of e))
  pub before_23 : r.reply.number < 23
  pub stays_sound : LentSound r.lent
  pub draws_an_id : (a : Name) (cost : ℕ) → x ≡ on_account (reserve a (pos (suc cost))) → r.reply.number ≡ 6 → r.lent ≡ sound (drawn L)
  pub takes_a_snapshot : x ≡ prove_conservation → r.reply.number ≡ 15 → r.lent ≡ sound (after_snapshot L)
  pub changes_nothing : r.reply.number ≢ 0 → ¬ Marked x r.reply.number → r.lent ≡ sound L

-- 24 is for an operation that takes a ledger; migration and what judges a supplied snapshot take none
abbrev pub takes_ledger : Operation → Bool
takes_ledger (on_account x) = true
takes_ledger take_snapshot = true
takes_ledger certify_ledger = true
takes_ledger prove_conservation = true
takes_ledger (restore_from s) = true
takes_ledger (recover_from s) = true
takes_ledger (judge s) = false
takes_ledger (migrate_to fence s) = false
takes_ledger (certify since s) = false
