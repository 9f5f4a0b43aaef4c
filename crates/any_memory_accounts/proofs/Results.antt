-- What the contracts of the fifteen functions leave open of a result: nothing. What is done is read back from its answer, value by value, and a refusal by its number and by what it
-- carries (`answer-read`, crate refusals). What four of the functions hand over is read here, and nothing, an amount, a count or a version there.
use mathlib.Core.Path.{◌≡◌, refl}
use mathlib.Core.List.{List}
use Prim.Native.Nat.{ℕ}
use Rattle.std.specs.Prelude.{Result}
use Rattle.rules.specs.Lists.{All}
use Rattle.rules.specs.RoomAndSoundLedger.{Ledger, IsByte}
use Rattle.rules.specs.AnswerNumbers.{Value, Reply, Outcome}
use Rattle.refusals.specs.declared.Refusal.{Refusal}
use Rattle.refusals.specs.Answers.{answer_of}
use Rattle.refusals.proofs.SameResult.{amount_at, number_at, HandsOver, answer-read}
use Rattle.room.specs.Room.{Answers}
use Rattle.room.proofs.SameAnswers.{same-result}
use Rattle.accounts.specs.Answers.{carries_top_up}
use Rattle.reservations.specs.Answers.{carries_grant, carries_commit, carries_release}
use Rattle.any_memory_accounts.specs.Tells.{Tells}
use Rattle.any_memory_accounts.proofs.SameReading.{same-reading}

-- ── what is handed over ────────────────────────────────────────────────────────────────────────

pub top-up-read : HandsOver carries_top_up
top-up-read = record { back = λ r. record { amount = amount_at r 0; initial = amount_at r 1; remaining = amount_at r 2 }; is = λ _. refl }

pub grant-read : HandsOver carries_grant
grant-read = record { back = λ r. record { remaining = amount_at r 0; id = record { 0 = number_at r 1 } }; is = λ _. refl }

pub commit-read : HandsOver carries_commit
commit-read = record { back = λ r. record { remaining = amount_at r 0; actual = amount_at r 1 }; is = λ _. refl }

pub release-read : HandsOver carries_release
release-read = record { back = λ r. record { remaining = amount_at r 0; amount = amount_at r 1 }; is = λ _. refl }

-- ── the result ─────────────────────────────────────────────────────────────────────────────────

module _ {A : Type 0} (carried : A → List Value) (read : HandsOver carried) where
  -- of the six operations: two results that a contract permits are one, and so is the memory
  pub same-operation : (f : Ledger → Outcome) (before after others : List ℕ) → All IsByte after → All IsByte others → (r s : Result A Refusal)
      → Answers f before (answer_of carried r) after → Answers f before (answer_of carried s) others → (r ≡ s) × (after ≡ others)
  same-operation = same-result (answer_of carried) (answer-read carried read)

  -- of the nine reads
  pub same-read : (f : Ledger → Reply) (memory : List ℕ) (r s : Result A Refusal) → Tells f memory (answer_of carried r) → Tells f memory (answer_of carried s) → r ≡ s
  same-read = same-reading (answer_of carried) (answer-read carried read)
