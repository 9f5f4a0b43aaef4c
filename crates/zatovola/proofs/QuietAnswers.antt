-- A refusal of a read, or of what the recorder writes, carries nothing.
use mathlib.Core.Path.{◌≡◌, refl}
use mathlib.Core.Logic.{◌≢◌}
use mathlib.Core.List.{List, []}
use mathlib.Core.Option.{Option, none, some}
use Prim.Native.Nat.{ℕ}
use lib.Dec.{ltb}
use lib.ListN.{length}
use Rattle.rules.specs.RoomAndSoundLedger.{M, Name, Account, Ledger, seat_in, committed_total}
use Rattle.rules.specs.AnswerNumbers.{Reply}
use Rattle.rules.specs.AccountRules.{Move, perform, is_too_long, named, on_name, operate, read_rule, read_reserved_rule, read_remaining, read_initial, read_committed, read_reserved, LedgerRead, read_ledger, read_committed_total, read_accounts, read_live, read_last_version, read_committed_since}
use Rattle.rules.specs.Frames.{Parts}
use Rattle.rules.specs.Recorder.{Written, Recording, recording, fitting, record_operation, record_answer}
use Rattle.rules.proofs.Tests.{by-test}

-- a reply that carries nothing, unless it is done
abbrev pub Quiet : Reply → Type 0
Quiet r = r.number ≢ 0 → r.carried ≡ []

done-quiet : {P : Type 0} → (◌≡◌ {A = ℕ} 0 0 → ⊥) → P
done-quiet other = absurd (other refl)

-- ── the reads ──────────────────────────────────────────────────────────────────────────────────

pub quiet-ledger : (L : Ledger) (x : LedgerRead) → Quiet (read_ledger L x)
unfolding read_ledger
quiet-ledger L read_committed_total other = by-test Quiet (ltb M (committed_total L.places)) (λ _ _. refl) (λ _ other. done-quiet other) other
quiet-ledger L read_accounts other = done-quiet other
quiet-ledger L read_live other = done-quiet other
quiet-ledger L read_last_version other = done-quiet other
quiet-ledger L read_committed_since other = done-quiet other

-- a move that is quiet, of any name
quiet-named : (L : Ledger) (a : Name) (m : Move) → Quiet (perform L a m).reply → Quiet (perform L a (named a m)).reply
unfolding perform
quiet-named L a m quiet = by-test (λ m. Quiet (perform L a m).reply) (is_too_long a) (λ _ _. refl) (λ _. quiet)

quiet-rule : (L : Ledger) (a : Name) (of : Account → ℕ) (c : Option Account) (l : ℕ) → Quiet (perform L a (read_rule of c l)).reply
unfolding perform read_rule
quiet-rule L a of none l _ = refl
quiet-rule L a of (some c) l other = done-quiet other

quiet-reserved-rule : (L : Ledger) (a : Name) (c : Option Account) (l : ℕ) → Quiet (perform L a (read_reserved_rule c l)).reply
unfolding perform read_reserved_rule
quiet-reserved-rule L a none l other = done-quiet other
quiet-reserved-rule L a (some c) l other = done-quiet other

module _ (a : Name) (L : Ledger) where
  by-rule : (of : Account → ℕ) → Quiet (on_name L a (read_rule of)).reply
  unfolding on_name
  by-rule of = let s = seat_in a L.places in quiet-named L a (read_rule of s.account s.limit) (quiet-rule L a of s.account s.limit)

  pub quiet-remaining : Quiet (operate L (read_remaining a)).reply
  unfolding operate
  quiet-remaining = by-rule (λ c. c.remaining)

  pub quiet-initial : Quiet (operate L (read_initial a)).reply
  unfolding operate
  quiet-initial = by-rule (λ c. c.initial)

  pub quiet-committed : Quiet (operate L (read_committed a)).reply
  unfolding operate
  quiet-committed = by-rule (λ c. c.committed)

  pub quiet-reserved : Quiet (operate L (read_reserved a)).reply
  unfolding operate on_name
  quiet-reserved = let s = seat_in a L.places in quiet-named L a (read_reserved_rule s.account s.limit) (quiet-reserved-rule L a s.account s.limit)

-- ── the recorder ───────────────────────────────────────────────────────────────────────────────

quiet-fitting : (text room : List ℕ) → Quiet (fitting text room).reply
unfolding fitting
quiet-fitting text room = by-test (λ (r : Recording). Quiet r.reply) (ltb (length room) (length text)) (λ _ _. refl) (λ _ other. done-quiet other)

pub quiet-recording : (text : Written → List ℕ) (o : Option Written) (room : List ℕ) → Quiet (recording text o room).reply
unfolding recording
quiet-recording text none room _ = refl
quiet-recording text (some w) room other = by-test (λ (r : Recording). Quiet r.reply) w.is_long (λ _ _. refl) (λ _. quiet-fitting (text w) room) other

pub quiet-operation : (text : Written → List ℕ) (code : ℕ) (p : Parts) (room : List ℕ) → Quiet (record_operation text code p room).reply
unfolding record_operation
quiet-operation text code p room = quiet-recording text _ room

pub quiet-answer : (text : Written → List ℕ) (code : ℕ) (words part room : List ℕ) → Quiet (record_answer text code words part room).reply
unfolding record_answer
quiet-answer text code words part room = quiet-recording text _ room
