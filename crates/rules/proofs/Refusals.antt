-- Every answer on a sound ledger is done or a row of the table before 23, leaves a sound ledger, and moves just what its row says; 24 is given exactly
-- where no sound ledger is lent to an operation that takes one, and 23 exactly to a line that holds no operation. What was decided (Decided) is read in
-- the table's words; that the ledger stays sound is SnapshotSoundness.
use mathlib.Core.Path.{◌≡◌, refl, sym, ◌∙◌, ap}
use mathlib.Core.Logic.{◌⊎◌, inl, inr, ◌≢◌, ◌↔◌}
use mathlib.Core.Bool.{true, false}
use mathlib.Core.List.{List, []}
use mathlib.Core.Option.{none, some}
use Prim.Native.Nat.{ℕ, suc, ◌<◌}
use native.Mathlib.Omega.{arith}
use lib.IntN.{pos}
use Rattle.rules.specs.RoomAndSoundLedger.{Name, Ledger, InRange, Sound, fresh}
use Rattle.rules.specs.AnswerNumbers.{Refusal, NegativeAmount, InvalidAmount, MissingTenant, OverflowOfReserve, OverflowOfCommit, OverflowOfTopUp, ExposureLimitExceeded, Insufficient, MissingReservation, Overrun, AllocatorExhausted, ActiveReservations, DuplicateTenant, GhostReservation, NegativeLedgerField, ConservationViolation, AggregateOverflow, AlreadyRecoveryAware, InvalidAllocatorFence, LegacySnapshotRequiresMigration, NameTooLong, NamesFull, ReservationsFull, OutputTooShort, BadFrame, UnsoundLedger, reply_of, Lent, sound, unsound, Answered, answered, on_lent}
use Rattle.rules.specs.AccountRules.{drawn, reserve}
use Rattle.rules.specs.SnapshotsMigrationCertificates.{after_snapshot, handed_out}
use Rattle.rules.specs.Frames.{Operation, on_account, take_snapshot, certify_ledger, prove_conservation, restore_from, recover_from, judge, migrate_to, certify, answer, operation_of_line, answer_or23, answer_to_line}
use Rattle.rules.specs.Refusals.{Marked, with-cost, from-proof, AnswerOf, takes_ledger}
use Rattle.rules.specs.Domain.{OperationFits}
use Rattle.rules.specs.OrderBetweenAirlines.{identifier_in, granted_id}
use Rattle.rules.proofs.Tests.{by_bool, by-option, true-false}
use Rattle.rules.proofs.SnapshotSoundness.{answer-sound}
use Rattle.rules.proofs.FrameBytes.{line-fits}
use Rattle.rules.proofs.Decided.{Decided, accepted, refused-plainly, lost-an-id, proof-overflowed, decided}

-- the table's rows: no refusal is taken for done, grants an id or hands out a snapshot
refusal-row : (e : Refusal) → InRange 1 24 (reply_of e).number × (granted_id (reply_of e).carried ≡ none) × (handed_out (reply_of e).carried ≡ [])
unfolding granted_id identifier_in
refusal-row (NegativeAmount value) = (omega arith, refl, refl)
refusal-row InvalidAmount = (omega arith, refl, refl)
refusal-row MissingTenant = (omega arith, refl, refl)
refusal-row (OverflowOfReserve reserved) = (omega arith, refl, refl)
refusal-row (OverflowOfCommit remaining) = (omega arith, refl, refl)
refusal-row OverflowOfTopUp = (omega arith, refl, refl)
refusal-row (ExposureLimitExceeded reserved ceiling) = (omega arith, refl, refl)
refusal-row (Insufficient remaining required) = (omega arith, refl, refl)
refusal-row MissingReservation = (omega arith, refl, refl)
refusal-row (Overrun remaining) = (omega arith, refl, refl)
refusal-row AllocatorExhausted = (omega arith, refl, refl)
refusal-row (ActiveReservations count) = (omega arith, refl, refl)
refusal-row (DuplicateTenant tenant) = (omega arith, refl, refl)
refusal-row (GhostReservation tenant reserved) = (omega arith, refl, refl)
refusal-row (NegativeLedgerField tenant field value) = (omega arith, refl, refl)
refusal-row (ConservationViolation tenant delta) = (omega arith, refl, refl)
refusal-row AggregateOverflow = (omega arith, refl, refl)
refusal-row AlreadyRecoveryAware = (omega arith, refl, refl)
refusal-row (InvalidAllocatorFence fence) = (omega arith, refl, refl)
refusal-row LegacySnapshotRequiresMigration = (omega arith, refl, refl)
refusal-row NameTooLong = (omega arith, refl, refl)
refusal-row NamesFull = (omega arith, refl, refl)
refusal-row ReservationsFull = (omega arith, refl, refl)
refusal-row OutputTooShort = (omega arith, refl, refl)
refusal-row BadFrame = (omega arith, refl, refl)
refusal-row UnsoundLedger = (omega arith, refl, refl)

module _ (e : Refusal) where
  pub refusal-number : InRange 1 24 (reply_of e).number
  refusal-number = (refusal-row e).0

  pub refusal-grants-nothing : granted_id (reply_of e).carried ≡ none
  refusal-grants-nothing = (refusal-row e).1

  pub refusal-hands-out-nothing : handed_out (reply_of e).carried ≡ []
  refusal-hands-out-nothing = (refusal-row e).2

-- ── the table's words ──────────────────────────────────────────────────────────────────────────

module _ (L : Ledger) (x : Operation) (r : Answered) where
  before_23 : Decided L x r → r.reply.number < 23
  before_23 (accepted n) = omega arith
  before_23 (refused-plainly e p q l) = rw q p.before_23
  before_23 (lost-an-id e costs six q l) = rw (q, six) (omega arith)
  before_23 (proof-overflowed f q l) = rw q (omega arith)

  row : Decided L x r → (r.reply.number ≡ 0) ⊎ ((e : Refusal) × (r.reply ≡ reply_of e))
  row (accepted n) = inl n
  row (refused-plainly e p q l) = inr (e, q)
  row (lost-an-id e costs six q l) = inr (e, q)
  row (proof-overflowed f q l) = inr (AggregateOverflow, q)

  draws_an_id : Decided L x r → (a : Name) (cost : ℕ) → x ≡ on_account (reserve a (pos (suc cost))) → r.reply.number ≡ 6 → r.lent ≡ sound (drawn L)
  draws_an_id (accepted n) a cost f six = absurd (omega arith)
  draws_an_id (refused-plainly e p q l) a cost f six = absurd (p.unmarked (with-cost a cost f (sym (ap (λ r. r.number) q) ∙ six)))
  draws_an_id (lost-an-id e costs n q l) a cost f six = l
  draws_an_id (proof-overflowed g q l) a cost f six = absurd (omega (arith, ap (λ r. r.number) q))

  takes_a_snapshot : Decided L x r → x ≡ prove_conservation → r.reply.number ≡ 15 → r.lent ≡ sound (after_snapshot L)
  takes_a_snapshot (accepted n) f fifteen = absurd (omega arith)
  takes_a_snapshot (refused-plainly e p q l) f fifteen = absurd (p.unmarked (from-proof f (sym (ap (λ r. r.number) q) ∙ fifteen)))
  takes_a_snapshot (lost-an-id e costs n q l) f fifteen = absurd (omega (arith, n, ap (λ r. r.number) q))
  takes_a_snapshot (proof-overflowed g q l) f fifteen = l

  changes_nothing : Decided L x r → r.reply.number ≢ 0 → ¬ Marked x r.reply.number → r.lent ≡ sound L
  changes_nothing (accepted n) not_done unmarked = absurd (not_done n)
  changes_nothing (refused-plainly e p q l) not_done unmarked = l
  changes_nothing (lost-an-id e (a, cost, f) six q l) not_done unmarked = absurd (unmarked (with-cost a cost f (ap (λ r. r.number) q ∙ six)))
  changes_nothing (proof-overflowed f q l) not_done unmarked = absurd (unmarked (from-proof f (ap (λ r. r.number) q)))

pub every-answer : (L : Ledger) → Sound L → (x : Operation) → OperationFits x → AnswerOf L x (answer (sound L) x)
every-answer L known x fits =
    let r = answer (sound L) x in
    let d = decided L x in
    record {
      row = row L x r d;
      before_23 = before_23 L x r d;
      stays_sound = answer-sound (sound L) known x fits;
      draws_an_id = draws_an_id L x r d;
      takes_a_snapshot = takes_a_snapshot L x r d;
      changes_nothing = changes_nothing L x r d;
    }

-- what holds no operation is answered 23, and leaves what is lent
pub bad_frame : (l : Lent) (line : List ℕ) → operation_of_line line ≡ none → answer_to_line l line ≡ answered (reply_of BadFrame) l
unfolding answer_to_line
bad_frame l line e = rw e

-- A line of any characters: 23 and nothing changed, or the answer of the operation that it holds
pub every-line : (L : Ledger) → Sound L → (line : List ℕ) → (operation_of_line line ≡ none → answer_to_line (sound L) line ≡ answered (reply_of BadFrame) (sound L))
    × ((x : Operation) → operation_of_line line ≡ some x → AnswerOf L x (answer_to_line (sound L) line))
unfolding answer_to_line
every-line L known line = (bad_frame (sound L) line, λ x e. rw e (every-answer L known x (line-fits line x e)))

-- ── 24 and 23 ──────────────────────────────────────────────────────────────────────────────────

-- an operation that takes no ledger is answered alike whatever is lent, and leaves it
pub takes_none : (l m : Lent) (x : Operation) → takes_ledger x ≡ false → answer l x ≡ answered (answer m x).reply l
unfolding answer
takes_none l m (on_account x) e = true-false refl e
takes_none l m take_snapshot e = true-false refl e
takes_none l m certify_ledger e = true-false refl e
takes_none l m prove_conservation e = true-false refl e
takes_none l m (restore_from s) e = true-false refl e
takes_none l m (recover_from s) e = true-false refl e
takes_none l m (judge s) e = refl
takes_none l m (migrate_to fence s) e = refl
takes_none l m (certify since s) e = refl

-- any other is refused where no sound ledger is lent, and leaves what is lent
pub unsound-refused : (x : Operation) → takes_ledger x ≡ true → answer unsound x ≡ answered (reply_of UnsoundLedger) unsound
unfolding answer on_lent
unsound-refused (on_account x) e = refl
unsound-refused take_snapshot e = refl
unsound-refused certify_ledger e = refl
unsound-refused prove_conservation e = refl
unsound-refused (restore_from s) e = refl
unsound-refused (recover_from s) e = refl
unsound-refused (judge s) e = true-false e refl
unsound-refused (migrate_to fence s) e = true-false e refl
unsound-refused (certify since s) e = true-false e refl

data Numbered (l : Lent) (x : Operation) : Type 0 where
  in-the-table : (answer l x).reply.number < 23 → Numbered l x
  twenty-four : l ≡ unsound → takes_ledger x ≡ true → (answer l x).reply.number ≡ 24 → Numbered l x

numbered : (l : Lent) (x : Operation) → Numbered l x
numbered (sound L) x = in-the-table (before_23 L x _ (decided L x))
numbered unsound x = by_bool (λ b. takes_ledger x ≡ b → Numbered unsound x) (takes_ledger x)
    (λ _ e. twenty-four refl e (ap (λ r. r.reply.number) (unsound-refused x e)))
    (λ _ e. in-the-table (rw (ap (λ r. r.reply.number) (takes_none unsound (sound (fresh 1 1)) x e)) (before_23 _ x _ (decided (fresh 1 1) x))))
    refl

-- where a ledger is lent, 24 exactly when it is not sound
pub exactly-24 : (l : Lent) (x : Operation) → ((answer l x).reply.number ≡ 24) ↔ ((l ≡ unsound) × (takes_ledger x ≡ true))
exactly-24 l x = (go (numbered l x), λ (e, f). rw e (ap (λ r. r.reply.number) (unsound-refused x f)))
  where
    go : Numbered l x → (answer l x).reply.number ≡ 24 → (l ≡ unsound) × (takes_ledger x ≡ true)
    go (in-the-table n) q = absurd (omega arith)
    go (twenty-four e f n) q = (e, f)

not-23 : (l : Lent) (x : Operation) → Numbered l x → (answer l x).reply.number ≢ 23
not-23 l x (in-the-table n) q = absurd (omega arith)
not-23 l x (twenty-four e f n) q = absurd (omega arith)

-- 23 exactly when no operation is read, whatever is lent
pub exactly-23 : (l : Lent) (line : List ℕ) → ((answer_to_line l line).reply.number ≡ 23) ↔ (operation_of_line line ≡ none)
unfolding answer_to_line
exactly-23 l line = (by-option (λ o. (answer_or23 l o).reply.number ≡ 23 → o ≡ none) (operation_of_line line) (λ _ _. refl) (λ x _ q. absurd (not-23 l x (numbered l x) q)), λ e. rw e refl)

-- .. and 24 exactly when an operation is read that takes a ledger, and no sound one is lent
pub exactly-24-of-line : (l : Lent) (line : List ℕ) → ((answer_to_line l line).reply.number ≡ 24) ↔ ((l ≡ unsound) × ((x : Operation) × (operation_of_line line ≡ some x) × (takes_ledger x ≡ true)))
unfolding answer_to_line
exactly-24-of-line l line = (
  by-option (λ o. (answer_or23 l o).reply.number ≡ 24 → (l ≡ unsound) × ((x : Operation) × (o ≡ some x) × (takes_ledger x ≡ true))) (operation_of_line line)
      (λ _ q. absurd (omega arith))
      (λ x _ q. let (e, f) = (exactly-24 l x).0 q in (e, (x, refl, f))),
  λ (e, (x, f, t)). rw f ((exactly-24 l x).1 (e, t)),
)
