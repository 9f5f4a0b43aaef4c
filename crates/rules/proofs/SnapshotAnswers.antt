-- Every answer of an operation that is handed a snapshot is one that the table lists for it, with values that fit. A refusal goes check by check, by the
-- test that gave it and those that passed before it, and row by row; what is handed out or told is of the snapshot that was handed in, which fits.
use mathlib.Core.Path.{◌≡◌, refl, sym, subst}
use mathlib.Core.Bool.{Bool, true, false, not, cond, ◌&&◌}
use mathlib.Core.List.{List, [], ◌∷◌, ◌++◌, map}
use mathlib.Core.Option.{Option, none, some}
use Prim.Native.Nat.{ℕ, ◌≤◌, min}
use native.Mathlib.Omega.{arith}
use borrow.Author.Tests.{ltb-false, le-leb, not-false}
use lib.Dec.{eqb}
use lib.IntN.{ℤ, pos}
use Rattle.rules.specs.Lists.{first, All}
use Rattle.rules.specs.RoomAndSoundLedger.{M, Name, IsByte, Ledger}
use Rattle.rules.specs.AnswerNumbers.{Value, SnapshotBytes, Reply, done, Refusal, ActiveReservations, DuplicateTenant, GhostReservation, NegativeLedgerField, ConservationViolation, AggregateOverflow, InvalidAllocatorFence, NameTooLong, NamesFull, reply_of}
use Rattle.rules.specs.AccountRules.{is_too_long}
use Rattle.rules.specs.SnapshotsMigrationCertificates.{Row, Snapshot, snapshot_bytes, has_long_name, tagged, passes, ◌gives◌else◌, and_then, fits64, row_conservation, conservation, row_validation, rows_validation, validation, restore_version, recovery_version, or_else, restore_refusal, restore, recovery_restore, reply_or, with_version, migrate, status, initial_total, committed_rows_total, totals_fit, certificate, certificate_of_snapshot}
use Rattle.rules.specs.Frames.{restore_frame, recovery_frame, migration_frame, snapshot_certificate_frame, status_frame, longest_snapshot}
use Rattle.rules.specs.Recorder.{answer_table, of_validation, of_certificate, forms_in, form_of, OfForm, CanAnswer}
use Rattle.rules.specs.Domain.{IsAmount, IsWord, IsBytes, RowFits, SnapshotFits}
use Rattle.rules.proofs.Tests.{by-test, true-false, or-false, and-true}
use Rattle.rules.proofs.Lists.{none_any, all_both}
use Rattle.rules.proofs.Checks.{check-passes}
use Rattle.rules.proofs.SnapshotBytes.{never-too-short}
use Rattle.rules.proofs.AccountAnswers.{amount-holds}

-- ── by the forms of an operation ───────────────────────────────────────────────────────────────

-- an answer of one of these forms
abbrev OneOf : List Reply → Reply → Type 0
OneOf forms r = OfForm (first (λ form. eqb r.number form.number) forms) r

-- all forms of the operation with this code
abbrev pub forms_of : (code : ℕ) → List Reply
forms_of code = forms_in (first (λ a. eqb code a.code) answer_table)

by-forms : (code : ℕ) (forms : List Reply) → forms_of code ≡ forms → (r : Reply) → OneOf forms r → CanAnswer code r
unfolding form_of
by-forms code forms e r h = subst (λ fs. OneOf fs r) (sym e) h

-- ── what the checks of a snapshot give ─────────────────────────────────────────────────────────

-- no refusal, or one of this kind
unfoldable Gives : (Refusal → Type 0) → Option Refusal → Type 0
Gives P none = Unit {0}
Gives P (some e) = P e

module _ (P : Refusal → Type 0) where
  pass-gives : Gives P passes
  unfolding Gives
  pass-gives = tt

  -- by the test that failed, or later, after one that passed
  check-gives : (fails : Bool) (e : Refusal) (later : Option Refusal) → (fails ≡ true → P e) → (fails ≡ false → Gives P later) → Gives P (fails gives e else later)
  unfolding Gives ◌gives◌else◌
  check-gives true e later h k = h refl
  check-gives false e later h k = k refl

  then-gives : (earlier later : Option Refusal) → Gives P earlier → Gives P later → Gives P (and_then earlier later)
  unfolding Gives and_then
  then-gives none later h k = k
  then-gives (some e) later h k = h

gives-map : (P Q : Refusal → Type 0) → ((e : Refusal) → P e → Q e) → (o : Option Refusal) → Gives P o → Gives Q o
unfolding Gives
gives-map P Q f none h = tt
gives-map P Q f (some e) h = f e h

-- a name of bytes that is not too long
abbrev IsShort : Name → Type 0
IsShort a = IsBytes a × (is_too_long a ≡ false)

-- what conservation gives, with values that fit
data OfConservation : Refusal → Type 0 where
  overflow : OfConservation AggregateOverflow
  violation : {a : Name} {delta : ℤ} → IsShort a → IsAmount delta → OfConservation (ConservationViolation a delta)

-- .. and ledger validation
data OfChecks : Refusal → Type 0 where
  conserved : {e : Refusal} → OfConservation e → OfChecks e
  active : {count : ℕ} → IsWord count → OfChecks (ActiveReservations count)
  duplicate : {a : Name} → IsShort a → OfChecks (DuplicateTenant a)
  ghost : {a : Name} {reserved : ℤ} → IsShort a → IsAmount reserved → OfChecks (GhostReservation a reserved)
  negative : {a : Name} {field : ℕ} {value : ℤ} → IsShort a → IsByte field → IsAmount value → OfChecks (NegativeLedgerField a field value)

-- a row that fits, without a long name
abbrev ShortRow : Row → Type 0
ShortRow r = RowFits r × (is_too_long r.name ≡ false)

short-rows : (s : Snapshot) → SnapshotFits s → has_long_name s.rows ≡ false → All ShortRow s.rows
unfolding has_long_name
short-rows s fits e = all_both RowFits (λ r. is_too_long r.name ≡ false) ShortRow (λ r h k. (h, k)) s.rows fits.rows (none_any _ s.rows e)

-- a delta that is told has passed the test before
delta-fits : (differs fits : Bool) → differs && not fits ≡ false → differs ≡ true → fits ≡ true
delta-fits true fits e h = not-false fits e
delta-fits false fits e h = true-false h refl

row-conservation-gives : (r : Row) → ShortRow r → Gives OfConservation (row_conservation r)
unfolding row_conservation
row-conservation-gives r (f, short) =
    check-gives _ _ _ _ (λ _. overflow)
    (λ _. check-gives _ _ _ _ (λ _. overflow)
    (λ small. check-gives _ _ _ _ (λ differs. violation (f.bytes, short) (delta-fits _ _ small differs))
    (λ _. check-gives _ _ _ _ (λ _. violation (f.bytes, short) f.remaining) (λ _. pass-gives _))))

conservation-gives : (rs : List Row) → All ShortRow rs → Gives OfConservation (conservation rs)
unfolding conservation
conservation-gives [] h = pass-gives _
conservation-gives (r ∷ rs) (h, k) = then-gives _ _ _ (row-conservation-gives r h) (conservation-gives rs k)

row-validation-gives : (seen : List Name) (r : Row) → ShortRow r → Gives OfChecks (row_validation seen r)
unfolding row_validation
row-validation-gives seen r (f, short) =
    let a : IsShort r.name = (f.bytes, short) in
    check-gives _ _ _ _ (λ _. duplicate a)
    (λ _. check-gives _ _ _ _ (λ _. ghost a f.reserved)
    (λ _. check-gives _ _ _ _ (λ _. negative a (omega arith) f.remaining)
    (λ _. check-gives _ _ _ _ (λ _. negative a (omega arith) f.initial)
    (λ _. check-gives _ _ _ _ (λ _. negative a (omega arith) f.committed) (λ _. pass-gives _)))))

rows-validation-gives : (seen : List Name) (rs : List Row) → All ShortRow rs → Gives OfChecks (rows_validation seen rs)
unfolding rows_validation
rows-validation-gives seen [] h = pass-gives _
rows-validation-gives seen (r ∷ rs) (h, k) = then-gives _ _ _ (row-validation-gives seen r h) (rows-validation-gives (r.name ∷ seen) rs k)

validation-gives : (s : Snapshot) → SnapshotFits s → has_long_name s.rows ≡ false → Gives OfChecks (validation s)
unfolding validation
validation-gives s fits short =
    let rows = short-rows s fits short in
    check-gives _ _ _ _ (λ _. active fits.active)
    (λ _. then-gives _ _ _ (rows-validation-gives [] s.rows rows) (gives-map _ _ (λ e. conserved) _ (conservation-gives s.rows rows)))

-- ── an operation that is handed a snapshot ─────────────────────────────────────────────────────

abbrev RefusalListed : (code : ℕ) → Refusal → Type 0
RefusalListed code e = CanAnswer code (reply_of e)

-- each stands among the forms that `of_validation` lists
checks-in : (vs : List Value) (further : List Reply) {e : Refusal} → OfChecks e → OneOf (done vs ∷ map reply_of (of_validation []) ++ further) (reply_of e)
unfolding first
checks-in vs further (conserved overflow) = tt
checks-in vs further (conserved (violation a z)) = ((_, refl, a.0, a.1), ((_, refl, z), tt))
checks-in vs further (active n) = ((_, refl, n), tt)
checks-in vs further (duplicate a) = ((_, refl, a.0, a.1), tt)
checks-in vs further (ghost a z) = ((_, refl, a.0, a.1), ((_, refl, z), tt))
checks-in vs further (negative a n z) = ((_, refl, a.0, a.1), ((_, refl, n), ((_, refl, z), tt)))

pub totals-fit : (rs : List Row) → totals_fit rs ≡ true → IsAmount (initial_total rs) × IsAmount (committed_rows_total rs)
totals-fit rs e = and-true (fits64 (initial_total rs)) (fits64 (committed_rows_total rs)) e

-- a total that is told where it fits, and else 0
told-fits : (fits : Bool) (z : ℤ) → (fits ≡ true → IsAmount z) → IsAmount (cond fits z (pos 0))
told-fits fits z h = by-test IsAmount fits h (λ _. le-leb 0 M (omega arith))

module _ (code : ℕ) where
  or-else-listed : (o : Option Refusal) (L after : Ledger) → Gives (RefusalListed code) o → CanAnswer code (done []) → CanAnswer code (or_else o L after).reply
  unfolding Gives or_else
  or-else-listed none L after h d = d
  or-else-listed (some e) L after h d = h

  reply-or-listed : (o : Option Refusal) (r : Reply) → Gives (RefusalListed code) o → (o ≡ none → CanAnswer code r) → CanAnswer code (reply_or o r)
  unfolding Gives reply_or
  reply-or-listed none r h d = d refl
  reply-or-listed (some e) r h d = h

  module _ (vs : List Value) (further : List Reply) (forms : forms_of code ≡ done vs ∷ map reply_of (of_validation []) ++ further) (s : Snapshot) (fits : SnapshotFits s) where
    validation-listed : has_long_name s.rows ≡ false → Gives (RefusalListed code) (validation s)
    validation-listed short = gives-map _ _ (λ e h. by-forms code _ forms _ (checks-in vs further h)) _ (validation-gives s fits short)

    restore-refusal-listed : (of_version : Option Refusal) (t : ℕ) → Gives (RefusalListed code) of_version → CanAnswer code (reply_of NameTooLong) → CanAnswer code (reply_of NamesFull)
        → Gives (RefusalListed code) (restore_refusal of_version t s)
    unfolding restore_refusal
    restore-refusal-listed of_version t version long full =
        check-gives _ _ _ _ (λ _. long)
        (λ short. then-gives _ _ _ version (then-gives _ _ _ (validation-listed short) (check-gives _ _ _ _ (λ _. full) (λ _. pass-gives _))))

  pub certificate-listed : (further : List Reply) → forms_of code ≡ done of_certificate ∷ further → (s : Snapshot) → SnapshotFits s → (since : ℤ) → IsAmount since → CanAnswer code (certificate s since)
  unfolding certificate first
  certificate-listed further forms s fits since f =
      let rows = s.rows in
      let initial = told-fits (totals_fit rows) (initial_total rows) (λ e. (totals-fit rows e).0) in
      let committed = told-fits (totals_fit rows) (committed_rows_total rows) (λ e. (totals-fit rows e).1) in
      by-forms code _ forms (certificate s since) (
        (_, refl, fits.version),
        (
          (_, refl, omega (arith, fits.count)),
          (
            (_, refl, fits.active),
            (
              (_, refl),
              ((_, refl, initial), ((_, refl, committed), ((_, refl), ((since, refl, f), tt)))),
            ),
          ),
        ),
      )

restore-version-listed : (v : ℕ) → Gives (RefusalListed restore_frame.code) (restore_version v)
unfolding restore_version form_of answer_table first
restore-version-listed v = check-gives _ _ _ _ (λ _. (([], refl, tt, refl), ((_, refl, omega arith), (amount-holds (min v M) (omega arith), tt)))) (λ _. pass-gives _)

recovery-version-listed : (v : ℕ) → Gives (RefusalListed recovery_frame.code) (recovery_version v)
unfolding recovery_version form_of answer_table first
recovery-version-listed v = check-gives _ _ _ _ (λ _. tt) (λ _. check-gives _ _ _ _ (λ _. ((0, refl, omega arith), tt)) (λ _. pass-gives _))

tagged-word : (fence : ℕ) → fence ≤ M → IsWord (tagged fence)
unfolding M
tagged-word fence h = omega arith

module _ (s : Snapshot) (fits : SnapshotFits s) where
  pub restore-listed : (L : Ledger) → CanAnswer restore_frame.code (restore L s).reply
  unfolding restore form_of answer_table first
  restore-listed L =
      or-else-listed restore_frame.code _ L _ (restore-refusal-listed restore_frame.code _ _ refl s fits _ L.T (restore-version-listed s.version) tt tt) tt

  pub recovery-listed : (L : Ledger) → CanAnswer recovery_frame.code (recovery_restore L s).reply
  unfolding recovery_restore form_of answer_table first
  recovery-listed L =
      or-else-listed recovery_frame.code _ L _ (restore-refusal-listed recovery_frame.code _ _ refl s fits _ L.T (recovery-version-listed s.version) tt tt) tt

  pub migrate-listed : (fence : ℕ) → IsWord fence → CanAnswer migration_frame.code (migrate longest_snapshot fence s)
  unfolding migrate form_of answer_table first
  migrate-listed fence f =
      let migrated = with_version (tagged fence) s in
      reply-or-listed migration_frame.code _ (done (SnapshotBytes (snapshot_bytes migrated) ∷ []))
      (check-gives _ _ _ _ (λ _. tt)
      (λ short. check-gives _ _ _ _ (λ _. tt)
      (λ _. check-gives _ _ (InvalidAllocatorFence fence) _ (λ _. ((fence, refl, f), tt))
      (λ _. then-gives _ _ _ (validation-listed migration_frame.code _ _ refl s fits short)
      (check-gives _ _ _ _ (λ e. true-false e (never-too-short migrated fits.count short)) (λ _. pass-gives _))))))
      (λ e. let (short, e) = check-passes _ _ _ e in
      let (untagged, e) = check-passes _ _ _ e in
      let (in_range, e) = check-passes _ _ _ e in
      let below = ltb-false M fence (or-false (eqb fence 0) _ in_range).1 in
      ((migrated, refl, record { version = tagged-word fence below; active = fits.active; count = fits.count; rows = fits.rows }, short), tt))

  pub status-listed : CanAnswer status_frame.code (status s)
  unfolding status form_of answer_table first
  status-listed = reply-or-listed status_frame.code _ _
      (check-gives _ _ _ _ (λ _. tt) (λ short. gives-map _ _ (λ e. listed) _ (conservation-gives s.rows (short-rows s fits short))))
      (λ _. tt)
    where
      listed : {e : Refusal} → OfConservation e → RefusalListed status_frame.code e
      listed overflow = tt
      listed (violation a z) = ((_, refl, a.0, a.1), ((_, refl, z), tt))

  pub snapshot-certificate-listed : (since : ℤ) → IsAmount since → CanAnswer snapshot_certificate_frame.code (certificate_of_snapshot since s)
  unfolding certificate_of_snapshot form_of answer_table first
  snapshot-certificate-listed since f = reply-or-listed snapshot_certificate_frame.code _ _
      (check-gives _ _ _ _ (λ _. tt) (λ _. pass-gives _))
      (λ _. certificate-listed snapshot_certificate_frame.code _ refl s fits since f)
