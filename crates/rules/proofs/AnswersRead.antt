-- Every answer that the rules give is one that the table lists for its operation, with values that fit, where a sound ledger is lent and where none is.
-- AccountAnswers and SnapshotAnswers have most operations; the others tell of a ledger's own snapshot, which fits, and without a ledger 24 is listed.
use mathlib.Core.Path.{◌≡◌, refl, subst}
use mathlib.Core.Logic.{◌⊎◌, inl, inr}
use mathlib.Core.Bool.{true, ◌&&◌}
use mathlib.Core.List.{[], ◌∷◌}
use mathlib.Core.Option.{some}
use Prim.Native.Nat.{ℕ, ◌-◌}
use native.Mathlib.Omega.{arith}
use borrow.Author.Tests.{le-leb}
use lib.Dec.{ltb}
use lib.ListN.{length}
use Rattle.rules.specs.Lists.{first}
use Rattle.rules.specs.RoomAndSoundLedger.{M, Ledger, committed_total, Sound}
use Rattle.rules.specs.AnswerNumbers.{Amount, Version, Count, YesOrNo, SnapshotBytes, done, AllocatorExhausted, UnsoundLedger, reply_of, Outcome, Lent, sound, unsound, LentSound, on_lent}
use Rattle.rules.specs.AccountRules.{AccountOperation, ensure, top_up, limit, reserve, commit, release, read_remaining, read_initial, read_committed, read_reserved, next_id_is_m}
use Rattle.rules.specs.SnapshotsMigrationCertificates.{Snapshot, snapshot_bytes, snapshot_of, taking_snapshot, too_short_for, snapshot, initial_total, committed_rows_total, totals_fit, certificate_of_ledger, conservation_proof}
use Rattle.rules.specs.Frames.{Operation, on_account, take_snapshot, certify_ledger, prove_conservation, restore_from, recover_from, judge, migrate_to, certify, snapshot_frame, certificate_frame, proof_frame, longest_snapshot, answer}
use Rattle.rules.specs.Recorder.{code_of, answer_table, form_of, CanAnswer}
use Rattle.rules.specs.Domain.{SnapshotFits, OperationFits}
use Rattle.rules.proofs.Tests.{by-test, true-false}
use Rattle.rules.proofs.SnapshotSoundness.{total-fits}
use Rattle.rules.proofs.SoundByName.{by_name}
use Rattle.rules.proofs.OwnSnapshot.{own-snapshot-fits, own-names-short}
use Rattle.rules.proofs.EveryLine.{own-snapshot-has-room}
use Rattle.rules.proofs.AccountAnswers.{Listed, account-listed}
use Rattle.rules.proofs.SnapshotAnswers.{totals-fit, certificate-listed, restore-listed, recovery-listed, migrate-listed, status-listed, snapshot-certificate-listed}

-- ── an operation that takes a snapshot of the ledger ───────────────────────────────────────────

-- what a conservation proof tells
totals-listed : (s : Snapshot) → SnapshotFits s → totals_fit s.rows ≡ true
    → CanAnswer proof_frame.code (done (Version s.version ∷ Count (length s.rows) ∷ Count s.active ∷ Amount (initial_total s.rows) ∷ Amount (committed_rows_total s.rows) ∷ YesOrNo true ∷ []))
unfolding form_of answer_table first
totals-listed s fits e =
    let (initial, committed) = totals-fit s.rows e in
    ((_, refl, fits.version), ((_, refl, omega (arith, fits.count)), ((_, refl, fits.active), ((_, refl, initial), ((_, refl, committed), ((_, refl), tt))))))

module _ (L : Ledger) (known : Sound L) where
  -- 9, or what comes of a snapshot that fits
  taking-listed : (code : ℕ) (o : Outcome) → CanAnswer code (reply_of AllocatorExhausted) → (SnapshotFits (snapshot_of L) → CanAnswer code o.reply) → CanAnswer code (taking_snapshot L o).reply
  unfolding taking_snapshot
  taking-listed code o exhausted h = by-test (λ (o : Outcome). CanAnswer code o.reply) (next_id_is_m L) (λ _. exhausted) (λ e. h (own-snapshot-fits L known e))

  snapshot-listed : CanAnswer snapshot_frame.code (snapshot longest_snapshot L).reply
  unfolding snapshot form_of answer_table first
  snapshot-listed = taking-listed snapshot_frame.code _ tt
      (λ fits. let bytes : CanAnswer snapshot_frame.code (done (SnapshotBytes (snapshot_bytes (snapshot_of L)) ∷ [])) = ((snapshot_of L, refl, fits, own-names-short L.places known.are_names), tt) in
      by-test (λ (o : Outcome). CanAnswer snapshot_frame.code o.reply) (too_short_for longest_snapshot (snapshot_of L)) (λ e. true-false e (own-snapshot-has-room L known)) (λ _. bytes))

  ledger-certificate-listed : CanAnswer certificate_frame.code (certificate_of_ledger L).reply
  unfolding certificate_of_ledger form_of answer_table first
  ledger-certificate-listed = taking-listed certificate_frame.code _ tt (λ fits.
      by-test (λ (o : Outcome). CanAnswer certificate_frame.code o.reply) (totals_fit (snapshot_of L).rows && ltb L.baseline (committed_total L.places))
      (λ e. certificate-listed certificate_frame.code _ refl (snapshot_of L) fits _ (le-leb (committed_total L.places - L.baseline) M (omega (arith, total-fits L (by_name L known) _ e))))
      (λ _. certificate-listed certificate_frame.code _ refl (snapshot_of L) fits _ (le-leb 0 M (omega arith))))

  proof-listed : CanAnswer proof_frame.code (conservation_proof L).reply
  unfolding conservation_proof form_of answer_table first
  proof-listed = taking-listed proof_frame.code _ tt
      (λ fits. by-test (λ (o : Outcome). CanAnswer proof_frame.code o.reply) (totals_fit (snapshot_of L).rows) (totals-listed (snapshot_of L) fits) (λ _. tt))

-- ── every operation ────────────────────────────────────────────────────────────────────────────

sound-listed : (L : Ledger) → Sound L → (x : Operation) → OperationFits x → Listed (code_of x) (answer (sound L) x).reply
unfolding answer on_lent
sound-listed L known (on_account x) f = account-listed L known x f
sound-listed L known take_snapshot f = snapshot-listed L known
sound-listed L known certify_ledger f = ledger-certificate-listed L known
sound-listed L known prove_conservation f = proof-listed L known
sound-listed L known (restore_from s) f = restore-listed s f L
sound-listed L known (recover_from s) f = recovery-listed s f L
sound-listed L known (judge s) f = status-listed s f
sound-listed L known (migrate_to fence s) (f, g) = migrate-listed s g fence f
sound-listed L known (certify since s) (f, g) = snapshot-certificate-listed s g since f

account-unsound : (x : AccountOperation ℕ) → Listed (code_of (on_account x)) (reply_of UnsoundLedger)
unfolding form_of answer_table first
account-unsound (ensure a z) = tt
account-unsound (top_up a z) = tt
account-unsound (limit a z) = tt
account-unsound (reserve a z) = tt
account-unsound (commit i z) = tt
account-unsound (release i) = tt
account-unsound (read_remaining a) = tt
account-unsound (read_initial a) = tt
account-unsound (read_committed a) = tt
account-unsound (read_reserved a) = tt

-- 24 is listed for each that takes a ledger
unsound-listed : (x : Operation) → OperationFits x → Listed (code_of x) (answer unsound x).reply
unfolding answer on_lent form_of answer_table first
unsound-listed (on_account x) f = account-unsound x
unsound-listed take_snapshot f = tt
unsound-listed certify_ledger f = tt
unsound-listed prove_conservation f = tt
unsound-listed (restore_from s) f = tt
unsound-listed (recover_from s) f = tt
unsound-listed (judge s) f = status-listed s f
unsound-listed (migrate_to fence s) (f, g) = migrate-listed s g fence f
unsound-listed (certify since s) (f, g) = snapshot-certificate-listed s g since f

-- whatever is lent, and whatever is asked that has a frame
pub answer-listed : (l : Lent) → (l ≡ unsound) ⊎ LentSound l → (x : Operation) → OperationFits x → (c : ℕ) → code_of x ≡ some c → CanAnswer c (answer l x).reply
answer-listed l h x f c e = subst (λ o. Listed o (answer l x).reply) e (go l h)
  where
    go : (l : Lent) → (l ≡ unsound) ⊎ LentSound l → Listed (code_of x) (answer l x).reply
    go unsound h = unsound-listed x f
    go (sound L) (inl e) = absurd (let z : ◌≡◌ {A = ℕ} 0 1 = cc in omega arith)
    go (sound L) (inr known) = sound-listed L known x f
