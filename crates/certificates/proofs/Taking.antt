-- Taking a snapshot of a sound room: its head is stamped, and rotated where a certificate is given; the rest of the room stays.
use mathlib.Core.Path.{◌≡◌, refl, sym, ◌∙◌, ap, subst}
use mathlib.Core.Bool.{true, false, cond, ◌&&◌}
use mathlib.Core.List.{List}
use Prim.Native.Nat.{ℕ, ◌-◌}
use native.Mathlib.Omega.{arith}
use lib.Dec.{ltb}
use lib.IntN.{pos}
use lib.ListN.{length}
use Rattle.rules.specs.RoomAndSoundLedger.{Ledger, committed_total, Sound}
use Rattle.rules.specs.AnswerNumbers.{Reply, done, AllocatorExhausted, AggregateOverflow, reply_of, Outcome, outcome, refused, sound, on_lent}
use Rattle.rules.specs.AccountRules.{next_id_is_m}
use Rattle.rules.specs.SnapshotsMigrationCertificates.{Row, Snapshot, account_rows, snapshot_of, taking_snapshot, conservation, committed_rows_total, totals_fit, is_none, certificate, certificate_of_ledger, conservation_proof}
use Rattle.rules.specs.Frames.{certify_ledger, prove_conservation, answer}
use Rattle.rules.proofs.Tests.{by_bool}
use Rattle.rules.proofs.OwnSnapshot.{own-snapshot-balanced}
use Rattle.rules.proofs.SnapshotSoundness.{answer-sound, committed-rows-total}
use Rattle.records.specs.declared.Head.{Head}
use Rattle.heads.specs.Heads.{with_baseline}
use Rattle.heads.specs.declared.Rotated.{Rotated}
use Rattle.room.specs.Contents.{contents_of, with_head}
use Rattle.room.specs.Room.{contents_in, IsRoom, Performed}
use Rattle.certificates.specs.Certified.{carries_proof, totals_of, rotation_of, summary_of}
use Rattle.certificates.specs.declared.Summary.{Summary}
use Rattle.certificates.specs.declared.Totals.{Totals}
use Rattle.certificates.proofs.BothTotals.{Fitting}

-- ── the outcomes ───────────────────────────────────────────────────────────────────────────────

-- a ledger with another head
abbrev headed : Head → Ledger → Ledger
headed h L = record { T = L.T; R = L.R; next_id = h.next_id; last_version = h.last_version; baseline = h.baseline; places = L.places; bookings = L.bookings }

-- the head that a certificate leaves, and its since
abbrev pub rotated_in : Ledger → Rotated
rotated_in L = rotation_of (totals_fit (account_rows L.places)) (summary_of L).head (committed_total L.places)

-- what `rotation` makes of the summary's head and totals
pub turned : (L : Ledger) (s : Summary) → s ≡ summary_of L → (r : Rotated)
    → ((rs : List Row) (total : ℕ) → s.totals ≡ totals_of rs → committed_rows_total rs ≡ pos total → r ≡ rotation_of (totals_fit rs) s.head total) → r ≡ rotated_in L
turned L s is r told =
    let rows = account_rows L.places in
    let total = committed_total L.places in
    told rows total (ap (λ s. s.totals) is) (committed-rows-total L.places) ∙ ap (λ s. rotation_of (totals_fit rows) s.head total) is

-- what the conservation proof answers
abbrev pub proved : Summary → Totals → Reply
proved s t = done (carries_proof (record { version = s.head.last_version; accounts = s.rows; active = s.active; initial_total = t.initial; committed_total = t.committed }))

module _ (L : Ledger) (known : Sound L) where
  pub certificate-sound : Sound (certificate_of_ledger L).ledger
  certificate-sound = unfold answer on_lent in answer-sound (sound L) known certify_ledger tt

  pub proof-sound : Sound (conservation_proof L).ledger
  proof-sound = unfold answer on_lent in answer-sound (sound L) known prove_conservation tt

  -- a sound ledger's own snapshot is balanced
  pub own-balanced : true ≡ is_none (conservation (account_rows L.places))
  own-balanced = sym (ap is_none (own-snapshot-balanced L known))

module _ (L : Ledger) (not_last : next_id_is_m L ≡ false) where
  goes_on : (o : Outcome) → taking_snapshot L o ≡ o
  unfolding taking_snapshot
  goes_on o = rw not_last

  -- whether the baseline moves: the two tests as one, and one after the other
  pub certificate-is : certificate_of_ledger L ≡ outcome (certificate (snapshot_of L) (pos (rotated_in L).since)) (headed (rotated_in L).head L)
  unfolding certificate_of_ledger
  certificate-is =
      let s : Snapshot = snapshot_of L in
      let total : ℕ = committed_total L.places in
      let h : Head = (summary_of L).head in
      goes_on _ ∙
      by_bool (λ fit. cond (fit && ltb L.baseline total) (outcome (certificate s (pos (total - L.baseline))) (headed (with_baseline total h) L)) (outcome (certificate s (pos 0)) (headed h L))
      ≡ outcome (certificate s (pos (rotation_of fit h total).since)) (headed (rotation_of fit h total).head L)) (totals_fit s.rows)
      (λ _. by_bool (λ larger. let r : Rotated = record { since = cond larger (total - L.baseline) 0; head = with_baseline (cond larger total L.baseline) h } in
      cond larger (outcome (certificate s (pos (total - L.baseline))) (headed (with_baseline total h) L)) (outcome (certificate s (pos 0)) (headed h L))
      ≡ outcome (certificate s (pos r.since)) (headed r.head L)) (ltb L.baseline total) (λ _. refl) (λ _. refl))
      (λ _. refl)

  pub proof-overflows : totals_fit (account_rows L.places) ≡ false → conservation_proof L ≡ refused AggregateOverflow (headed (summary_of L).head L)
  unfolding conservation_proof
  proof-overflows e = goes_on _ ∙ (rw e)

  pub proof-is : (t : Totals) → Fitting (account_rows L.places) t → conservation_proof L ≡ outcome (proved (summary_of L) t) (headed (summary_of L).head L)
  unfolding conservation_proof
  proof-is t f =
      goes_on _ ∙ (rw f.fit (λ i. outcome (proved (summary_of L) (record { initial = record { 0 = sym f.initial_is i }; committed = record { 0 = sym f.committed_is i } })) (headed (summary_of L).head L)))

-- ── the room ───────────────────────────────────────────────────────────────────────────────────

module _ (xs : List ℕ) (L : Ledger) (room : IsRoom xs L) (f : Ledger → Outcome) where
  -- no id is left to draw
  pub stays : (o : Outcome) → f L ≡ taking_snapshot L o → next_id_is_m L ≡ true → Performed f L (reply_of AllocatorExhausted) xs
  unfolding taking_snapshot
  stays o taking last =
      let q : f L ≡ refused AllocatorExhausted L = taking ∙ (rw last) in
      record { answer = sym (ap (λ o. o.reply) q); room = subst (IsRoom xs) (sym (ap (λ o. o.ledger) q)) room }

  -- another head in the room
  pub becomes : Sound (f L).ledger → (r s : Reply) (g h : Head) → f L ≡ outcome s (headed h L) → r ≡ s → g ≡ h
      → (ys : List ℕ) → (length ys ≡ length xs) × (contents_of ys ≡ with_head g (contents_of xs)) → Performed f L r ys
  unfolding contents_in
  becomes known r s g h e q same ys (l, k) =
      record {
        answer = q ∙ sym (ap (λ o. o.reply) e);
        room = subst (IsRoom ys) (sym (ap (λ o. o.ledger) e)) (record {
          size = omega (arith, room.size);
          holds = k ∙ (λ i. with_head (same i) (room.holds i));
          sound = subst (λ (o : Outcome). Sound o.ledger) e known;
        });
      }
