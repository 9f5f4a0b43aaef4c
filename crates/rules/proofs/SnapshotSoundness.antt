-- Snapshots, certificates, conservation proofs and restores keep a sound ledger sound; so does every operation, and every line of characters. What
-- takes a snapshot moves only the head; a restore's rows pass the checks (Checks), so each of them is a sound account with nothing reserved.
use mathlib.Core.Path.{◌≡◌, refl, ◌∙◌, ap, subst}
use mathlib.Core.Logic.{inl, inr, ◌≢◌}
use mathlib.Core.Bool.{Bool, true, false, ◌&&◌}
use mathlib.Core.List.{List, [], ◌∷◌}
use mathlib.Core.Option.{Option, none, some}
use Prim.Native.Nat.{ℕ, suc, ◌+◌, ◌/◌, ◌^◌, ◌≤◌}
use native.Mathlib.Omega.{arith}
use borrow.Author.Tests.{leb-true, ltb-false, eqb-false, eq-eqb}
use lib.Dec.{ltb}
use lib.IntN.{pos}
use lib.ListN.{length}
use Rattle.rules.specs.Lists.{sum, All, Pairwise}
use Rattle.rules.specs.RoomAndSoundLedger.{M, longest_name, most_names, most_reservations, IsName, Account, Place, place, is_vacant, Ledger, holds_place, reserved_for, committed_of, committed_total, InRange, Before, has_tag, fence_of, Sound, fresh}
use Rattle.rules.specs.AnswerNumbers.{Refusal, Outcome, Lent, sound, unsound, LentSound, on_lent}
use Rattle.rules.specs.AccountRules.{natural, is_too_long, next_id_is_m}
use Rattle.rules.specs.SnapshotsMigrationCertificates.{Row, Snapshot, row_at, account_rows, tagged, after_snapshot, snapshot_of, taking_snapshot, too_short_for, snapshot, fits64, restore_version, recovery_version, restored_seat, restored_places, restored, or_else, restore_refusal, restore, recovery_restore, exact_total, initial_total, committed_rows_total, totals_fit, certificate_of_ledger, conservation_proof}
use Rattle.rules.specs.Frames.{Operation, on_account, take_snapshot, certify_ledger, prove_conservation, restore_from, recover_from, judge, migrate_to, certify, longest_snapshot, answer}
use Rattle.rules.specs.Domain.{RowFits, SnapshotFits, OperationFits}
use Rattle.rules.proofs.Tests.{by-test, by-option, and-true}
use Rattle.rules.proofs.Lists.{all_map, all_both}
use Rattle.rules.proofs.Places.{seat_in-all, all-put, ascend-put, more, length-put}
use Rattle.rules.proofs.SoundByName.{AccountSound, AccountsSound, PlacesSound, SoundByName, by_name, by_place}
use Rattle.rules.proofs.Soundness.{not_last, bookings-after-draw, operate-sound}
use Rattle.rules.proofs.Checks.{Restorable, VersionPasses, restore-version-passes, recovery-version-passes, RestorePasses, restore-passes}

-- ── a version and its fence ────────────────────────────────────────────────────────────────────

-- the tag and the fence of a version made of both
pub tagged-tag : (n : ℕ) → n ≤ M → has_tag (tagged n) ≡ true
unfolding M
tagged-tag n h = eq-eqb ((2 ^ 63 + n) / 2 ^ 63) 1 (omega arith)

pub tagged-fence : (n : ℕ) → n ≤ M → fence_of (tagged n) ≡ n
unfolding M
tagged-fence n h = omega arith

-- ── snapshot, certificate, proof ───────────────────────────────────────────────────────────────

-- the committed total of the rows is that of the places
pub committed-rows-total : (ps : List Place) → committed_rows_total (account_rows ps) ≡ pos (committed_total ps)
unfolding account_rows committed_total sum exact_total
committed-rows-total [] = refl
committed-rows-total (p ∷ ps) = go p.seat.account (committed-rows-total ps)
  where
    go : (c : Option Account) → committed_rows_total (account_rows ps) ≡ pos (committed_total ps) → committed_rows_total (row_at p.name c (account_rows ps)) ≡ pos (committed_of c + committed_total ps)
    go none e = e ∙ ap pos (omega arith)
    go (some c) e = rw e

module _ (L : Ledger) (known : SoundByName L) where
  after-snapshot-sound : next_id_is_m L ≡ false → SoundByName (after_snapshot L)
  after-snapshot-sound e =
      let below = not_last L.next_id M e known.next_id.1 in
      record {
        names_in_range = known.names_in_range;
        reservations_in_range = known.reservations_in_range;
        places = known.places;
        bookings = bookings-after-draw L.R L.next_id L.bookings known.bookings;
        accounts = known.accounts;
        next_id = (omega arith, below);
        last_version = inr (tagged-tag (suc L.next_id) below, rw (tagged-fence (suc L.next_id) below) (omega arith));
        baseline = known.baseline;
      }

  taking-sound : (o : Outcome) → (next_id_is_m L ≡ false → SoundByName o.ledger) → SoundByName (taking_snapshot L o).ledger
  unfolding taking_snapshot
  taking-sound o h = by-test (λ (o : Outcome). SoundByName o.ledger) (next_id_is_m L) (λ _. known) h

  snapshot-sound : (output : ℕ) → SoundByName (snapshot output L).ledger
  unfolding snapshot
  snapshot-sound output = taking-sound _ (λ e. by-test (λ (o : Outcome). SoundByName o.ledger) (too_short_for output (snapshot_of L)) (λ _. known) (λ _. after-snapshot-sound e))

  proof-sound : SoundByName (conservation_proof L).ledger
  unfolding conservation_proof
  proof-sound = taking-sound _ (λ e. by-test (λ (o : Outcome). SoundByName o.ledger) (totals_fit (snapshot_of L).rows) (λ _. after-snapshot-sound e) (λ _. after-snapshot-sound e))

  -- totals that fit are at most M, and so is a baseline that moves to the committed total
  pub total-fits : (b : Bool) → totals_fit (account_rows L.places) && b ≡ true → committed_total L.places ≤ M
  total-fits b e =
      let both = (and-true (totals_fit (account_rows L.places)) b e).0 in
      let committed = (and-true (fits64 (initial_total (account_rows L.places))) (fits64 (committed_rows_total (account_rows L.places))) both).1 in
      leb-true (committed_total L.places) M (subst (λ z. fits64 z ≡ true) (committed-rows-total L.places) committed)

  certificate-sound : SoundByName (certificate_of_ledger L).ledger
  unfolding certificate_of_ledger
  certificate-sound = taking-sound _ (λ e. by-test (λ (o : Outcome). SoundByName o.ledger) (totals_fit (snapshot_of L).rows && ltb L.baseline (committed_total L.places))
      (λ f. let s = after-snapshot-sound e in record {
        names_in_range = s.names_in_range;
        reservations_in_range = s.reservations_in_range;
        places = s.places;
        bookings = s.bookings;
        accounts = s.accounts;
        next_id = s.next_id;
        last_version = s.last_version;
        baseline = (total-fits _ f, omega arith);
      })
      (λ _. after-snapshot-sound e))

-- ── restore ────────────────────────────────────────────────────────────────────────────────────

-- what holds of each row as a place holds of the places
pub restored-all : (P : Place → Type 0) (rs : List Row) → All (λ r. P (place r.name (restored_seat r))) rs → All P (restored_places rs)
unfolding restored_places
restored-all P [] h = tt
restored-all P (r ∷ rs) (h, k) = all-put P r.name (restored_seat r) (restored_places rs) h (restored-all P rs k)

pub restored-ascend : (rs : List Row) → Pairwise Before (restored_places rs)
unfolding restored_places
restored-ascend [] = tt
restored-ascend (r ∷ rs) = ascend-put r.name (restored_seat r) (restored_places rs) (restored-ascend rs)

pub restored-held : (rs : List Row) → All (λ p. is_vacant p.seat ≡ false) (restored_places rs)
unfolding restored_places
restored-held [] = tt
restored-held (r ∷ rs) = all-put (λ p. is_vacant p.seat ≡ false) r.name (restored_seat r) (restored_places rs) refl (restored-held rs)

at_most_one : (b : Bool) → more b ≤ 1
at_most_one true = omega arith
at_most_one false = omega arith

pub restored-length : (rs : List Row) → length (restored_places rs) ≤ length rs
unfolding restored_places
restored-length [] = omega arith
restored-length (r ∷ rs) = omega (arith, restored-length rs, length-put r.name (restored_seat r) (restored_places rs) (restored-ascend rs), at_most_one (holds_place r.name (restored_places rs)))

-- an account from a row that can be restored is sound with nothing reserved
pub restored-account : (r : Row) → RowFits r → Restorable r → AccountSound 0 (restored_seat r).account
restored-account r f h = (omega (arith, h.adds_up), leb-true (natural r.initial) M (subst (λ z. fits64 z ≡ true) h.initial f.initial), refl)

restored-name : (r : Row) → RowFits r → is_too_long r.name ≡ false → IsName r.name
restored-name r f e = record { fits = ltb-false longest_name (length r.name) e; bytes = f.bytes }

fence-in-range : (v : ℕ) → VersionPasses v → InRange 1 M (fence_of v)
unfolding M
fence-in-range v h = let n : fence_of v ≢ 0 = eqb-false (fence_of v) 0 h.fence in (omega arith, omega arith)

-- rows that fit and pass the checks are the places of a sound ledger that has room for them
pub restored-places-sound : (t : ℕ) (rs : List Row) → All RowFits rs → All (λ r. is_too_long r.name ≡ false) rs → length rs ≤ t → PlacesSound t (restored_places rs)
restored-places-sound t rs fits short few = record {
  fit = omega (arith, restored-length rs);
  are_names = restored-all (λ p. IsName p.name) rs (all_both RowFits (λ r. is_too_long r.name ≡ false) (λ r. IsName r.name) restored-name rs fits short);
  ascend = restored-ascend rs;
  limits = restored-all (λ p. p.seat.limit ≤ M) rs (all_map RowFits (λ r. 0 ≤ M) (λ r _. omega arith) rs fits);
  held = restored-held rs;
}

pub restored-accounts-sound : (rs : List Row) → All RowFits rs → All Restorable rs → AccountsSound (restored_places rs) []
unfolding reserved_for sum
restored-accounts-sound rs fits pass = seat_in-all (λ t. AccountSound 0 t.account) (restored_places rs) refl
    (restored-all (λ p. AccountSound 0 p.seat.account) rs (all_both RowFits Restorable (λ r. AccountSound 0 (restored_seat r).account) restored-account rs fits pass))

module _ (L : Ledger) (known : SoundByName L) (s : Snapshot) (fits : SnapshotFits s) where
  restored-sound : (of_version : Option Refusal) → VersionPasses s.version → RestorePasses of_version L.T s → SoundByName (restored L s)
  restored-sound of_version version passed =
      let rs = s.rows in
      record {
        names_in_range = known.names_in_range;
        reservations_in_range = known.reservations_in_range;
        places = restored-places-sound L.T rs fits.rows passed.short_names passed.fit;
        bookings = record { fit = omega arith; ascend = tt; in_range = tt; positive = tt };
        accounts = restored-accounts-sound rs fits.rows passed.rows;
        next_id = fence-in-range s.version version;
        last_version = inr (version.tag, eqb-false (fence_of s.version) 0 version.fence);
        baseline = (omega arith, omega arith);
      }

  restore-by-sound : (of_version : Option Refusal) → (of_version ≡ none → VersionPasses s.version) → SoundByName (or_else (restore_refusal of_version L.T s) L (restored L s)).ledger
  unfolding or_else
  restore-by-sound of_version version = by-option (λ o. restore_refusal of_version L.T s ≡ o → SoundByName (or_else o L (restored L s)).ledger) (restore_refusal of_version L.T s)
      (λ _ e. let passed = restore-passes of_version L.T s e in restored-sound of_version (version passed.version) passed) (λ x _ e. known) refl

-- ── every operation ────────────────────────────────────────────────────────────────────────────

answer_keeps : (L : Ledger) → Sound L → (x : Operation) → OperationFits x → LentSound (answer (sound L) x).lent
unfolding answer on_lent restore recovery_restore
answer_keeps L known (on_account x) f = operate-sound L known x f
answer_keeps L known take_snapshot f = by_place _ (snapshot-sound L (by_name L known) longest_snapshot)
answer_keeps L known certify_ledger f = by_place _ (certificate-sound L (by_name L known))
answer_keeps L known prove_conservation f = by_place _ (proof-sound L (by_name L known))
answer_keeps L known (restore_from s) f = by_place _ (restore-by-sound L (by_name L known) s f (restore_version s.version) (restore-version-passes s.version))
answer_keeps L known (recover_from s) f = by_place _ (restore-by-sound L (by_name L known) s f (recovery_version s.version) (recovery-version-passes s.version))
answer_keeps L known (judge s) f = known
answer_keeps L known (migrate_to fence s) f = known
answer_keeps L known (certify since s) f = known

-- whatever is asked
pub answer-sound : (l : Lent) → LentSound l → (x : Operation) → OperationFits x → LentSound (answer l x).lent
answer-sound (sound L) known x f = answer_keeps L known x f
answer-sound unsound known x f = absurd known

-- a fresh ledger is sound where T and R are in range
pub fresh-sound : (t r : ℕ) → InRange 1 most_names t → InRange 1 most_reservations r → Sound (fresh t r)
unfolding fresh M committed_total sum
fresh-sound t r names reservations = record {
  names_in_range = names;
  reservations_in_range = reservations;
  names_fit = omega arith;
  reservations_fit = omega arith;
  are_names = tt;
  names_ascend = tt;
  accounts_add_up = tt;
  limits = tt;
  places_held = tt;
  ids_ascend = tt;
  ids_in_range = tt;
  amounts_positive = tt;
  accounts_exist = tt;
  reserved_is_sum = tt;
  next_id = (omega arith, omega arith);
  last_version = inl refl;
  baseline_in_range = (omega arith, omega arith);
}
