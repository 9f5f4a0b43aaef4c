-- By what an answer on a lent ledger comes about, whatever the ledger: done, a row of the table before 23 that is not marked, or one of the two marked
-- rows with just what it moves. Rule by rule for what may be decided, move by move for what becomes of it, and check by check for a supplied snapshot.
use mathlib.Core.Path.{◌≡◌, refl, ap}
use mathlib.Core.Logic.{◌≢◌}
use mathlib.Core.Bool.{Bool, true, false, not, ◌&&◌}
use mathlib.Core.List.{List, [], ◌∷◌}
use mathlib.Core.Option.{Option, none, some}
use Prim.Native.Nat.{ℕ, zero, suc, ◌+◌, ◌<◌}
use native.Mathlib.Omega.{arith}
use borrow.Author.Tests.{ltb-true, eqb-false, not-true}
use lib.Dec.{ltb, eqb}
use lib.IntN.{ℤ, pos, negsuc, ◌-ℤ◌}
use lib.Signed.{lt_z}
use lib.ListN.{length}
use Rattle.rules.specs.RoomAndSoundLedger.{M, Name, Account, Booking, Ledger, committed_total}
use Rattle.rules.specs.AnswerNumbers.{Reply, Refusal, Insufficient, MissingReservation, AllocatorExhausted, AggregateOverflow, NameTooLong, NamesFull, ReservationsFull, OutputTooShort, reply_of, Outcome, sound, Answered, answered, on_lent}
use Rattle.rules.specs.AccountRules.{Move, refuse, tell, write, lose, book, Settlement, leave, end, ensure_rule, top_up_rule, limit_rule, reserve_rule, commit_rule, release_rule, read_rule, read_reserved_rule, has_room, booked, drawn, perform, settle, AccountOperation, ensure, top_up, limit, reserve, commit, release, read_remaining, read_initial, read_committed, read_reserved, is_too_long, named, on_name, on_booking, next_id_is_m, operate}
use Rattle.rules.specs.SnapshotsMigrationCertificates.{Row, Snapshot, after_snapshot, snapshot_of, taking_snapshot, too_short_for, snapshot, ◌gives◌else◌, and_then, row_conservation, conservation, row_validation, rows_validation, validation, restore_version, recovery_version, or_else, restore_refusal, restore, recovery_restore, reply_or, migrate, status, totals_fit, certificate, certificate_of_snapshot, certificate_of_ledger, conservation_proof}
use Rattle.rules.specs.Frames.{Operation, on_account, take_snapshot, certify_ledger, prove_conservation, restore_from, recover_from, judge, migrate_to, certify, answer}
use Rattle.rules.specs.Refusals.{Marked, with-cost, from-proof, takes_ledger}
use Rattle.rules.proofs.Tests.{by-test, and-true, true-false}

-- a row that the checks of a snapshot may give: none of 6, 23 and 24
abbrev is_checked : Refusal → Bool
is_checked e = ltb (reply_of e).number 23 && not (eqb (reply_of e).number 6)

-- a row that is not marked, from whatever operation
abbrev is_plain : Refusal → Bool
is_plain e = is_checked e && not (eqb (reply_of e).number 15)

-- refused with a row before 23 that is not marked
pub record Plain (x : Operation) (e : Refusal) : Type 0 where
  pub before_23 : (reply_of e).number < 23
  pub unmarked : ¬ Marked x (reply_of e).number

-- a reserve with a cost above 0
abbrev pub Costs : Operation → Type 0
Costs x = (a : Name) × (cost : ℕ) × (x ≡ on_account (reserve a (pos (suc cost))))

checked-number : (e : Refusal) → is_checked e ≡ true → ((reply_of e).number < 23) × ((reply_of e).number ≢ 6)
checked-number e h = let (below, other) = and-true _ _ h in (ltb-true _ 23 below, eqb-false _ 6 (not-true _ other))

plain : (x : Operation) (e : Refusal) → is_plain e ≡ true → Plain x e
plain x e h =
    let (checked, other) = and-true _ _ h in
    let (below, six) = checked-number e checked in
    let fifteen : (reply_of e).number ≢ 15 = eqb-false _ 15 (not-true _ other) in
    record { before_23 = below; unmarked = go six fifteen }
  where
    go : (reply_of e).number ≢ 6 → (reply_of e).number ≢ 15 → ¬ Marked x (reply_of e).number
    go six fifteen (with-cost a cost e q) = six q
    go six fifteen (from-proof e q) = fifteen q

checked-plain : (x : Operation) (e : Refusal) → x ≢ prove_conservation → is_checked e ≡ true → Plain x e
checked-plain x e other h = let (below, six) = checked-number e h in record { before_23 = below; unmarked = go six }
  where
    go : (reply_of e).number ≢ 6 → ¬ Marked x (reply_of e).number
    go six (with-cost a cost e q) = six q
    go six (from-proof e q) = other e

-- by what an answer came about, on whatever ledger
pub data Decided (L : Ledger) (x : Operation) (r : Answered) : Type 0 where
  accepted : r.reply.number ≡ 0 → Decided L x r
  refused-plainly : (e : Refusal) → Plain x e → r.reply ≡ reply_of e → r.lent ≡ sound L → Decided L x r
  lost-an-id : (e : Refusal) → Costs x → (reply_of e).number ≡ 6 → r.reply ≡ reply_of e → r.lent ≡ sound (drawn L) → Decided L x r
  proof-overflowed : x ≡ prove_conservation → r.reply ≡ reply_of AggregateOverflow → r.lent ≡ sound (after_snapshot L) → Decided L x r

abbrev as_answered : Outcome → Answered
as_answered o = answered o.reply (sound o.ledger)

-- ── what each rule decides ─────────────────────────────────────────────────────────────────────

-- what a rule may decide: a refusal that is not marked, or the loss of an id by a reserve with a cost above 0
abbrev Keeps : Operation → Move → Type 0
Keeps x (refuse e) = Plain x e
Keeps x (tell zs) = Unit {0}
Keeps x (write zs s) = Unit {0}
Keeps x (lose e) = Costs x × ((reply_of e).number ≡ 6)
Keeps x (book remaining s cost) = Unit {0}

abbrev Leaves : Operation → Settlement → Type 0
Leaves x (leave e) = Plain x e
Leaves x (end zs s) = Unit {0}

module _ (x : Operation) where
  ensure-keeps : (z : ℤ) (c : Option Account) (l : ℕ) → Keeps x (ensure_rule z c l)
  unfolding ensure_rule
  ensure-keeps (negsuc n) c l = plain x _ refl
  ensure-keeps (pos n) none l = tt
  ensure-keeps (pos n) (some c) l = tt

  top-up-keeps : (z : ℤ) (c : Option Account) (l : ℕ) → Keeps x (top_up_rule z c l)
  unfolding top_up_rule
  top-up-keeps (negsuc n) c l = plain x _ refl
  top-up-keeps (pos zero) c l = plain x _ refl
  top-up-keeps (pos (suc n)) none l = plain x _ refl
  top-up-keeps (pos (suc n)) (some c) l = by-test (Keeps x) (ltb M (c.initial + suc n)) (λ _. plain x _ refl) (λ _. tt)

  limit-keeps : (z : ℤ) (c : Option Account) (l : ℕ) → Keeps x (limit_rule z c l)
  unfolding limit_rule
  limit-keeps (negsuc n) c l = plain x _ refl
  limit-keeps (pos n) c l = tt

  read_keeps : (of : Account → ℕ) (c : Option Account) (l : ℕ) → Keeps x (read_rule of c l)
  unfolding read_rule
  read_keeps of none l = plain x _ refl
  read_keeps of (some c) l = tt

  read-reserved-keeps : (c : Option Account) (l : ℕ) → Keeps x (read_reserved_rule c l)
  unfolding read_reserved_rule
  read-reserved-keeps none l = tt
  read-reserved-keeps (some c) l = tt

  commit-leaves : (z : ℤ) (live : Option ℕ) (c : Option Account) (l : ℕ) → Leaves x (commit_rule z live c l)
  unfolding commit_rule
  commit-leaves (negsuc n) live c l = plain x _ refl
  commit-leaves (pos actual) none c l = plain x _ refl
  commit-leaves (pos actual) (some reserved) none l = plain x _ refl
  commit-leaves (pos actual) (some reserved) (some c) l = by-test (Leaves x) (ltb M (c.committed + actual)) (λ _. plain x _ refl) (λ _. by-test (Leaves x) (lt_z (pos c.remaining) (pos actual -ℤ pos reserved)) (λ _. plain x _ refl) (λ _. tt))

  release-leaves : (live : Option ℕ) (c : Option Account) (l : ℕ) → Leaves x (release_rule live c l)
  unfolding release_rule
  release-leaves none c l = plain x _ refl
  release-leaves (some reserved) none l = plain x _ refl
  release-leaves (some reserved) (some c) l = tt

-- 6 to a cost of 0 or less is not marked
free-six : (a : Name) (z : ℤ) → ((cost : ℕ) → z ≢ pos (suc cost)) → Plain (on_account (reserve a z)) (Insufficient (pos 0) z)
free-six a z free = record { before_23 = omega arith; unmarked = go }
  where
    go : ¬ Marked (on_account (reserve a z)) 6
    go (with-cost b cost e q) = free cost cc
    go (from-proof e q) = absurd (omega arith)

reserve-keeps : (a : Name) (z : ℤ) (last : Bool) (c : Option Account) (l : ℕ) → Keeps (on_account (reserve a z)) (reserve_rule z last c l)
unfolding reserve_rule
reserve-keeps a (negsuc n) last c l = free-six a (negsuc n) (λ cost e. absurd (let z : ◌≡◌ {A = ℕ} 0 1 = cc in omega arith))
reserve-keeps a (pos zero) last c l = free-six a (pos zero) (λ cost e. absurd (let z : ◌≡◌ {A = ℕ} 0 (suc cost) = cc in omega arith))
reserve-keeps a (pos (suc n)) last none l = plain _ _ refl
reserve-keeps a (pos (suc n)) last (some c) l =
    by-test (Keeps x) (ltb M (c.reserved + suc n)) (λ _. plain x _ refl)
    (λ _. by-test (Keeps x) (ltb 0 l && ltb l (c.reserved + suc n)) (λ _. plain x _ refl)
    (λ _. by-test (Keeps x) last (λ _. plain x _ refl) (λ _. by-test (Keeps x) (ltb c.remaining (suc n)) (λ _. ((a, n, refl), refl)) (λ _. tt))))
  where
    x : Operation
    x = on_account (reserve a (pos (suc n)))

-- ── what the checks of a snapshot give ─────────────────────────────────────────────────────────

abbrev Gives : Option Refusal → Type 0
Gives none = Unit {0}
Gives (some e) = is_checked e ≡ true

check-gives : (fails : Bool) (e : Refusal) (later : Option Refusal) → is_checked e ≡ true → Gives later → Gives (fails gives e else later)
unfolding ◌gives◌else◌
check-gives true e later h k = h
check-gives false e later h k = k

then-gives : (earlier later : Option Refusal) → Gives earlier → Gives later → Gives (and_then earlier later)
unfolding and_then
then-gives none later h k = k
then-gives (some e) later h k = h

row-conservation-gives : (r : Row) → Gives (row_conservation r)
unfolding row_conservation
row-conservation-gives r = check-gives _ _ _ refl (check-gives _ _ _ refl (check-gives _ _ _ refl (check-gives _ _ _ refl tt)))

conservation-gives : (rs : List Row) → Gives (conservation rs)
unfolding conservation
conservation-gives [] = tt
conservation-gives (r ∷ rs) = then-gives _ _ (row-conservation-gives r) (conservation-gives rs)

row-validation-gives : (seen : List Name) (r : Row) → Gives (row_validation seen r)
unfolding row_validation
row-validation-gives seen r = check-gives _ _ _ refl (check-gives _ _ _ refl (check-gives _ _ _ refl (check-gives _ _ _ refl (check-gives _ _ _ refl tt))))

rows-validation-gives : (seen : List Name) (rs : List Row) → Gives (rows_validation seen rs)
unfolding rows_validation
rows-validation-gives seen [] = tt
rows-validation-gives seen (r ∷ rs) = then-gives _ _ (row-validation-gives seen r) (rows-validation-gives (r.name ∷ seen) rs)

validation-gives : (s : Snapshot) → Gives (validation s)
unfolding validation
validation-gives s = check-gives _ _ _ refl (then-gives _ _ (rows-validation-gives [] s.rows) (conservation-gives s.rows))

restore-version-gives : (v : ℕ) → Gives (restore_version v)
unfolding restore_version
restore-version-gives v = check-gives _ _ _ refl tt

recovery-version-gives : (v : ℕ) → Gives (recovery_version v)
unfolding recovery_version
recovery-version-gives v = check-gives _ _ _ refl (check-gives _ _ _ refl tt)

restore-gives : (of_version : Option Refusal) → Gives of_version → (t : ℕ) (s : Snapshot) → Gives (restore_refusal of_version t s)
unfolding restore_refusal
restore-gives of_version h t s = check-gives _ _ _ refl (then-gives _ _ h (then-gives _ _ (validation-gives s) (check-gives _ _ _ refl tt)))

-- ── what becomes of it on the ledger ───────────────────────────────────────────────────────────

module _ (L : Ledger) where
  perform-decided : (x : Operation) (a : Name) (m : Move) → Keeps x m → Decided L x (as_answered (perform L a m))
  unfolding perform
  perform-decided x a (refuse e) h = refused-plainly e h refl refl
  perform-decided x a (tell zs) h = accepted refl
  perform-decided x a (write zs s) h = by-test (λ o. Decided L x (as_answered o)) (has_room a s L) (λ _. accepted refl) (λ _. refused-plainly NamesFull (plain x NamesFull refl) refl refl)
  perform-decided x a (lose e) (costs, six) = lost-an-id e costs six refl refl
  perform-decided x a (book remaining s cost) h = by-test (λ o. Decided L x (as_answered o)) (ltb (length L.bookings) L.R) (λ _. accepted refl) (λ _. refused-plainly ReservationsFull (plain x ReservationsFull refl) refl refl)

  named-decided : (x : Operation) (a : Name) (m : Move) → Keeps x m → Decided L x (as_answered (perform L a (named a m)))
  named-decided x a m h = by-test (λ (m : Move). Decided L x (as_answered (perform L a m))) (is_too_long a) (λ _. perform-decided x a (refuse NameTooLong) (plain x NameTooLong refl)) (λ _. perform-decided x a m h)

  settle-decided : (x : Operation) (o : Option Booking) (t : Settlement) → Leaves x t → Decided L x (as_answered (settle L o t))
  unfolding settle
  settle-decided x o (leave e) h = refused-plainly e h refl refl
  settle-decided x none (end zs s) h = refused-plainly MissingReservation (plain x MissingReservation refl) refl refl
  settle-decided x (some b) (end zs s) h = accepted refl

  on-booking-decided : (x : Operation) (o : Option Booking) (rule : Option ℕ → Option Account → ℕ → Settlement) → ((live : Option ℕ) (c : Option Account) (l : ℕ) → Leaves x (rule live c l)) → Decided L x (as_answered (on_booking L o rule))
  unfolding on_booking
  on-booking-decided x none rule h = settle-decided x none _ (h _ _ _)
  on-booking-decided x (some b) rule h = settle-decided x (some b) _ (h _ _ _)

  account-decided : (x : AccountOperation ℕ) → Decided L (on_account x) (as_answered (operate L x))
  unfolding operate on_name
  account-decided (ensure a z) = named-decided _ a _ (ensure-keeps _ z _ _)
  account-decided (top_up a z) = named-decided _ a _ (top-up-keeps _ z _ _)
  account-decided (limit a z) = named-decided _ a _ (limit-keeps _ z _ _)
  account-decided (reserve a z) = named-decided _ a _ (reserve-keeps a z _ _ _)
  account-decided (commit i z) = on-booking-decided _ (booked i L.bookings) (commit_rule z) (commit-leaves _ z)
  account-decided (release i) = on-booking-decided _ (booked i L.bookings) release_rule (release-leaves _)
  account-decided (read_remaining a) = named-decided _ a _ (read_keeps _ _ _ _)
  account-decided (read_initial a) = named-decided _ a _ (read_keeps _ _ _ _)
  account-decided (read_committed a) = named-decided _ a _ (read_keeps _ _ _ _)
  account-decided (read_reserved a) = named-decided _ a _ (read-reserved-keeps _ _ _)

  -- ── snapshots and what goes with them ────────────────────────────────────────────────────────

  taking-decided : (x : Operation) (o : Outcome) → Decided L x (as_answered o) → Decided L x (as_answered (taking_snapshot L o))
  unfolding taking_snapshot
  taking-decided x o h = by-test (λ o. Decided L x (as_answered o)) (next_id_is_m L) (λ _. refused-plainly AllocatorExhausted (plain x _ refl) refl refl) (λ _. h)

  restore-decided : (x : Operation) → x ≢ prove_conservation → (o : Option Refusal) → Gives o → (after : Ledger) → Decided L x (as_answered (or_else o L after))
  unfolding or_else
  restore-decided x other none h after = accepted refl
  restore-decided x other (some e) h after = refused-plainly e (checked-plain x e other h) refl refl

  reply-decided : (x : Operation) → takes_ledger x ≡ false → (o : Option Refusal) → Gives o → (r : Reply) → r.number ≡ 0 → Decided L x (answered (reply_or o r) (sound L))
  unfolding reply_or
  reply-decided x other none h r e = accepted e
  reply-decided x other (some e) h r q = refused-plainly e (checked-plain x e (λ p. true-false (ap takes_ledger p) other) h) refl refl

  pub decided : (x : Operation) → Decided L x (answer (sound L) x)
  unfolding answer on_lent snapshot restore recovery_restore certificate_of_ledger certificate conservation_proof migrate status certificate_of_snapshot
  decided (on_account x) = account-decided x
  decided take_snapshot = taking-decided _ _ (by-test (λ o. Decided L take_snapshot (as_answered o)) (too_short_for _ (snapshot_of L)) (λ _. refused-plainly OutputTooShort (plain _ _ refl) refl refl) (λ _. accepted refl))
  decided certify_ledger = taking-decided _ _
      (by-test (λ o. Decided L certify_ledger (as_answered o)) (totals_fit (snapshot_of L).rows && ltb L.baseline (committed_total L.places)) (λ _. accepted refl) (λ _. accepted refl))
  decided prove_conservation = taking-decided _ _
      (by-test (λ o. Decided L prove_conservation (as_answered o)) (totals_fit (snapshot_of L).rows) (λ _. accepted refl) (λ _. proof-overflowed refl refl refl))
  decided (restore_from s) = restore-decided _ (λ e. absurd (let z : ◌≡◌ {A = ℕ} 0 1 = cc in omega arith)) _ (restore-gives _ (restore-version-gives s.version) _ s) _
  decided (recover_from s) = restore-decided _ (λ e. absurd (let z : ◌≡◌ {A = ℕ} 0 1 = cc in omega arith)) _ (restore-gives _ (recovery-version-gives s.version) _ s) _
  decided (judge s) = reply-decided _ refl _ (check-gives _ _ _ refl (conservation-gives s.rows)) _ refl
  decided (migrate_to fence s) = reply-decided _ refl _
      (check-gives _ _ _ refl (check-gives _ _ _ refl (check-gives _ _ _ refl (then-gives _ _ (validation-gives s) (check-gives _ _ _ refl tt))))) _ refl
  decided (certify since s) = reply-decided _ refl _ (check-gives _ _ _ refl tt) _ refl
