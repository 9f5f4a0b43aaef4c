-- A sound ledger's own snapshot: it fits its bytes, it is balanced, and restoring one that was taken with no live booking gives back the
-- same accounts, next id and version. Each row is the account of a place, so what soundness says of every place is said of every row; then every
-- check passes, and rows put back in name order are the places again.
use mathlib.Core.Path.{◌≡◌, refl, sym, ◌∙◌, ap, subst}
use mathlib.Core.Bool.{false, cond}
use mathlib.Core.List.{List, [], ◌∷◌}
use mathlib.Core.Option.{Option, none, some}
use Prim.Native.Nat.{Ordering}
use Prim.Native.Nat.{ℕ, suc, ◌+◌, ◌≤◌}
use native.Mathlib.Omega.{arith}
use borrow.Author.Tests.{le-leb, le-ltb, eq-eqb, ne_eqb}
use lib.ListN.{length}
use Rattle.rules.specs.Lists.{first, any, sum, All, Pairwise}
use Rattle.rules.specs.RoomAndSoundLedger.{M, longest_name, Name, IsName, order, same, Account, Seat, seat, Place, place, Ledger, is_at, seat_of, seat_in, reserved_for, Before, AddsUp, Reserves, Sound}
use Rattle.rules.specs.AnswerNumbers.{done, Refusal, Outcome}
use Rattle.rules.specs.AccountRules.{put, is_too_long, next_id_is_m}
use Rattle.rules.specs.SnapshotsMigrationCertificates.{Row, has_long_name, row_of, row_at, account_rows, after_snapshot, snapshot_of, ◌gives◌else◌, and_then, row_conservation, conservation, row_validation, rows_validation, validation, restore_version, recovery_version, restored_seat, restored_places, restored, or_else, restore_refusal, restore, recovery_restore}
use Rattle.rules.specs.Domain.{RowFits, SnapshotFits}
use Rattle.rules.proofs.Tests.{by_bool, by-option}
use Rattle.rules.proofs.Lists.{any_none, all_map, all_both}
use Rattle.rules.proofs.Names.{same_true, same_false, other, lt-other}
use Rattle.rules.proofs.Places.{Over, over_first}
use Rattle.rules.proofs.Soundness.{not_last}
use Rattle.rules.proofs.SnapshotSoundness.{tagged-tag, tagged-fence}

-- ── what holds of each place's account holds of each row ───────────────────────────────────────

-- a property of a name and its account, asked only where there is one
abbrev IfAccount : (Name → Account → Type 0) → Name → Option Account → Type 0
IfAccount P a none = Unit {0}
IfAccount P a (some c) = P a c

rows_all : (P : Row → Type 0) (ps : List Place) → All (λ p. IfAccount (λ a c. P (row_of a c)) p.name p.seat.account) ps → All P (account_rows ps)
unfolding account_rows
rows_all P [] h = tt
rows_all P (p ∷ ps) (h, k) = go p.seat.account h (rows_all P ps k)
  where
    go : (c : Option Account) → IfAccount (λ a c. P (row_of a c)) p.name c → All P (account_rows ps) → All P (row_at p.name c (account_rows ps))
    go none h k = k
    go (some c) h k = (h, k)

pub rows-length : (ps : List Place) → length (account_rows ps) ≤ length ps
unfolding account_rows
rows-length [] = omega arith
rows-length (p ∷ ps) = go p.seat.account (rows-length ps)
  where
    go : (c : Option Account) → length (account_rows ps) ≤ length ps → length (row_at p.name c (account_rows ps)) ≤ suc (length ps)
    go none h = omega arith
    go (some c) h = omega arith

-- ── it fits its bytes ──────────────────────────────────────────────────────────────────────────

row_fits : (a : Name) (c : Account) → IsName a → c.remaining + c.reserved + c.committed ≡ c.initial → c.initial ≤ M → RowFits (row_of a c)
row_fits a c n e m = record {
  bytes = n.bytes;
  size = omega (arith, n.fits);
  initial = le-leb c.initial M m;
  remaining = le-leb c.remaining M (omega arith);
  reserved = le-leb c.reserved M (omega arith);
  committed = le-leb c.committed M (omega arith);
}

pub own-snapshot-fits : (L : Ledger) → Sound L → next_id_is_m L ≡ false → SnapshotFits (snapshot_of L)
own-snapshot-fits L s e = record {
  version = unfold M in omega (arith, not_last L.next_id M e s.next_id.1);
  active = omega (arith, s.reservations_fit, s.reservations_in_range.1);
  count = omega (arith, rows-length L.places, s.names_fit, s.names_in_range.1);
  rows = rows_all RowFits L.places (all_both (λ p. IsName p.name) (λ p. AddsUp p.seat.account) _ (λ p n h. go p.name n p.seat.account h) L.places s.are_names s.accounts_add_up);
}
  where
    go : (a : Name) → IsName a → (c : Option Account) → AddsUp c → IfAccount (λ a c. RowFits (row_of a c)) a c
    go a n none h = tt
    go a n (some c) (h, k) = row_fits a c n h k

pub own-names-short : (ps : List Place) → All (λ p. IsName p.name) ps → has_long_name (account_rows ps) ≡ false
unfolding has_long_name
own-names-short ps h = any_none _ (account_rows ps) (rows_all (λ r. is_too_long r.name ≡ false) ps (all_map (λ p. IsName p.name) _ (λ p n. go p.name n p.seat.account) ps h))
  where
    go : (a : Name) → IsName a → (c : Option Account) → IfAccount (λ a c. is_too_long a ≡ false) a c
    go a n none = tt
    go a n (some c) = le-ltb longest_name (length a) n.fits

-- ── it is balanced ─────────────────────────────────────────────────────────────────────────────

own-row-balanced : (a : Name) (c : Account) → c.remaining + c.reserved + c.committed ≡ c.initial → c.initial ≤ M → row_conservation (row_of a c) ≡ none
unfolding row_conservation ◌gives◌else◌
own-row-balanced a c e m =
    rw (le-leb (c.remaining + c.reserved + c.committed) M (omega arith), eq-eqb (c.remaining + c.reserved + c.committed) c.initial e, le-ltb c.remaining 0 (omega arith))

rows-balanced : (rs : List Row) → All (λ r. row_conservation r ≡ none) rs → conservation rs ≡ none
unfolding conservation and_then
rows-balanced [] h = refl
rows-balanced (r ∷ rs) (h, k) = rw h (rows-balanced rs k)

-- so it is balanced
pub own-snapshot-balanced : (L : Ledger) → Sound L → conservation (snapshot_of L).rows ≡ none
own-snapshot-balanced L s = rows-balanced (account_rows L.places) (rows_all (λ r. row_conservation r ≡ none) L.places (all_map (λ p. AddsUp p.seat.account) _ (λ p h. go p.name p.seat.account h) L.places s.accounts_add_up))
  where
    go : (a : Name) (c : Option Account) → AddsUp c → IfAccount (λ a c. row_conservation (row_of a c) ≡ none) a c
    go a none h = tt
    go a (some c) (h, k) = own-row-balanced a c h k

-- ── it is valid where nothing is booked ────────────────────────────────────────────────────────

-- every name seen so far comes before every place to come
abbrev SeenBefore : List Place → Name → Type 0
SeenBefore ps a = All (Over a) ps

not_seen : (a : Name) (seen : List Name) → All (λ b. order b a ≡ Ordering.lt) seen → any (same a) seen ≡ false
not_seen a seen h = any_none (same a) seen (all_map (λ b. order b a ≡ Ordering.lt) (λ b. same a b ≡ false) (λ b e. other a b (λ q. same_false b a (lt-other b a e) (sym q))) seen h)

own-row-valid : (seen : List Name) (a : Name) (c : Account) → any (same a) seen ≡ false → c.reserved ≡ 0 → row_validation seen (row_of a c) ≡ none
unfolding row_validation ◌gives◌else◌
own-row-valid seen a c n z =
    rw (n, eq-eqb c.reserved 0 z, le-ltb c.remaining 0 (omega arith), le-ltb c.initial 0 (omega arith), le-ltb c.committed 0 (omega arith))

own-rows-valid : (seen : List Name) (ps : List Place) → Pairwise Before ps → All (SeenBefore ps) seen → All (λ p. Reserves 0 p.seat.account) ps → rows_validation seen (account_rows ps) ≡ none
unfolding rows_validation account_rows and_then
own-rows-valid seen [] ascend before h = refl
own-rows-valid seen (p ∷ ps) (over, ascend) before (h, k) = go p.seat.account h
    (own-rows-valid seen ps ascend (all_map (SeenBefore (p ∷ ps)) (SeenBefore ps) (λ b f. f.1) seen before) k)
    (own-rows-valid (p.name ∷ seen) ps ascend (over, all_map (SeenBefore (p ∷ ps)) (SeenBefore ps) (λ b f. f.1) seen before) k)
  where
    go : (c : Option Account) → Reserves 0 c → rows_validation seen (account_rows ps) ≡ none → rows_validation (p.name ∷ seen) (account_rows ps) ≡ none → rows_validation seen (row_at p.name c (account_rows ps)) ≡ none
    go none h skip next = skip
    go (some c) h skip next = rw (own-row-valid seen p.name c (not_seen p.name seen (all_map (SeenBefore (p ∷ ps)) (λ b. order b p.name ≡ Ordering.lt) (λ b f. f.0) seen before)) h) next

-- ── restored, it gives back the accounts ───────────────────────────────────────────────────────

-- the places of the accounts, without their limits
abbrev account_place : Name → Option Account → List Place → List Place
account_place a none ps = ps
account_place a (some c) ps = place a (seat (some c) 0) ∷ ps

unfoldable pub account_places : List Place → List Place
account_places [] = []
account_places (p ∷ ps) = account_place p.name p.seat.account (account_places ps)

-- a name that comes before all others is put in front
put_front : (a : Name) (s : Seat) (ps : List Place) → All (Over a) ps → put a s ps ≡ place a s ∷ ps
unfolding put
put_front a s [] h = refl
put_front a s (p ∷ ps) (h, k) = rw h

accounts-over : (a : Name) (ps : List Place) → All (Over a) ps → All (Over a) (account_places ps)
unfolding account_places
accounts-over a [] h = tt
accounts-over a (p ∷ ps) (h, k) = by-option (λ c. All (Over a) (account_place p.name c (account_places ps))) p.seat.account (λ _. accounts-over a ps k) (λ c _. (h, accounts-over a ps k))

restored-own : (ps : List Place) → Pairwise Before ps → All (λ p. Reserves 0 p.seat.account) ps → restored_places (account_rows ps) ≡ account_places ps
unfolding restored_places account_rows account_places
restored-own [] ascend h = refl
restored-own (p ∷ ps) (over, ascend) (h, k) = go p.seat.account h (restored-own ps ascend k)
  where
    with_reserved : Account → ℕ → List Place
    with_reserved c v = place p.name (seat (some (record { initial = c.initial; remaining = c.remaining; reserved = v; committed = c.committed })) 0) ∷ account_places ps

    go : (c : Option Account) → Reserves 0 c → restored_places (account_rows ps) ≡ account_places ps → restored_places (row_at p.name c (account_rows ps)) ≡ account_place p.name c (account_places ps)
    go none h e = e
    go (some c) h e = rw (e, put_front p.name (restored_seat (row_of p.name c)) (account_places ps) (accounts-over p.name ps over)) (ap (with_reserved c) (sym h))

-- every name's account is the one it had
accounts-kept : (a : Name) (ps : List Place) → Pairwise Before ps → seat_in a (account_places ps) ≡ seat (seat_in a ps).account 0
unfolding seat_in first account_places
accounts-kept a [] ascend = refl
accounts-kept a (p ∷ ps) (over, ascend) = by_bool (λ b. is_at a p ≡ b → seat_in a (account_place p.name p.seat.account (account_places ps)) ≡ seat (seat_of (cond b (some p) (first (is_at a) ps))).account 0) (is_at a p)
    (λ _ e. let gone : first (is_at a) ps ≡ none = over_first a ps (subst (λ n. All (Over n) ps) (sym (same_true a p.name e)) over) in
    by-option (λ c. seat_in a (account_place p.name c (account_places ps)) ≡ seat c 0) p.seat.account
    (λ _. accounts-kept a ps ascend ∙ ap (λ o. seat (seat_of o).account 0) gone) (λ c _. rw e))
    (λ _ e. by-option (λ c. seat_in a (account_place p.name c (account_places ps)) ≡ seat (seat_in a ps).account 0) p.seat.account
    (λ _. accounts-kept a ps ascend) (λ c _. rw e (accounts-kept a ps ascend))) refl

-- what a restore of the snapshot of L comes to
pub record GivesBack (L : Ledger) (o : Outcome) : Type 0 where
  pub is_done : o.reply ≡ done []
  pub places : o.ledger.places ≡ account_places L.places
  pub accounts : (a : Name) → (seat_in a o.ledger.places).account ≡ (seat_in a L.places).account
  pub bookings : o.ledger.bookings ≡ []
  pub next_id : o.ledger.next_id ≡ (after_snapshot L).next_id
  pub last_version : o.ledger.last_version ≡ (after_snapshot L).last_version

module _ (L : Ledger) (sound : Sound L) (idle : L.bookings ≡ []) (more : next_id_is_m L ≡ false) where
  nothing-reserved : All (λ p. Reserves 0 p.seat.account) L.places
  unfolding reserved_for sum
  nothing-reserved = subst (λ bs. All (λ p. Reserves (reserved_for p.name bs) p.seat.account) L.places) idle sound.reserved_is_sum

  own-valid : validation (snapshot_of L) ≡ none
  unfolding validation ◌gives◌else◌ and_then
  own-valid = rw (idle, own-rows-valid [] L.places sound.names_ascend tt nothing-reserved) (own-snapshot-balanced L sound)

  fence-small : suc L.next_id ≤ M
  fence-small = not_last L.next_id M more sound.next_id.1

  own-version : restore_version (snapshot_of L).version ≡ none
  unfolding restore_version ◌gives◌else◌
  own-version = rw (tagged-tag (suc L.next_id) fence-small, tagged-fence (suc L.next_id) fence-small, ne_eqb (suc L.next_id) 0 (omega arith))

  own-recovery-version : recovery_version (snapshot_of L).version ≡ none
  unfolding recovery_version ◌gives◌else◌
  own-recovery-version = rw (tagged-tag (suc L.next_id) fence-small, tagged-fence (suc L.next_id) fence-small, ne_eqb (suc L.next_id) 0 (omega arith))

  module _ (K : Ledger) (room : length (account_rows L.places) ≤ K.T) where
    own-not-refused : (of_version : Option Refusal) → of_version ≡ none → restore_refusal of_version K.T (snapshot_of L) ≡ none
    unfolding restore_refusal ◌gives◌else◌ and_then
    own-not-refused of_version e = rw (own-names-short L.places sound.are_names, e, own-valid, le-ltb K.T (length (account_rows L.places)) room)

    given_back : (of_version : Option Refusal) → of_version ≡ none → GivesBack L (or_else (restore_refusal of_version K.T (snapshot_of L)) K (restored K (snapshot_of L)))
    unfolding or_else
    given_back of_version e = rw (own-not-refused of_version e) (record {
      is_done = refl;
      places = restored-own L.places sound.names_ascend nothing-reserved;
      accounts = λ a. rw (restored-own L.places sound.names_ascend nothing-reserved, accounts-kept a L.places sound.names_ascend);
      bookings = refl;
      next_id = tagged-fence (suc L.next_id) fence-small;
      last_version = refl;
    })

    -- by either form of restore, into any ledger that has room for the accounts
    pub restore-gives-back : GivesBack L (restore K (snapshot_of L))
    unfolding restore
    restore-gives-back = given_back _ own-version

    pub recovery-gives-back : GivesBack L (recovery_restore K (snapshot_of L))
    unfolding recovery_restore
    recovery-gives-back = given_back _ own-recovery-version
