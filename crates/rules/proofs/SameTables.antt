-- Sound tables compared by what is found in them: places in which every name has the same seat are equal, and bookings in which every id finds
-- the same are equal. Bookings put back in id order are still found as before, so paired ledgers can be compared in the same way.
use mathlib.Core.Path.{◌≡◌, refl, sym, ◌∙◌, ap}
use mathlib.Core.Logic.{◌≢◌}
use mathlib.Core.Bool.{false, cond}
use mathlib.Core.List.{List, [], ◌∷◌}
use mathlib.Core.Option.{Option, none, some}
use Prim.Native.Nat.{Ordering}
use Prim.Native.Nat.{ℕ, ◌<◌, compare}
use native.Mathlib.Omega.{arith}
use borrow.Author.Tests.{ltb-true, ltb-false, eqb-true, eq-eqb, ne_eqb}
use lib.Dec.{ltb, eqb}
use Rattle.rules.specs.Lists.{first, All, Pairwise}
use Rattle.rules.specs.RoomAndSoundLedger.{Name, order, same, Seat, Place, place, is_vacant, Booking, is_at, seat_of, seat_in, Before}
use Rattle.rules.specs.AccountRules.{has_id, booked}
use Rattle.rules.specs.OrderBetweenAirlines.{insert_by_id, in_id_order}
use Rattle.rules.proofs.Tests.{by-test, by_bool, by-option}
use Rattle.rules.proofs.Lists.{first_passes, first-all, all_map}
use Rattle.rules.proofs.Names.{compare-lt, compare-eq, compare-gt, lt-compare, compare_self, order-self, order-eq, order_flip, order_trans, same_true}
use Rattle.rules.proofs.Bookings.{Below}
use Rattle.rules.proofs.Keys.{pairwise_map, all_found, IsOrder, same-ascending}

-- ── places ─────────────────────────────────────────────────────────────────────────────────────

names-order : IsOrder order
names-order = record { self = order-self; equal = order-eq; flip = order_flip; trans = order_trans }

-- a name's place, told by its seat
abbrev place_for : Name → Seat → Option Place
place_for a s = cond (is_vacant s) none (some (place a s))

found-place : (a : Name) (ps : List Place) → All (λ p. is_vacant p.seat ≡ false) ps → first (is_at a) ps ≡ place_for a (seat_in a ps)
unfolding seat_in
found-place a ps held = by-option (λ o. first (is_at a) ps ≡ o → o ≡ place_for a (seat_of o)) (first (is_at a) ps) (λ _ e. refl)
    (λ p _ e. rw (first-all (λ p. is_vacant p.seat ≡ false) (is_at a) ps p held e) (let n : p.name ≡ a = sym (same_true a p.name (first_passes (is_at a) ps p e)) in λ i. some (place (n i) p.seat))) refl

pub same-places : (ps qs : List Place) → Pairwise Before ps → Pairwise Before qs → All (λ p. is_vacant p.seat ≡ false) ps → All (λ p. is_vacant p.seat ≡ false) qs
    → ((a : Name) → seat_in a ps ≡ seat_in a qs) → ps ≡ qs
unfolding same
same-places ps qs h k held held' e = same-ascending (λ p. p.name) order names-order ps qs h k (λ a. found-place a ps held ∙ ap (place_for a) (e a) ∙ sym (found-place a qs held'))

-- ── bookings ───────────────────────────────────────────────────────────────────────────────────

numbers-order : IsOrder compare
numbers-order = record {
  self = compare_self;
  equal = compare-eq;
  flip = λ m n e. lt-compare n m (compare-gt m n e);
  trans = λ l m n e f. lt-compare l n (omega (arith, compare-lt l m e, compare-lt m n f));
}

pub same-bookings : (bs cs : List Booking) → Pairwise Below bs → Pairwise Below cs → ((i : ℕ) → booked i bs ≡ booked i cs) → bs ≡ cs
unfolding booked
same-bookings bs cs h k e = same-ascending (λ b. b.id) compare numbers-order bs cs (ascend bs h) (ascend cs k) e
  where
    ascend : (ds : List Booking) → Pairwise Below ds → Pairwise (λ b c. compare b.id c.id ≡ Ordering.lt) ds
    ascend = pairwise_map Below (λ b c. compare b.id c.id ≡ Ordering.lt) (λ b c l. lt-compare b.id c.id l)

abbrev pub Apart : Booking → Booking → Type 0
Apart b c = b.id ≢ c.id

-- a booking of the list is the one that is found by its id
abbrev pub Live : List Booking → Booking → Type 0
Live bs b = booked b.id bs ≡ some b

pub all_live : (bs : List Booking) → Pairwise Apart bs → All (Live bs) bs
unfolding booked
all_live bs h = all_found (λ b. has_id b.id) (λ b. eq-eqb b.id b.id refl) bs (pairwise_map Apart (λ b c. has_id c.id b ≡ false) (λ b c n. ne_eqb c.id b.id (λ e. n (sym e))) bs h)

-- ── in id order again ──────────────────────────────────────────────────────────────────────────

all_insert : (P : Booking → Type 0) (b : Booking) (cs : List Booking) → P b → All P cs → All P (insert_by_id b cs)
unfolding insert_by_id
all_insert P b [] p h = (p, tt)
all_insert P b (c ∷ cs) p (h, k) = by-test (All P) (ltb b.id c.id) (λ _. (p, (h, k))) (λ _. (h, all_insert P b cs p k))

all-in-order : (P : Booking → Type 0) (bs : List Booking) → All P bs → All P (in_id_order bs)
unfolding in_id_order
all-in-order P [] h = tt
all-in-order P (b ∷ bs) (h, k) = all_insert P b (in_id_order bs) h (all-in-order P bs k)

insert-ascends : (b : Booking) (cs : List Booking) → Pairwise Below cs → All (Apart b) cs → Pairwise Below (insert_by_id b cs)
unfolding insert_by_id
insert-ascends b [] h n = (tt, tt)
insert-ascends b (c ∷ cs) (h, k) (n, m) = by-test (Pairwise Below) (ltb b.id c.id)
    (λ e. let l : b.id < c.id = ltb-true b.id c.id e in ((l, all_map (Below c) (Below b) (λ d f. omega arith) cs h), (h, k)))
    (λ e. (all_insert (Below c) b cs (omega (arith, ltb-false b.id c.id e)) h, insert-ascends b cs k m))

pub order-ascends : (bs : List Booking) → Pairwise Apart bs → Pairwise Below (in_id_order bs)
unfolding in_id_order
order-ascends [] h = tt
order-ascends (b ∷ bs) (h, k) = insert-ascends b (in_id_order bs) (order-ascends bs k) (all-in-order (Apart b) bs h)

booked-insert : (i : ℕ) (b : Booking) (cs : List Booking) → All (Apart b) cs → booked i (insert_by_id b cs) ≡ booked i (b ∷ cs)
unfolding insert_by_id booked first
booked-insert i b [] h = refl
booked-insert i b (c ∷ cs) (h, k) = by-test (λ l. booked i l ≡ booked i (b ∷ c ∷ cs)) (ltb b.id c.id) (λ _. refl)
    (λ _. by_bool (λ t. eqb i c.id ≡ t → cond t (some c) (booked i (insert_by_id b cs)) ≡ cond (eqb i b.id) (some b) (cond t (some c) (booked i cs))) (eqb i c.id)
    (λ _ e. rw (eqb-true i c.id e, ne_eqb c.id b.id (λ q. h (sym q)))) (λ _ e. booked-insert i b cs k) refl)

pub booked-in-order : (i : ℕ) (bs : List Booking) → Pairwise Apart bs → booked i (in_id_order bs) ≡ booked i bs
unfolding in_id_order booked first
booked-in-order i [] h = refl
booked-in-order i (b ∷ bs) (h, k) = booked-insert i b (in_id_order bs) (all-in-order (Apart b) bs h) ∙ rw (booked-in-order i bs k)
