-- A sound ledger name by name: for every name, the account that it has, or that nothing is reserved for it. This is the paper's soundness,
-- which goes place by place, in the form in which one airline's change is seen to leave every other alone. Each gives the other: a name's seat is
-- that of its place, found by its name, and each place is its name's.
use mathlib.Core.Path.{◌≡◌, refl, sym, ap, subst}
use mathlib.Core.Logic.{◌⊎◌, ◌≢◌}
use mathlib.Core.Bool.{true, false, cond}
use mathlib.Core.List.{List, [], ◌∷◌}
use mathlib.Core.Option.{Option, none, some}
use Prim.Native.Nat.{ℕ, ◌+◌, ◌≤◌, ◌<◌}
use native.Mathlib.Omega.{arith}
use lib.ListN.{length}
use Rattle.rules.specs.Lists.{first, sum, All, Pairwise}
use Rattle.rules.specs.RoomAndSoundLedger.{M, most_names, most_reservations, Name, IsName, same, Account, Place, is_vacant, Booking, Ledger, is_at, seat_of, seat_in, has_account, share, reserved_for, committed_total, InRange, Before, AddsUp, Reserves, has_tag, fence_of, Sound}
use Rattle.rules.proofs.Tests.{by_bool, by-option, true-false}
use Rattle.rules.proofs.Lists.{first_passes, first-all, all_map, all_both, sum-zero}
use Rattle.rules.proofs.Names.{same_self, same_true}
use Rattle.rules.proofs.Places.{all_found}
use Rattle.rules.proofs.Bookings.{Below, IdBelow}

-- an account with so much reserved; a name without one has nothing reserved
abbrev pub AccountSound : ℕ → Option Account → Type 0
AccountSound total none = total ≡ 0
AccountSound total (some c) = (c.remaining + c.reserved + c.committed ≡ c.initial) × (c.initial ≤ M) × (c.reserved ≡ total)

abbrev pub AccountsSound : List Place → List Booking → Type 0
AccountsSound ps bs = (a : Name) → AccountSound (reserved_for a bs) (seat_in a ps).account

pub record PlacesSound (t : ℕ) (ps : List Place) : Type 0 where
  pub fit : length ps ≤ t
  pub are_names : All (λ p. IsName p.name) ps
  pub ascend : Pairwise Before ps
  pub limits : All (λ p. p.seat.limit ≤ M) ps
  pub held : All (λ p. is_vacant p.seat ≡ false) ps

pub record BookingsSound (r next : ℕ) (bs : List Booking) : Type 0 where
  pub fit : length bs ≤ r
  pub ascend : Pairwise Below bs
  pub in_range : All (IdBelow next) bs
  pub positive : All (λ b. 0 < b.amount) bs

pub record SoundByName (L : Ledger) : Type 0 where
  pub names_in_range : InRange 1 most_names L.T
  pub reservations_in_range : InRange 1 most_reservations L.R
  pub places : PlacesSound L.T L.places
  pub bookings : BookingsSound L.R L.next_id L.bookings
  pub accounts : AccountsSound L.places L.bookings
  pub next_id : InRange 1 M L.next_id
  pub last_version : (L.last_version ≡ 0) ⊎ ((has_tag L.last_version ≡ true) × (fence_of L.last_version ≢ 0))
  pub baseline : (L.baseline ≤ M) × (L.baseline ≤ committed_total L.places)

-- ── from places to names ───────────────────────────────────────────────────────────────────────

-- what the paper asks of an account, if there is one
abbrev AccountHolds : ℕ → Option Account → Type 0
AccountHolds total c = AddsUp c × Reserves total c

module _ (ps : List Place) (bs : List Booking) where
  nothing-reserved : (a : Name) → All (λ b. has_account (seat_in b.name ps).account ≡ true) bs → (seat_in a ps).account ≡ none → reserved_for a bs ≡ 0
  unfolding reserved_for
  nothing-reserved a h e = sum-zero (share a) bs (all_map (λ b. has_account (seat_in b.name ps).account ≡ true) (λ b. share a b ≡ 0)
      (λ b o. by_bool (λ c. same a b.name ≡ c → cond c b.amount 0 ≡ 0) (same a b.name)
      (λ _ q. let r : has_account (seat_in a ps).account ≡ true = subst (λ n. has_account (seat_in n ps).account ≡ true) (sym (same_true a b.name q)) o in true-false r (ap has_account e))
      (λ _ q. refl) refl) bs h)

  account-of : (a : Name) → All (λ p. AccountHolds (reserved_for p.name bs) p.seat.account) ps → AccountHolds (reserved_for a bs) (seat_in a ps).account
  unfolding seat_in
  account-of a h = by-option (λ o. first (is_at a) ps ≡ o → AccountHolds (reserved_for a bs) (seat_of o).account) (first (is_at a) ps) (λ _ _. (tt, tt))
      (λ p _ e. subst (λ n. AccountHolds (reserved_for n bs) p.seat.account) (sym (same_true a p.name (first_passes (is_at a) ps p e)))
      (first-all (λ p. AccountHolds (reserved_for p.name bs) p.seat.account) (is_at a) ps p h e)) refl

  accounts-by-name : All (λ p. AccountHolds (reserved_for p.name bs) p.seat.account) ps → All (λ b. has_account (seat_in b.name ps).account ≡ true) bs → AccountsSound ps bs
  accounts-by-name h o a = by-option (λ c. (seat_in a ps).account ≡ c → AccountHolds (reserved_for a bs) c → AccountSound (reserved_for a bs) c) (seat_in a ps).account
      (λ _ e t. nothing-reserved a o e) (λ c _ e t. (t.0.0, t.0.1, t.1)) refl (account-of a h)

pub by_name : (L : Ledger) → Sound L → SoundByName L
by_name L s = record {
  names_in_range = s.names_in_range;
  reservations_in_range = s.reservations_in_range;
  places = record { fit = s.names_fit; are_names = s.are_names; ascend = s.names_ascend; limits = s.limits; held = s.places_held };
  bookings = record { fit = s.reservations_fit; ascend = s.ids_ascend; in_range = s.ids_in_range; positive = s.amounts_positive };
  accounts = accounts-by-name L.places L.bookings
      (all_both (λ p. AddsUp p.seat.account) (λ p. Reserves (reserved_for p.name L.bookings) p.seat.account) _ (λ p h k. (h, k)) L.places s.accounts_add_up s.reserved_is_sum)
      s.accounts_exist;
  next_id = s.next_id;
  last_version = s.last_version;
  baseline = s.baseline_in_range;
}

-- ── from names to places ───────────────────────────────────────────────────────────────────────

adds_up : (total : ℕ) (c : Option Account) → AccountSound total c → AddsUp c
adds_up total none h = tt
adds_up total (some c) h = (h.0, h.1)

reserves : (total : ℕ) (c : Option Account) → AccountSound total c → Reserves total c
reserves total none h = tt
reserves total (some c) h = h.2

-- a booking is part of what is reserved for its airline
pub part-of-sum : (bs : List Booking) → All (λ b. b.amount ≤ reserved_for b.name bs) bs
unfolding reserved_for sum
part-of-sum [] = tt
part-of-sum (x ∷ xs) = (
  rw (same_self x.name) (omega arith),
  all_map (λ b. b.amount ≤ reserved_for b.name xs) (λ b. b.amount ≤ reserved_for b.name (x ∷ xs)) (λ b l. omega arith) xs (part-of-sum xs),
)

-- what holds of every name's account holds at every place
at_places : (P : Name → Option Account → Type 0) (ps : List Place) → Pairwise Before ps → ((a : Name) → P a (seat_in a ps).account) → All (λ p. P p.name p.seat.account) ps
at_places P ps ascend h = all_map (λ p. seat_in p.name ps ≡ p.seat) (λ p. P p.name p.seat.account) (λ p e. subst (λ s. P p.name s.account) e (h p.name)) ps (all_found ps ascend)

pub by_place : (L : Ledger) → SoundByName L → Sound L
by_place L s = record {
  names_in_range = s.names_in_range;
  reservations_in_range = s.reservations_in_range;
  names_fit = s.places.fit;
  reservations_fit = s.bookings.fit;
  are_names = s.places.are_names;
  names_ascend = s.places.ascend;
  accounts_add_up = at_places (λ a c. AddsUp c) L.places s.places.ascend (λ a. adds_up (reserved_for a L.bookings) (seat_in a L.places).account (s.accounts a));
  limits = s.places.limits;
  places_held = s.places.held;
  ids_ascend = s.bookings.ascend;
  ids_in_range = s.bookings.in_range;
  amounts_positive = s.bookings.positive;
  accounts_exist = all_both (λ b. 0 < b.amount) (λ b. b.amount ≤ reserved_for b.name L.bookings) _
      (λ b l m. by-option (λ c. AccountSound (reserved_for b.name L.bookings) c → has_account c ≡ true) (seat_in b.name L.places).account (λ _ z. absurd (omega arith)) (λ c _ z. refl) (s.accounts b.name))
      L.bookings s.bookings.positive (part-of-sum L.bookings);
  reserved_is_sum = at_places (λ a c. Reserves (reserved_for a L.bookings) c) L.places s.places.ascend (λ a. reserves (reserved_for a L.bookings) (seat_in a L.places).account (s.accounts a));
  next_id = s.next_id;
  last_version = s.last_version;
  baseline_in_range = s.baseline;
}
