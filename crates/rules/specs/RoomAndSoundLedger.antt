-- Document 01, section "Room and the sound ledger".
use Rattle.std.specs.Prelude.{◌≡◌, ◌⊎◌, ◌≢◌, Bool, true, false, not, cond, ◌&&◌, List, [], ◌∷◌, leb, eqb, length}
use Rattle.std.proofs.Math.Option.{Option, none, some}
use Prim.Native.Nat.{ℕ, ◌+◌, ◌-◌, ◌/◌, ◌%◌, ◌^◌, ◌≤◌, ◌<◌, compare, Ordering}
use Rattle.std.proofs.Math.Dec.{compare_is_eq}
use Rattle.rules.specs.Lists.{first, any, sum, All, Pairwise}

-- the greatest amount, as the paper names it
unfoldable pub M : ℕ
M = 2 ^ 63 - 1

-- how many bytes a name, and how many names and reservations a ledger has at most
abbrev pub longest_name : ℕ
longest_name = 24

abbrev pub most_names : ℕ
most_names = 256

abbrev pub most_reservations : ℕ
most_reservations = 1024

-- ── names ──────────────────────────────────────────────────────────────────────────────────────

-- the bytes within the length; a struct that keeps a name has zeros behind them
abbrev pub Name : Type 0
Name = List ℕ

abbrev pub IsByte : ℕ → Type 0
IsByte b = b < 256

pub record IsName (a : Name) : Type 0 where
  pub fits : length a ≤ longest_name
  pub bytes : All IsByte a

-- byte by byte, and a prefix before what it begins
abbrev pub then_by : Ordering → Ordering → Ordering
then_by Ordering.lt o = Ordering.lt
then_by Ordering.eq o = o
then_by Ordering.gt o = Ordering.gt

unfoldable pub order : Name → Name → Ordering
order [] [] = Ordering.eq
order [] (y ∷ ys) = Ordering.lt
order (x ∷ xs) [] = Ordering.gt
order (x ∷ xs) (y ∷ ys) = then_by (compare x y) (order xs ys)

unfoldable pub same : Name → Name → Bool
same a b = compare_is_eq (order a b)

-- ── the ledger ─────────────────────────────────────────────────────────────────────────────────

-- natural numbers, since no amount of a sound account is negative
pub record Account : Type 0 where
  pub initial : ℕ
  pub remaining : ℕ
  pub reserved : ℕ
  pub committed : ℕ

-- What one name has: an account or none, and a limit, where 0 is none
pub record Seat : Type 0 where
  pub account : Option Account
  pub limit : ℕ

abbrev pub seat : Option Account → ℕ → Seat
seat c l = record { account = c; limit = l }

abbrev pub has_account : Option Account → Bool
has_account none = false
has_account (some c) = true

abbrev pub is_vacant : Seat → Bool
is_vacant s = not (has_account s.account) && eqb s.limit 0

-- A ledger lists the names that have something; one that has nothing any more gives up its place
pub record Place : Type 0 where
  pub name : Name
  pub seat : Seat

abbrev pub place : Name → Seat → Place
place a s = record { name = a; seat = s }

-- a live reservation
pub record Booking : Type 0 where
  pub id : ℕ
  pub name : Name
  pub amount : ℕ

-- T and R are the names and reservations that the lent room is for
pub record Ledger : Type 0 where
  pub T : ℕ
  pub R : ℕ
  pub next_id : ℕ
  pub last_version : ℕ
  pub baseline : ℕ
  pub places : List Place
  pub bookings : List Booking

-- the ledger with one field changed
abbrev pub with_next_id : Ledger → ℕ → Ledger
with_next_id L n = record { T = L.T; R = L.R; next_id = n; last_version = L.last_version; baseline = L.baseline; places = L.places; bookings = L.bookings }

abbrev pub with_last_version : Ledger → ℕ → Ledger
with_last_version L v = record { T = L.T; R = L.R; next_id = L.next_id; last_version = v; baseline = L.baseline; places = L.places; bookings = L.bookings }

abbrev pub with_baseline : Ledger → ℕ → Ledger
with_baseline L n = record { T = L.T; R = L.R; next_id = L.next_id; last_version = L.last_version; baseline = n; places = L.places; bookings = L.bookings }

abbrev pub with_places : Ledger → List Place → Ledger
with_places L ps = record { T = L.T; R = L.R; next_id = L.next_id; last_version = L.last_version; baseline = L.baseline; places = ps; bookings = L.bookings }

abbrev pub with_bookings : Ledger → List Booking → Ledger
with_bookings L bs = record { T = L.T; R = L.R; next_id = L.next_id; last_version = L.last_version; baseline = L.baseline; places = L.places; bookings = bs }

-- ── looking up ─────────────────────────────────────────────────────────────────────────────────

abbrev pub is_at : Name → Place → Bool
is_at a p = same a p.name

abbrev pub seat_of : Option Place → Seat
seat_of none = seat none 0
seat_of (some p) = p.seat

unfoldable pub holds_place : Name → List Place → Bool
holds_place a = any (is_at a)

-- the seat of a name; a name that holds no place has nothing
unfoldable pub seat_in : Name → List Place → Seat
seat_in a ps = seat_of (first (is_at a) ps)

-- what a booking reserves for a name
abbrev pub share : Name → Booking → ℕ
share a b = cond (same a b.name) b.amount 0

unfoldable pub reserved_for : Name → List Booking → ℕ
reserved_for a = sum (share a)

abbrev pub committed_of : Option Account → ℕ
committed_of none = 0
committed_of (some c) = c.committed

abbrev pub committed_at : Place → ℕ
committed_at p = committed_of p.seat.account

unfoldable pub committed_total : List Place → ℕ
committed_total = sum committed_at

-- ── the sound ledger ───────────────────────────────────────────────────────────────────────────

abbrev pub InRange : ℕ → ℕ → ℕ → Type 0
InRange low high n = (low ≤ n) × (n ≤ high)

abbrev pub Before : Place → Place → Type 0
Before p q = order p.name q.name ≡ Ordering.lt

abbrev pub AddsUp : Option Account → Type 0
AddsUp none = Unit {0}
AddsUp (some c) = (c.remaining + c.reserved + c.committed ≡ c.initial) × (c.initial ≤ M)

abbrev pub Reserves : ℕ → Option Account → Type 0
Reserves total none = Unit {0}
Reserves total (some c) = c.reserved ≡ total

-- the two parts of a version: the tag in bit 63, the fence in the bits below it
abbrev pub has_tag : ℕ → Bool
has_tag v = eqb (v / 2 ^ 63) 1

abbrev pub fence_of : ℕ → ℕ
fence_of v = v % 2 ^ 63

-- The paper's clauses on a sound ledger, in its order. The last, on room not in use, is said of lent bytes where they are decoded; of the ledger
-- it says that no more is in use than was lent
pub record Sound (L : Ledger) : Type 0 where
  pub names_in_range : InRange 1 most_names L.T
  pub reservations_in_range : InRange 1 most_reservations L.R
  pub names_fit : length L.places ≤ L.T
  pub reservations_fit : length L.bookings ≤ L.R
  pub are_names : All (λ p. IsName p.name) L.places
  pub names_ascend : Pairwise Before L.places
  pub accounts_add_up : All (λ p. AddsUp p.seat.account) L.places
  -- a limit is a signed 64-bit amount and not negative
  pub limits : All (λ p. p.seat.limit ≤ M) L.places
  -- without an account there is a limit; the amounts of none are not written down at all
  pub places_held : All (λ p. is_vacant p.seat ≡ false) L.places
  pub ids_ascend : Pairwise (λ b c. b.id < c.id) L.bookings
  pub ids_in_range : All (λ b. (1 ≤ b.id) × (b.id < L.next_id)) L.bookings
  pub amounts_positive : All (λ b. 0 < b.amount) L.bookings
  pub accounts_exist : All (λ b. has_account (seat_in b.name L.places).account ≡ true) L.bookings
  pub reserved_is_sum : All (λ p. Reserves (reserved_for p.name L.bookings) p.seat.account) L.places
  pub next_id : InRange 1 M L.next_id
  pub last_version : (L.last_version ≡ 0) ⊎ ((has_tag L.last_version ≡ true) × (fence_of L.last_version ≢ 0))
  pub baseline_in_range : (L.baseline ≤ M) × (L.baseline ≤ committed_total L.places)

-- ── a fresh ledger ─────────────────────────────────────────────────────────────────────────────

unfoldable pub fresh : ℕ → ℕ → Ledger
fresh t r = record { T = t; R = r; next_id = 1; last_version = 0; baseline = 0; places = []; bookings = [] }

abbrev pub is_in_range : ℕ → ℕ → ℕ → Bool
is_in_range low high n = leb low n && leb n high

-- the ledger that is made; none stands for 24
unfoldable pub made : ℕ → ℕ → Option Ledger
made t r = cond (is_in_range 1 most_names t && is_in_range 1 most_reservations r) (some (fresh t r)) none
