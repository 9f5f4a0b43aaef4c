-- No operation of an airline changes any other airline's seat, on any ledger, sound or not: whatever its rule decides, places are only written under
-- the airline's own name.
use mathlib.Core.Path.{◌≡◌, refl, sym, ap}
use mathlib.Core.Logic.{◌≢◌}
use mathlib.Core.Bool.{false}
use mathlib.Core.Option.{Option, none, some, map}
use Prim.Native.Nat.{ℕ}
use lib.Dec.{ltb}
use lib.ListN.{length}
use Rattle.rules.specs.RoomAndSoundLedger.{Name, same, Account, Booking, Ledger, seat_in}
use Rattle.rules.specs.AnswerNumbers.{Outcome}
use Rattle.rules.specs.AccountRules.{Move, refuse, tell, write, lose, book, Settlement, leave, end, has_room, booked, perform, settle, AccountOperation, Rule, for_name, for_reservation, rule_of, on_name, on_booking, apply, operate}
use Rattle.rules.specs.OrderBetweenAirlines.{airline_on, belongs_to}
use Rattle.rules.proofs.Tests.{by-test}
use Rattle.rules.proofs.Names.{other}
use Rattle.rules.proofs.Places.{seat_in-seated-other}

module _ (L : Ledger) (a : Name) where
  abbrev Stays : Outcome → Type 0
  Stays o = seat_in a o.ledger.places ≡ seat_in a L.places

  apart : (b : Name) → some b ≢ some a → same a b ≡ false
  apart b n = other a b (λ e. n (ap some (sym e)))

  perform-stays : (b : Name) → some b ≢ some a → (m : Move) → Stays (perform L b m)
  unfolding perform
  perform-stays b n (refuse e) = refl
  perform-stays b n (tell zs) = refl
  perform-stays b n (write zs s) = by-test Stays (has_room b s L) (λ _. seat_in-seated-other a b s L.places (apart b n)) (λ _. refl)
  perform-stays b n (lose e) = refl
  perform-stays b n (book remaining s cost) = by-test Stays (ltb (length L.bookings) L.R) (λ _. seat_in-seated-other a b s L.places (apart b n)) (λ _. refl)

  settle-stays : (o : Option Booking) → map (λ b. b.name) o ≢ some a → (x : Settlement) → Stays (settle L o x)
  unfolding settle
  settle-stays o n (leave e) = refl
  settle-stays none n (end zs s) = refl
  settle-stays (some b) n (end zs s) = seat_in-seated-other a b.name s L.places (apart b.name n)

  on-booking-stays : (o : Option Booking) → map (λ b. b.name) o ≢ some a → (rule : Option ℕ → Option Account → ℕ → Settlement) → Stays (on_booking L o rule)
  unfolding on_booking
  on-booking-stays none n rule = settle-stays none n _
  on-booking-stays (some b) n rule = settle-stays (some b) n _

  apply-stays : (r : Rule ℕ) → airline_on L r ≢ some a → Stays (apply L r)
  unfolding on_name
  apply-stays (for_name b rule) n = perform-stays b n _
  apply-stays (for_reservation i rule) n = on-booking-stays (booked i L.bookings) n rule

  pub other-seats-stay : (x : AccountOperation ℕ) → belongs_to L x ≢ some a → seat_in a (operate L x).ledger.places ≡ seat_in a L.places
  unfolding operate belongs_to
  other-seats-stay x n = apply-stays (rule_of x) n
