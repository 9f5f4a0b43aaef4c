-- A room says which ledger it holds: the contents of a sound ledger decode to it again, so a room is the room of one ledger only; and two rooms of
-- the same ledger are the same bytes.
use mathlib.Core.Path.{◌≡◌, refl, sym, ◌∙◌, ap, ap₂}
use mathlib.Core.Bool.{true, cond, ◌||◌}
use mathlib.Core.List.{List, [], ◌∷◌, map}
use mathlib.Core.Option.{Option, none, some}
use Prim.Native.Nat.{ℕ, suc}
use lib.ListN.{length, get_or, take}
use Rattle.rules.specs.Lists.{any, All}
use Rattle.rules.specs.RoomAndSoundLedger.{Name, IsByte, Account, seat, Place as RulesPlace, place, Booking as RulesBooking, Ledger, is_at, seat_in, has_account, holds_place, Sound}
use Rattle.rules.proofs.Tests.{by_bool, true-false}
use Rattle.rules.proofs.Names.{same_true}
use Rattle.rules.proofs.Places.{account-holds}
use Rattle.names.specs.Names.{spelled}
use Rattle.names.proofs.Storing.{spelled-stored}
use Rattle.moves.specs.Moves.{meaning, kept, kept_seat}
use Rattle.moves.specs.declared.Seat.{Seat}
use Rattle.records.specs.Records.{sizes_of, places, bookings}
use Rattle.records.proofs.Room.{same-room}
use Rattle.records.specs.declared.Place.{Place}
use Rattle.records.specs.declared.Booking.{Booking}
use Rattle.room.specs.Contents.{Contents, contents_of, base_of, used_places, live_bookings, empty_place, empty_booking}
use Rattle.room.specs.Room.{place_record, place_number, booking_record, filled, contents_in, IsRoom}
use Rattle.room.proofs.Filled.{used-part}

-- ── decoding ───────────────────────────────────────────────────────────────────────────────────

abbrev pub seat_of : Place → Seat
seat_of p = record { initial = p.initial; remaining = p.remaining; reserved = p.reserved; committed = p.committed; limit = p.limit; account = p.account }

abbrev pub place_in : Place → RulesPlace
place_in p = place (spelled p.name) (meaning (seat_of p))

abbrev pub nowhere : RulesPlace
nowhere = place [] (seat none 0)

abbrev pub booking_in : List RulesPlace → Booking → RulesBooking
booking_in ps b = record { id = b.id.0; name = (get_or ps b.owner nowhere).name; amount = b.amount.0 }

unfoldable pub ledger_in : Contents → Ledger
ledger_in c =
    let ps : List RulesPlace = map place_in (used_places c) in
    record { T = c.sizes.names; R = c.sizes.reservations; next_id = c.head.next_id; last_version = c.head.last_version; baseline = c.head.baseline; places = ps; bookings = map (booking_in ps) (live_bookings c) }

pub kept-meaning : (c : Option Account) (l : ℕ) → meaning (kept c l) ≡ seat c l
kept-meaning none l = refl
kept-meaning (some c) l = refl

place-decoded : (p : RulesPlace) → place_in (place_record p) ≡ p
unfolding place_record kept_seat
place-decoded p = ap₂ place (spelled-stored p.name) (kept-meaning p.seat.account p.seat.limit)

places-decoded : (ps : List RulesPlace) → map place_in (map place_record ps) ≡ ps
places-decoded [] = refl
places-decoded (p ∷ ps) = ap₂ ◌∷◌ (place-decoded p) (places-decoded ps)

-- the place of a name that holds one has that number
pub number-name : (a : Name) (ps : List RulesPlace) → holds_place a ps ≡ true → (get_or ps (place_number a ps) nowhere).name ≡ a
unfolding holds_place any place_number
number-name a [] h = true-false h refl
number-name a (p ∷ ps) h = by_bool (λ b. is_at a p ≡ b → b || any (is_at a) ps ≡ true → (get_or (p ∷ ps) (cond b 0 (suc (place_number a ps))) nowhere).name ≡ a) (is_at a p)
    (λ _ e h. sym (same_true a p.name e)) (λ _ e h. number-name a ps h) refl h

bookings-decoded : (ps : List RulesPlace) (bs : List RulesBooking) → All (λ b. has_account (seat_in b.name ps).account ≡ true) bs → map (booking_in ps) (map (booking_record ps) bs) ≡ bs
bookings-decoded ps [] h = refl
bookings-decoded ps (b ∷ bs) (h, k) =
    ap₂ ◌∷◌ (λ i. record { id = b.id; name = number-name b.name ps (account-holds b.name ps h) i; amount = b.amount }) (bookings-decoded ps bs k)

pub decoded : (L : Ledger) → Sound L → ledger_in (contents_in L) ≡ L
unfolding ledger_in contents_in
decoded L s =
    let ps : map place_in (take (length L.places) (filled L.T empty_place (map place_record L.places))) ≡ L.places =
    ap (map place_in) (used-part place_record L.places L.T empty_place) ∙ places-decoded L.places in
    let bs = (λ i. map (booking_in (ps i)) (used-part (booking_record L.places) L.bookings L.R empty_booking i)) ∙ bookings-decoded L.places L.bookings s.accounts_exist in
    λ i. record { T = L.T; R = L.R; next_id = L.next_id; last_version = L.last_version; baseline = L.baseline; places = ps i; bookings = bs i }

-- ── one ledger to a room, one room to a ledger ─────────────────────────────────────────────────

pub one-ledger : (xs : List ℕ) (K L : Ledger) → IsRoom xs K → IsRoom xs L → K ≡ L
one-ledger xs K L k l = sym (decoded K k.sound) ∙ ap ledger_in (sym k.holds ∙ l.holds) ∙ decoded L l.sound

pub canonical : (xs ys : List ℕ) (L : Ledger) → All IsByte xs → All IsByte ys → IsRoom xs L → IsRoom ys L → xs ≡ ys
unfolding contents_of contents_in
canonical xs ys L bytes bytes' x y =
    let same : contents_of xs ≡ contents_of ys = x.holds ∙ sym y.holds in
    let t : (sizes_of xs).names ≡ L.T = ap (λ c. c.sizes.names) x.holds in
    let t' : (sizes_of ys).names ≡ L.T = ap (λ c. c.sizes.names) y.holds in
    let r : (sizes_of xs).reservations ≡ L.R = ap (λ c. c.sizes.reservations) x.holds in
    let r' : (sizes_of ys).reservations ≡ L.R = ap (λ c. c.sizes.reservations) y.holds in
    same-room L.T L.R xs ys bytes bytes' x.size y.size (record {
      sizes = ap (λ c. c.sizes) same;
      head = ap (λ c. c.head) same;
      places = ap (λ n. places n xs) (sym t) ∙ ap (λ c. c.places) same ∙ ap (λ n. places n ys) t';
      bookings = ap₂ (λ n m. bookings (base_of n) m xs) (sym t) (sym r) ∙ ap (λ c. c.bookings) same ∙ ap₂ (λ n m. bookings (base_of n) m ys) t' r';
    })
