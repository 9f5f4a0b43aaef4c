-- A settlement: what is loaded is the ledger's booking and its airline's seat, and each answer performs the rule's settlement.
use mathlib.Core.Path.{◌≡◌, refl, sym, ◌∙◌, ap, ap₂, subst}
use mathlib.Core.Bool.{true, cond}
use mathlib.Core.List.{List, ◌++◌, map}
use mathlib.Core.Option.{Option, none, some}
use Prim.Native.Nat.{ℕ, suc, ◌+◌, ◌*◌, ◌^◌, ◌≤◌, ◌<◌}
use native.Mathlib.Omega.{arith}
use lib.IntN.{ℤ}
use lib.ListN.{length, get_or, take, drop, get_or-map}
use lib.Signed.{mag}
use Rattle.std.specs.Prelude.{Some, None}
use Rattle.rules.specs.RoomAndSoundLedger.{Account, Seat as RulesSeat, Place as RulesPlace, Booking as RulesBooking, Ledger, with_places, with_bookings, seat_in, has_account, holds_place, reserved_for}
use Rattle.rules.specs.AnswerNumbers.{Refusal, reply_of, refused}
use Rattle.rules.specs.AccountRules.{Settlement, leave, end, AccountOperation, commit, release, commit_rule, release_rule, operate, on_booking, settle, booked, ended, seated, done_with}
use Rattle.rules.specs.Domain.{AccountOperationFits}
use Rattle.rules.proofs.Tests.{by-option, true-false}
use Rattle.rules.proofs.Places.{account-holds}
use Rattle.rules.proofs.Bookings.{booked-id}
use Rattle.rules.proofs.SoundByName.{AccountSound, part-of-sum, by_name}
use Rattle.rules.proofs.ByIndex.{any-default, all_read}
use Rattle.numbers.proofs.Amounts.{amount-fits}
use Rattle.moves.specs.Moves.{account_of, meaning, kept, kept_seat, SeatSound}
use Rattle.moves.specs.declared.Seat.{Seat}
use Rattle.records.specs.declared.Booking.{Booking}
use Rattle.records.specs.declared.Sizes.{Sizes}
use Rattle.records.specs.Layout.{booking_size}
use Rattle.records.specs.Rows.{row}
use Rattle.records.specs.Records.{sizes_of, booking_of}
use Rattle.room.specs.Contents.{contents_of, Sized, base_of, used_places, live_bookings, booking_of_id, place_of_name, removed_booking}
use Rattle.room.specs.Room.{place_record, place_number, booking_record, contents_in, IsRoom, Performs, SoundRoom, OfRoom}
use Rattle.room.specs.Seats.{seat_found, with_seat}
use Rattle.room.proofs.Numbers.{found_number, number-below}
use Rattle.room.proofs.Steps.{BookingFound, live_at, not_live, booking-found}
use Rattle.room.proofs.Seating.{seat-found, kept-account, kept-limit, seat-sound}
use Rattle.room.proofs.Settling.{ended-contents}
use Rattle.room.proofs.InRoom.{loaded-booking}
use Rattle.room.proofs.SoundRoom.{places-are, bookings-are, sized}
use Rattle.tables.specs.Steps.{Becomes}
use Rattle.reservations.specs.Steps.{no_booking, booking_at, due_at}
use Rattle.reservations.specs.declared.Due.{Due}
use Rattle.reservations.proofs.Fitting.{Keeps, commit-keeps, release-keeps}
use Rattle.reservations.proofs.Performing.{stays, becomes}

kept_reserved : (amount total : ℕ) (c : Option Account) (l : ℕ) → has_account c ≡ true → AccountSound total c → amount ≤ total → amount ≤ (kept c l).reserved
kept_reserved amount total none l h s m = true-false h refl
kept_reserved amount total (some c) l h s m = omega (arith, s.2)

-- the id is that of the booking at j, and of no other
record Live (L : Ledger) (id j : ℕ) : Type 0 where
  below : j < length L.bookings
  is : booked id L.bookings ≡ some (booking_at L j)
  closes : ended id L.bookings ≡ take j L.bookings ++ drop (suc j) L.bookings

module _ (xs : List ℕ) (L : Ledger) (room : IsRoom xs L) where
  abbrev ps : List RulesPlace
  ps = L.places

  abbrev bs : List RulesBooking
  bs = L.bookings

  used-is : (contents_of xs).sizes.used ≡ length ps
  unfolding contents_in
  used-is = ap (λ c. c.sizes.used) room.holds

  pub live-is : (contents_of xs).sizes.live ≡ length bs
  unfolding contents_in
  live-is = ap (λ c. c.sizes.live) room.holds

  -- ── the booking at j ─────────────────────────────────────────────────────────────────────────

  module _ (j : ℕ) (below : j < length bs) where
    abbrev b : RulesBooking
    b = booking_at L j

    abbrev own : RulesSeat
    own = seat_in b.name ps

    owns : has_account own.account ≡ true
    owns = all_read (λ c. has_account (seat_in c.name ps).account ≡ true) no_booking bs j room.sound.accounts_exist below

    owner-holds : holds_place b.name ps ≡ true
    owner-holds = account-holds b.name ps owns

    pub owner-below : place_number b.name ps < length ps
    owner-below = number-below b.name ps owner-holds

    within-reserved : b.amount ≤ (kept_seat own).reserved
    unfolding kept_seat
    within-reserved = kept_reserved b.amount (reserved_for b.name bs) own.account own.limit owns ((by_name L room.sound).accounts b.name) (all_read (λ c. c.amount ≤ reserved_for c.name bs) no_booking bs j (part-of-sum bs) below)

    pub booking-is : (t : Sizes) → t ≡ sizes_of xs → (k : Booking) → k ≡ booking_of (row booking_size (base_of t.names + booking_size * j) xs) → k ≡ booking_record ps b
    unfolding contents_of
    booking-is t e k q =
        let live : (sizes_of xs).live ≡ length bs = live-is in
        q ∙ ap (λ (u : Sizes). booking_of (row booking_size (base_of u.names + booking_size * j) xs)) e
        ∙ loaded-booking xs (sized xs L room) j (booking_record ps no_booking) (omega arith)
        ∙ ap (λ cs. get_or cs j (booking_record ps no_booking)) (bookings-are xs L room)
        ∙ get_or-map (booking_record ps) bs j no_booking

    pub seat-there : (n : ℕ) → n ≡ place_number b.name ps → (s : Seat) → s ≡ seat_found (Some n) (used_places (contents_of xs)) → s ≡ kept_seat own
    seat-there n e s q =
        let found : place_of_name b.name (map place_record ps) ≡ Some (place_number b.name ps) = found_number b.name ps ∙ ap (λ h. cond h (Some (place_number b.name ps)) None) owner-holds in
        q ∙ ap₂ (λ i qs. seat_found (Some i) qs) e (places-are xs L room) ∙ ap (λ f. seat_found f (map place_record ps)) (sym found) ∙ seat-found b.name ps

    -- what a rule of settlement asks of what is due
    due-allowed : (d : Due) → d ≡ due_at L j → SeatSound d.seat × (d.amount.0 ≤ d.seat.reserved)
    unfolding due_at
    due-allowed d e = subst (λ (d : Due). SeatSound d.seat × (d.amount.0 ≤ d.seat.reserved)) (sym e) (seat-sound L room.sound b.name, within-reserved)

    due-owner : (d : Due) → d ≡ due_at L j → d.owner < (contents_of xs).sizes.used
    unfolding due_at
    due-owner d e = let q : d.owner ≡ place_number b.name ps = ap (λ (d : Due). d.owner) e in omega (arith, used-is, owner-below)

  -- ── the booking that a look-up finds ─────────────────────────────────────────────────────────

  module _ (id : ℕ) where
    found-live : (j : ℕ) → BookingFound id bs (Some j) → Live L id j
    found-live j (live_at c below at is closes) =
        let here : get_or bs j no_booking ≡ c = any-default no_booking c bs j below ∙ at in
        record { below = below; is = is ∙ ap some (sym here); closes = closes }

    found-gone : BookingFound id bs None → booked id bs ≡ none
    found-gone (not_live is) = is

    searched-is : booking_of_id id (live_bookings (contents_of xs)) ≡ booking_of_id id (map (booking_record ps) bs)
    searched-is = ap (booking_of_id id) (bookings-are xs L room)

    live : (j : ℕ) → Some j ≡ booking_of_id id (live_bookings (contents_of xs)) → Live L id j
    live j e = found-live j (subst (BookingFound id bs) (sym (e ∙ searched-is)) (booking-found ps id bs room.sound.ids_ascend))

    gone : None ≡ booking_of_id id (live_bookings (contents_of xs)) → booked id bs ≡ none
    gone e = found-gone (subst (BookingFound id bs) (sym (e ∙ searched-is)) (booking-found ps id bs room.sound.ids_ascend))

-- ── an operation on a reservation ──────────────────────────────────────────────────────────────

-- its rule, and what is known of it
pub record OnBooking (id : ℕ) : Type 0 where
  pub operation : AccountOperation ℕ
  pub rule : Option ℕ → Option Account → ℕ → Settlement
  pub is : (L : Ledger) → operate L operation ≡ on_booking L (booked id L.bookings) rule
  pub fits : AccountOperationFits operation
  pub keeps : Keeps rule

module _ (id : ℕ) where
  pub commit-is : (z : ℤ) (L : Ledger) → operate L (commit id z) ≡ on_booking L (booked id L.bookings) (commit_rule z)
  unfolding operate
  commit-is z L = refl

  pub release-is : (L : Ledger) → operate L (release id) ≡ on_booking L (booked id L.bookings) release_rule
  unfolding operate
  release-is L = refl

  -- of a 64-bit amount
  abbrev pub committing : (z : ℤ) → mag z < 2 ^ 63 → OnBooking id
  committing z small = record { operation = commit id z; rule = commit_rule z; is = commit-is z; fits = amount-fits z small; keeps = commit-keeps z }

  abbrev pub releasing : OnBooking id
  releasing = record { operation = release id; rule = release_rule; is = release-is; fits = tt; keeps = release-keeps }

-- what a function has seen when it asks the rule: a live reservation, and what is due of it
pub record Seen (xs : List ℕ) (id j : ℕ) (d : Due) : Type 0 where
  pub sound : SoundRoom xs
  pub found_is : Some j ≡ booking_of_id id (live_bookings (contents_of xs))
  pub due_is : OfRoom xs (λ L. d ≡ due_at L j)

-- the same, from what `find_booking` and `due_at` say
pub seen : {xs : List ℕ} {id j : ℕ} {d : Due} → SoundRoom xs → Some j ≡ booking_of_id id (live_bookings (contents_of xs)) → OfRoom xs (λ L. d ≡ due_at L j) → Seen xs id j d
seen room found due = record { sound = room; found_is = found; due_is = due }

-- what is due of a reservation that was found may be read (`due_at`)
pub readable : (xs : List ℕ) → SoundRoom xs → (id j : ℕ) → Some j ≡ booking_of_id id (live_bookings (contents_of xs)) → SoundRoom xs × (j < (contents_of xs).sizes.live)
readable xs sound id j e =
    let L = sound.ledger in
    let room = sound.is_room in
    (sound, omega (arith, (live xs L room id j e).below, live-is xs L room))

module _ {xs : List ℕ} {id j : ℕ} {d : Due} (looked : Seen xs id j d) where
  -- and what was read may be settled (`moves::commit`, `moves::release`)
  pub allowed : SeatSound d.seat × (d.amount.0 ≤ d.seat.reserved)
  allowed =
      let L = looked.sound.ledger in
      let room = looked.sound.is_room in
      due-allowed xs L room j (live xs L room id j looked.found_is).below d (looked.due_is L room)

  -- what the end of the reservation asks (`end`)
  pub ready : Sized xs × (d.owner < (contents_of xs).sizes.used) × (j < (contents_of xs).sizes.live)
  ready =
      let L = looked.sound.ledger in
      let room = looked.sound.is_room in
      let found = live xs L room id j looked.found_is in
      (sized xs L room, due-owner xs L room j found.below d (looked.due_is L room), omega (arith, found.below, live-is xs L room))

module _ {xs : List ℕ} {id : ℕ} (o : OnBooking id) where
  -- refused whether there is such a reservation or not
  pub refuses : (e : Refusal) → ((live : Option ℕ) (c : Option Account) (l : ℕ) → o.rule live c l ≡ leave e) → Performs (λ K. operate K o.operation) xs (reply_of e) xs
  unfolding on_booking settle
  refuses e left L room =
      stays o.operation L xs room (reply_of e)
      (o.is L ∙ by-option (λ b. on_booking L b o.rule ≡ refused e L) (booked id L.bookings) (λ _. ap (settle L none) (left none none 0)) (λ b _. ap (settle L (some b)) (left (some b.amount) _ _)))

  -- no such reservation
  pub misses : (e : Refusal) → None ≡ booking_of_id id (live_bookings (contents_of xs)) → o.rule none none 0 ≡ leave e → Performs (λ K. operate K o.operation) xs (reply_of e) xs
  unfolding on_booking settle
  misses e absent left L room =
      stays o.operation L xs room (reply_of e) (o.is L ∙ ap (λ b. on_booking L b o.rule) (gone xs L room id absent) ∙ ap (settle L none) left)

  module _ {j : ℕ} {d : Due} (looked : Seen xs id j d) where
    -- the rule at what is due is the rule at the airline's seat
    decided : (L : Ledger) → IsRoom xs L → (m : Settlement) → m ≡ o.rule (some d.amount.0) (account_of d.seat) d.seat.limit → operate L o.operation ≡ settle L (some (booking_at L j)) m
    unfolding due_at on_booking
    decided L room m by-rule =
        let c : RulesBooking = booking_at L j in
        let own : RulesSeat = seat_in c.name L.places in
        o.is L
        ∙ ap (λ b. on_booking L b o.rule) (live xs L room id j looked.found_is).is
        ∙ ap (settle L (some c)) (sym (by-rule ∙ ap (λ (e : Due). o.rule (some e.amount.0) (account_of e.seat) e.seat.limit) (looked.due_is L room) ∙ ap₂ (λ a l. o.rule (some c.amount) a l) (kept-account own) (kept-limit own)))

    -- the reservation stays
    pub leaves : (e : Refusal) → leave e ≡ o.rule (some d.amount.0) (account_of d.seat) d.seat.limit → Performs (λ K. operate K o.operation) xs (reply_of e) xs
    unfolding settle
    leaves e q L room = stays o.operation L xs room (reply_of e) (decided L room (leave e) q)

    -- the reservation ends
    pub ends : (zs : List ℤ) (s : Seat) → end zs (meaning s) ≡ o.rule (some d.amount.0) (account_of d.seat) d.seat.limit → SeatSound s
        → (ys : List ℕ) → Becomes (λ c. removed_booking j (with_seat d.owner s c)) xs ys → Performs (λ K. operate K o.operation) xs (done_with zs) ys
    unfolding settle due_at
    ends zs s q known ys (l, k) L room =
        let c : RulesBooking = booking_at L j in
        let found : Live L id j = live xs L room id j looked.found_is in
        let owner : d.owner ≡ place_number c.name L.places = ap (λ (e : Due). e.owner) (looked.due_is L room) in
        let same : c.id ≡ id = booked-id id L.bookings c found.is in
        let taken = o.keeps d.amount.0 (account_of d.seat) d.seat.limit zs (meaning s) q in
        becomes o.operation L xs room (done_with zs) o.fits (with_bookings (with_places L (seated c.name (meaning s) L.places)) (ended c.id L.bookings)) (decided L room (end zs (meaning s)) q) refl refl ys l
        (k ∙ ap₂ (λ i t. removed_booking j (with_seat i s t)) owner room.holds
        ∙ ended-contents L room.sound c.name s known taken (owner-holds xs L room j found.below) c.id j found.below (ap (λ i. ended i L.bookings) same ∙ found.closes))
