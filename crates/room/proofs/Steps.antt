-- What the steps on the tables mean to the ledger that a room holds: a seat written, a place put in or taken out, a booking added or ended, a new
-- head. Each says that the contents after the step are those of the ledger after it.
use mathlib.Core.Path.{◌≡◌, refl, sym, ◌∙◌, ap, ap₂}
use mathlib.Core.Bool.{true, false, not, cond}
use mathlib.Core.List.{List, [], ◌∷◌, ◌++◌, map, map-append}
use mathlib.Core.Option.{none, some}
use Prim.Native.Nat.{ℕ, zero, suc, pred, ◌+◌, ◌-◌, ◌≤◌, ◌<◌}
use native.Mathlib.Omega.{arith}
use borrow.Author.Tests.{eqb-true, ne_eqb}
use lib.ListN.{length, get_or, take, drop, set, replicate, length-map, length-append, length-drop}
use lib.Seq.{take_at, drop_at, length-take-le}
use Rattle.std.specs.Prelude.{Option, Some, None, option_map}
use Rattle.rules.specs.Lists.{first, keep, All, Pairwise}
use Rattle.rules.specs.RoomAndSoundLedger.{Name, same, Seat, Place as RulesPlace, place, Booking as RulesBooking, Ledger, with_places, with_bookings, holds_place, seat_in, has_account, Sound}
use Rattle.rules.specs.AccountRules.{put, freed, has_id, booked, ended, drawn}
use Rattle.rules.proofs.Tests.{by_bool}
use Rattle.rules.proofs.Lists.{all_map, all_both, keep_all}
use Rattle.rules.proofs.Places.{more, length-put, account-holds}
use Rattle.rules.proofs.Bookings.{Below}
use Rattle.records.proofs.Rows.{map-set}
use Rattle.records.specs.declared.Booking.{Booking}
use Rattle.records.specs.Records.{booking}
use Rattle.room.specs.Contents.{contents, empty_place, empty_booking, place_for_name, booking_of_id, with_head, with_place, opened, closed, raised, lowered, renumbered, inserted_place, freed_place, appended_booking, removed_booking}
use Rattle.room.specs.Room.{place_record, place_number, booking_record, filled, head_in, contents_in}
use Rattle.room.proofs.Filled.{filled-set, filled_more, filled-opened, filled-closed}
use Rattle.room.proofs.Numbers.{number-below, put-replaces, number-replaced, place-for-at-most, put-opens, number-opened, freed-closes, number-freed}

-- ── lists of records ───────────────────────────────────────────────────────────────────────────

module _ {A B : Type 0} (f : A → B) where
  map-take : (n : ℕ) (xs : List A) → map f (take n xs) ≡ take n (map f xs)
  map-take zero xs = refl
  map-take (suc n) [] = refl
  map-take (suc n) (x ∷ xs) = ap (λ l. f x ∷ l) (map-take n xs)

  map-drop : (n : ℕ) (xs : List A) → map f (drop n xs) ≡ drop n (map f xs)
  map-drop zero xs = refl
  map-drop (suc n) [] = refl
  map-drop (suc n) (x ∷ xs) = map-drop n xs

  map_same : (g : A → B) (xs : List A) → All (λ x. f x ≡ g x) xs → map f xs ≡ map g xs
  map_same g [] h = refl
  map_same g (x ∷ xs) (h, k) = ap₂ ◌∷◌ h (map_same g xs k)

  -- a table of records, with a record put in, taken out, or added
  table-opened : (n : ℕ) (empty : B) (xs : List A) (i : ℕ) (x : A) → i ≤ length xs → length xs < n
      → opened i (length xs) (f x) (filled n empty (map f xs)) ≡ filled n empty (map f (take i xs ++ x ∷ drop i xs))
  table-opened n empty xs i x h k =
      let l : length (map f xs) ≡ length xs = length-map xs f in
      ap (λ m. opened i m (f x) (filled n empty (map f xs))) (sym l)
      ∙ filled-opened n empty (map f xs) i (f x) (rw l h) (rw l k)
      ∙ ap (filled n empty) (sym (map-append f (take i xs) (x ∷ drop i xs) ∙ ap₂ (λ u v. u ++ f x ∷ v) (map-take i xs) (map-drop i xs)))

  table-closed : (n : ℕ) (empty : B) (xs : List A) (i : ℕ) → i < length xs → length xs ≤ n
      → closed i (length xs) empty (filled n empty (map f xs)) ≡ filled n empty (map f (take i xs ++ drop (suc i) xs))
  table-closed n empty xs i h k =
      let l : length (map f xs) ≡ length xs = length-map xs f in
      ap (λ m. closed i m empty (filled n empty (map f xs))) (sym l)
      ∙ filled-closed n empty (map f xs) i (rw l h) (rw l k)
      ∙ ap (filled n empty) (sym (map-append f (take i xs) (drop (suc i) xs) ∙ ap₂ ◌++◌ (map-take i xs) (map-drop (suc i) xs)))

  table_more : (n : ℕ) (empty : B) (xs : List A) (x : A) → length xs < n → set (filled n empty (map f xs)) (length xs) (f x) ≡ filled n empty (map f (xs ++ x ∷ []))
  table_more n empty xs x h =
      let l : length (map f xs) ≡ length xs = length-map xs f in
      ap (λ m. set (filled n empty (map f xs)) m (f x)) (sym l) ∙ filled_more n empty (map f xs) (f x) (rw l h) ∙ ap (filled n empty) (sym (map-append f xs (x ∷ [])))

map-twice : {A B C : Type 0} (g : B → C) (f : A → B) (h : A → C) (xs : List A) → All (λ x. g (f x) ≡ h x) xs → map g (map f xs) ≡ map h xs
map-twice g f h [] e = refl
map-twice g f h (x ∷ xs) (e, k) = ap₂ ◌∷◌ e (map-twice g f h xs k)

-- the bookings in use, renumbered
renumbered-table : (g : Booking → Booking) (n : ℕ) (bs : List Booking) → renumbered g (length bs) (filled n empty_booking bs) ≡ filled n empty_booking (map g bs)
unfolding renumbered filled
renumbered-table g n bs =
    let l : length (map g bs) ≡ length bs = length-map bs g in
    rw (take_at bs (replicate (n - length bs) empty_booking) (length bs) refl, drop_at bs (replicate (n - length bs) empty_booking) (length bs) refl, l)

-- ── a step and the ledger after it ─────────────────────────────────────────────────────────────

module _ (L : Ledger) (sound : Sound L) where
  abbrev ps : List RulesPlace
  ps = L.places

  abbrev bs : List RulesBooking
  bs = L.bookings

  -- the airline of a live booking holds a place
  owners-held : All (λ b. holds_place b.name ps ≡ true) bs
  owners-held = all_map (λ b. has_account (seat_in b.name ps).account ≡ true) (λ b. holds_place b.name ps ≡ true) (λ b h. account-holds b.name ps h) bs sound.accounts_exist

  owned : (b : RulesBooking) {m n : ℕ} → m ≡ n → booking b.id b.amount m ≡ booking b.id b.amount n
  owned b e = ap (booking b.id b.amount) e

  -- bookings whose owners get their new numbers
  renumber : (g : Booking → Booking) (qs : List RulesPlace) → All (λ b. g (booking_record ps b) ≡ booking_record qs b) bs
      → renumbered g (length bs) (filled L.R empty_booking (map (booking_record ps) bs)) ≡ filled L.R empty_booking (map (booking_record qs) bs)
  renumber g qs h =
      let l : length (map (booking_record ps) bs) ≡ length bs = length-map bs (booking_record ps) in
      ap (λ n. renumbered g n (filled L.R empty_booking (map (booking_record ps) bs))) (sym l)
      ∙ renumbered-table g L.R (map (booking_record ps) bs)
      ∙ ap (filled L.R empty_booking) (map-twice g (booking_record ps) (booking_record qs) bs h)

  -- a seat written where the name holds a place
  pub seat-replaced : (a : Name) (s : Seat) → holds_place a ps ≡ true → with_place (place_number a ps) (place_record (place a s)) (contents_in L) ≡ contents_in (with_places L (put a s ps))
  unfolding contents_in
  seat-replaced a s h =
      let within : place_number a ps < length (map place_record ps) = rw (length-map ps place_record) (number-below a ps h) in
      let count : length ps ≡ length (put a s ps) = sym (length-put a s ps sound.names_ascend ∙ ap (λ b. more b + length ps) h ∙ omega arith) in
      let places = filled-set L.T empty_place (map place_record ps) (place_number a ps) (place_record (place a s)) within
      ∙ ap (filled L.T empty_place) (sym (map-set place_record ps (place_number a ps) (place a s)) ∙ ap (map place_record) (sym (put-replaces a s ps sound.names_ascend h))) in
      let bookings = map_same (booking_record ps) (booking_record (put a s ps)) bs
      (all_map (λ b. holds_place b.name ps ≡ true) _ (λ b _. owned b (sym (number-replaced a s b.name ps sound.names_ascend h))) bs owners-held) in
      λ i. contents (record { names = L.T; reservations = L.R; used = count i; live = length bs }) (head_in L) (places i) (filled L.R empty_booking (bookings i))

  -- a seat written for a name that holds no place
  pub place-inserted : (a : Name) (s : Seat) → holds_place a ps ≡ false → length ps < L.T
      → inserted_place (place_for_name a (map place_record ps)) (place_record (place a s)) (contents_in L) ≡ contents_in (with_places L (put a s ps))
  unfolding contents_in inserted_place
  place-inserted a s h room =
      let at = place_for_name a (map place_record ps) in
      let count : suc (length ps) ≡ length (put a s ps) = sym (length-put a s ps sound.names_ascend ∙ ap (λ b. more b + length ps) h ∙ omega arith) in
      let places = table-opened place_record L.T empty_place ps at (place a s) (place-for-at-most a s ps) room
      ∙ ap (λ qs. filled L.T empty_place (map place_record qs)) (sym (put-opens a s ps h)) in
      let numbers = renumber (raised at) (put a s ps) (all_map (λ b. holds_place b.name ps ≡ true) _ (λ b k. sym (owned b (number-opened a s b.name ps h k))) bs owners-held) in
      λ i. contents (record { names = L.T; reservations = L.R; used = count i; live = length bs }) (head_in L) (places i) (numbers i)

  -- a name's place freed; its airline has no live booking
  pub place-freed : (a : Name) → holds_place a ps ≡ true → All (λ b. same b.name a ≡ false) bs → freed_place (place_number a ps) (contents_in L) ≡ contents_in (with_places L (freed a ps))
  unfolding contents_in freed_place
  place-freed a h none-live =
      let at = place_number a ps in
      let below = number-below a ps h in
      let closes = freed-closes a ps sound.names_ascend h in
      let count : pred (length ps) ≡ length (freed a ps) = sym (ap length closes ∙ length-append (take at ps) (drop (suc at) ps) ∙ ap₂ ◌+◌ (length-take-le at ps (omega arith)) (length-drop (suc at) ps) ∙ omega arith) in
      let places = table-closed place_record L.T empty_place ps at below sound.names_fit ∙ ap (λ qs. filled L.T empty_place (map place_record qs)) (sym closes) in
      let numbers = renumber (lowered at) (freed a ps)
      (all_both (λ b. holds_place b.name ps ≡ true) (λ b. same b.name a ≡ false) _ (λ b k n. sym (owned b (number-freed a b.name ps sound.names_ascend h k n))) bs owners-held none-live) in
      λ i. contents (record { names = L.T; reservations = L.R; used = count i; live = length bs }) (head_in L) (places i) (numbers i)

-- ── bookings ───────────────────────────────────────────────────────────────────────────────────

-- on any ledger: between a seat written and its booking added or ended, the ledger is not sound
module _ (L : Ledger) where
  -- a booking added
  pub booking-added : (b : RulesBooking) → length L.bookings < L.R → appended_booking (booking_record L.places b) (contents_in L) ≡ contents_in (with_bookings L (L.bookings ++ b ∷ []))
  unfolding contents_in appended_booking
  booking-added b room =
      let count : suc (length L.bookings) ≡ length (L.bookings ++ b ∷ []) = sym (length-append L.bookings (b ∷ []) ∙ omega arith) in
      let bookings = table_more (booking_record L.places) L.R empty_booking L.bookings b room in
      λ i. contents (record { names = L.T; reservations = L.R; used = length L.places; live = count i }) (head_in L) (filled L.T empty_place (map place_record L.places)) (bookings i)

  -- a booking ended
  pub booking-ended : (id i : ℕ) → length L.bookings ≤ L.R → i < length L.bookings → ended id L.bookings ≡ take i L.bookings ++ drop (suc i) L.bookings
      → removed_booking i (contents_in L) ≡ contents_in (with_bookings L (ended id L.bookings))
  unfolding contents_in removed_booking
  booking-ended id i fit below closes =
      let count : pred (length L.bookings) ≡ length (ended id L.bookings) =
      sym (ap length closes ∙ length-append (take i L.bookings) (drop (suc i) L.bookings) ∙ ap₂ ◌+◌ (length-take-le i L.bookings (omega arith)) (length-drop (suc i) L.bookings) ∙ omega arith) in
      let bookings = table-closed (booking_record L.places) L.R empty_booking L.bookings i below fit ∙ ap (λ cs. filled L.R empty_booking (map (booking_record L.places) cs)) (sym closes) in
      λ j. contents (record { names = L.T; reservations = L.R; used = length L.places; live = count j }) (head_in L) (filled L.T empty_place (map place_record L.places)) (bookings j)

  -- "next id grows by 1"
  pub id-drawn : with_head (head_in (drawn L)) (contents_in L) ≡ contents_in (drawn L)
  unfolding contents_in
  id-drawn = refl

-- ── a live booking found by its id ─────────────────────────────────────────────────────────────

-- what a look-up by id says of the bookings of a ledger
pub data BookingFound (id : ℕ) (bs : List RulesBooking) : Option ℕ → Type 0 where
  live_at : {i : ℕ} (b : RulesBooking) → i < length bs → get_or bs i b ≡ b → booked id bs ≡ some b → ended id bs ≡ take i bs ++ drop (suc i) bs → BookingFound id bs (Some i)
  not_live : booked id bs ≡ none → BookingFound id bs None

module _ (ps : List RulesPlace) (id : ℕ) where
  -- a booking of another id in front
  behind : (c : RulesBooking) (bs : List RulesBooking) → has_id id c ≡ false → (f : Option ℕ) → BookingFound id bs f → BookingFound id (c ∷ bs) (option_map suc f)
  unfolding booked ended first keep
  behind c bs e (Some i) (live_at b below at is ends) = live_at {i = suc i} b (omega arith) at (rw e is) (rw e (ap (λ l. c ∷ l) ends))
  behind c bs e None (not_live is) = not_live (rw e is)

  here : (c : RulesBooking) (bs : List RulesBooking) → has_id id c ≡ true → booked id (c ∷ bs) ≡ some c
  unfolding booked first
  here c bs e = rw e

  -- no later booking has the id
  alone : (c : RulesBooking) (bs : List RulesBooking) → has_id id c ≡ true → All (Below c) bs → ended id (c ∷ bs) ≡ bs
  unfolding ended keep
  alone c bs e above =
      let q : id ≡ c.id = eqb-true id c.id e in
      let rest : ended id bs ≡ bs = keep_all _ bs (all_map (Below c) (λ b. not (has_id id b) ≡ true) (λ b l. rw (ne_eqb id b.id (omega arith))) bs above) in
      rw e rest

  pub booking-found : (bs : List RulesBooking) → Pairwise Below bs → BookingFound id bs (booking_of_id id (map (booking_record ps) bs))
  unfolding booking_of_id
  booking-found [] ascend = not_live (unfold booked first in refl)
  booking-found (c ∷ bs) (above, ascend) = by_bool (λ t. has_id id c ≡ t → BookingFound id (c ∷ bs) (cond t (Some 0) (option_map suc (booking_of_id id (map (booking_record ps) bs))))) (has_id id c)
      (λ _ e. live_at c (omega arith) refl (here c bs e) (alone c bs e above))
      (λ _ e. behind c bs e (booking_of_id id (map (booking_record ps) bs)) (booking-found bs ascend)) refl
