-- A seat written in the room of a sound ledger: what each way of writing it needs, and what the room then holds.
use mathlib.Core.Path.{◌≡◌, refl, sym, ◌∙◌, ap}
use mathlib.Core.Bool.{Bool, true, false, cond}
use mathlib.Core.List.{List, map}
use mathlib.Core.Option.{none}
use Prim.Native.Nat.{ℕ, ◌≤◌, ◌<◌}
use native.Mathlib.Omega.{arith}
use borrow.Author.Tests.{lt-ltb, le-ltb}
use lib.ListN.{length}
use Rattle.std.specs.Prelude.{Option, Some, None, Ok, Err}
use Rattle.rules.specs.Lists.{All}
use Rattle.rules.specs.RoomAndSoundLedger.{Name, Place, Ledger, is_vacant, with_places, holds_place, seat_in, has_account}
use Rattle.rules.specs.AccountRules.{seated, has_room}
use Rattle.rules.proofs.Tests.{by_bool}
use Rattle.rules.proofs.Lists.{all_map}
use Rattle.rules.proofs.Keys.{all-images}
use Rattle.rules.proofs.Places.{account-holds}
use Rattle.moves.specs.Moves.{meaning, SeatSound}
use Rattle.moves.specs.declared.Seat.{Seat}
use Rattle.records.specs.declared.Place.{Place as Record}
use Rattle.records.specs.declared.Sizes.{Sizes}
use Rattle.records.specs.Records.{sizes_of}
use Rattle.room.specs.Contents.{contents_of, used_places, live_bookings, place_of_name, place_for_name, inserted_place, freed_place}
use Rattle.room.specs.Room.{place_with, place_record, place_number, booking_record, contents_in, IsRoom}
use Rattle.room.specs.Seats.{with_seat}
use Rattle.room.proofs.Numbers.{found_number, number-below, place-for-at-most}
use Rattle.room.proofs.Seating.{seat-kept, seat-opened, seat-freed, seat-nowhere}
use Rattle.room.proofs.SoundRoom.{sizes-are, places-are, bookings-are}
use Rattle.tables.specs.Steps.{CanRise}
use Rattle.refusals.specs.declared.Refusal.TheVariants.{NamesFull}
use Rattle.seats.specs.Writing.{WritesSeat}

-- ── what a look-up found ───────────────────────────────────────────────────────────────────────

module _ (held : Bool) (n : ℕ) where
  held_at : (i : ℕ) → cond held (Some n) None ≡ Some i → (held ≡ true) × (i ≡ n)
  held_at i = by_bool (λ b. cond b (Some n) None ≡ Some i → (b ≡ true) × (i ≡ n)) held (λ _ e. (refl, cc)) (λ _ e. absurd (let z : ◌≡◌ {A = ℕ} 0 1 = cc in omega arith))

  held-nowhere : cond held (Some n) None ≡ None → held ≡ false
  held-nowhere = by_bool (λ b. cond b (Some n) None ≡ None → b ≡ false) held (λ _ e. absurd (let z : ◌≡◌ {A = ℕ} 0 1 = cc in omega arith)) (λ _ e. refl)

module _ (L : Ledger) (xs : List ℕ) (room : IsRoom xs L) where
  abbrev ps : List Place
  ps = L.places

  module _ (a : Name) (found : Option ℕ) (is : found ≡ place_of_name a (used_places (contents_of xs))) where
    found_is : found ≡ cond (holds_place a ps) (Some (place_number a ps)) None
    found_is = is ∙ ap (place_of_name a) (places-are xs L room) ∙ found_number a ps

    pub found-held : (i : ℕ) → found ≡ Some i → (holds_place a ps ≡ true) × (i ≡ place_number a ps)
    found-held i e = held_at (holds_place a ps) (place_number a ps) i (sym found_is ∙ e)

    pub found_nowhere : found ≡ None → holds_place a ps ≡ false
    found_nowhere e = held-nowhere (holds_place a ps) (place_number a ps) (sym found_is ∙ e)

    pub found-in-use : (i : ℕ) → found ≡ Some i → i < (contents_of xs).sizes.used
    unfolding contents_of
    found-in-use i e = let h = found-held i e in omega (arith, ap (λ t. t.used) (sizes-are xs L room), number-below a ps h.0)

  -- what `load_sizes` gives
  pub sizes-read : (t : Sizes) → t ≡ sizes_of xs → (t.used ≡ length ps) × (t.names ≡ L.T)
  sizes-read t e = let q = e ∙ sizes-are xs L room in (ap (λ t. t.used) q, ap (λ t. t.names) q)

  -- the number of an owner's place is small
  pub owners-small : All CanRise (live_bookings (contents_of xs))
  owners-small =
      rw (bookings-are xs L room)
      (all-images (booking_record ps) CanRise L.bookings
      (all_map (λ b. has_account (seat_in b.name ps).account ≡ true) (λ b. CanRise (booking_record ps b))
      (λ b h. omega (arith, number-below b.name ps (account-holds b.name ps h), room.sound.names_fit, room.sound.names_in_range)) L.bookings room.sound.accounts_exist))

  pub one_more : length ps < L.T → (contents_of xs).sizes.used < (contents_of xs).sizes.names
  unfolding contents_of
  one_more left = omega (arith, sizes-read (sizes_of xs) refl)

  -- where a new name goes
  pub place-for : (a : Name) → place_for_name a (used_places (contents_of xs)) ≤ (contents_of xs).sizes.used
  unfolding contents_of
  place-for a = omega (arith, ap (λ t. t.used) (sizes-are xs L room), ap (place_for_name a) (places-are xs L room), place-for-at-most a (seat_in a ps) ps)

  -- ── the ways of writing ──────────────────────────────────────────────────────────────────────

  module _ (a : Name) (s : Seat) (ys : List ℕ) (size : length ys ≡ length xs) where
    abbrev after : Ledger
    after = with_places L (seated a (meaning s) ps)

    with_room : has_room a (meaning s) L ≡ true → contents_of ys ≡ contents_in after → WritesSeat a s L xs ys (Ok tt)
    with_room e h = record {
      answer = sym (ap (λ b. cond b (Ok tt) (Err NamesFull)) e);
      size = size;
      holds = h ∙ sym (ap (λ b. cond b (contents_in after) (contents_in L)) e);
    }

    -- where the name holds a place
    pub keeps : SeatSound s → is_vacant (meaning s) ≡ false → (i : ℕ) → (holds_place a ps ≡ true) × (i ≡ place_number a ps) → contents_of ys ≡ with_seat i s (contents_of xs) → WritesSeat a s L xs ys (Ok tt)
    keeps known taken i (held, at) h =
        with_room (rw (taken, held)) (h ∙ ap (λ j. with_seat j s (contents_of xs)) at ∙ ap (with_seat (place_number a ps) s) room.holds ∙ seat-kept L room.sound a s known taken held)

    pub frees : is_vacant (meaning s) ≡ true → (seat_in a ps).account ≡ none → (i : ℕ) → (holds_place a ps ≡ true) × (i ≡ place_number a ps) → contents_of ys ≡ freed_place i (contents_of xs) → WritesSeat a s L xs ys (Ok tt)
    frees vacant without i (held, at) h =
        with_room (rw vacant) (h ∙ ap (λ j. freed_place j (contents_of xs)) at ∙ ap (freed_place (place_number a ps)) room.holds ∙ seat-freed L room.sound a s vacant held without)

    -- where it holds none, and there is room: the place, and where it goes, are what other functions gave
    pub opens : SeatSound s → is_vacant (meaning s) ≡ false → holds_place a ps ≡ false → length ps < L.T → (i : ℕ) → i ≡ place_for_name a (used_places (contents_of xs)) → (p : Record) → p ≡ place_with s a
        → contents_of ys ≡ inserted_place i p (contents_of xs) → WritesSeat a s L xs ys (Ok tt)
    opens known taken held left i at p is h =
        with_room (rw (taken, held, lt-ltb (length ps) L.T left))
        (h ∙ (λ j. inserted_place (at j) (is j) (contents_of xs)) ∙ ap (λ qs. inserted_place (place_for_name a qs) (place_with s a) (contents_of xs)) (places-are xs L room)
        ∙ ap (inserted_place (place_for_name a (map place_record ps)) (place_with s a)) room.holds ∙ seat-opened L room.sound a s known taken held left)

  module _ (a : Name) (s : Seat) where
    -- nothing to free
    pub leaves : is_vacant (meaning s) ≡ true → holds_place a ps ≡ false → WritesSeat a s L xs xs (Ok tt)
    leaves vacant held = with_room a s xs refl (rw vacant) (room.holds ∙ seat-nowhere L room.sound a s vacant held)

    pub full : is_vacant (meaning s) ≡ false → holds_place a ps ≡ false → length ps ≡ L.T → WritesSeat a s L xs xs (Err NamesFull)
    full taken held none_left =
        let e : has_room a (meaning s) L ≡ false = rw (taken, held, le-ltb (length ps) L.T (omega arith)) in
        record {
          answer = sym (ap (λ b. cond b (Ok tt) (Err NamesFull)) e);
          size = refl;
          holds = room.holds ∙ sym (ap (λ b. cond b (contents_in (with_places L (seated a (meaning s) ps))) (contents_in L)) e);
        }
