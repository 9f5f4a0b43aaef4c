-- The room of a sound ledger is all that the look-ups ask for, and what they search are the ledger's own places and bookings: each field is read off the
-- contents that such a room holds, and what the ledger's places keep to, their records keep to.
use mathlib.Core.Path.{◌≡◌, ap, ◌∙◌}
use mathlib.Core.List.{List, map}
use Prim.Native.Nat.{ℕ, ◌<◌}
use native.Mathlib.Omega.{arith}
use lib.ListN.{length, length-map}
use lib.Seq.{take_at}
use Rattle.rules.specs.Lists.{All, Pairwise}
use Rattle.rules.specs.RoomAndSoundLedger.{IsName, Place, Ledger, Before}
use Rattle.rules.proofs.Lists.{all_map}
use Rattle.rules.proofs.Keys.{pairwise_map, all-images, pairwise-images}
use Rattle.names.specs.Names.{IsStored}
use Rattle.names.proofs.Storing.{spelled-stored, stored-is-stored}
use Rattle.records.specs.Records.{head_of, sizes_of}
use Rattle.room.specs.Contents.{contents_of, Sized, used_places, live_bookings, NameBefore, Searchable}
use Rattle.room.specs.Room.{place_record, booking_record, filled, head_in, sizes_in, contents_in, IsRoom, SoundRoom}

-- the record of a place has its name in the stored form, and two records stand in the order of their places
record-stored : (p : Place) → IsName p.name → IsStored (place_record p).name
unfolding place_record
record-stored p h = stored-is-stored p.name h.fits

pub record-before : (p q : Place) → Before p q → NameBefore (place_record p) (place_record q)
unfolding place_record
record-before p q e = rw (spelled-stored p.name, spelled-stored q.name) e

module _ (xs : List ℕ) (L : Ledger) (room : IsRoom xs L) where
  pub sizes-are : sizes_of xs ≡ sizes_in L
  unfolding contents_of contents_in
  sizes-are = ap (λ c. c.sizes) room.holds

  pub head-is : head_of xs ≡ head_in L
  unfolding contents_of contents_in
  head-is = ap (λ c. c.head) room.holds

  pub places-are : used_places (contents_of xs) ≡ map place_record L.places
  unfolding contents_in filled
  places-are = ap used_places room.holds ∙ take_at (map place_record L.places) _ (length L.places) (length-map L.places place_record)

  pub bookings-are : live_bookings (contents_of xs) ≡ map (booking_record L.places) L.bookings
  unfolding contents_in filled
  bookings-are = ap live_bookings room.holds ∙ take_at (map (booking_record L.places) L.bookings) _ (length L.bookings) (length-map L.bookings (booking_record L.places))

  pub sized : Sized xs
  sized =
      let names : (sizes_of xs).names ≡ L.T = ap (λ s. s.names) sizes-are in
      let reservations : (sizes_of xs).reservations ≡ L.R = ap (λ s. s.reservations) sizes-are in
      let used : (sizes_of xs).used ≡ length L.places = ap (λ s. s.used) sizes-are in
      let live : (sizes_of xs).live ≡ length L.bookings = ap (λ s. s.live) sizes-are in
      let sound = room.sound in
      record {
        names = omega (arith, sound.names_in_range);
        reservations = omega (arith, sound.reservations_in_range);
        size = omega (arith, room.size);
        used = omega (arith, sound.names_fit);
        live = omega (arith, sound.reservations_fit);
      }

  pub names_stored : All (λ p. IsStored p.name) (used_places (contents_of xs))
  names_stored =
      rw places-are
      (all-images place_record (λ p. IsStored p.name) L.places
      (all_map (λ p. IsName p.name) (λ p. IsStored (place_record p).name) (λ p h. record-stored p h) L.places room.sound.are_names))

  names_ascend : Pairwise NameBefore (used_places (contents_of xs))
  names_ascend = rw places-are (pairwise-images place_record NameBefore L.places (pairwise_map Before _ record-before L.places room.sound.names_ascend))

  ids_ascend : Pairwise (λ b c. b.id.0 < c.id.0) (live_bookings (contents_of xs))
  ids_ascend = rw bookings-are (pairwise-images (booking_record L.places) (λ b c. b.id.0 < c.id.0) L.bookings room.sound.ids_ascend)

-- every sound room is all that a look-up asks for
pub searchable : (xs : List ℕ) → SoundRoom xs → Searchable xs
searchable xs room =
    let L = room.ledger in
    let is = room.is_room in
    record { sized = sized xs L is; names_stored = names_stored xs L is; names_ascend = names_ascend xs L is; ids_ascend = ids_ascend xs L is }
