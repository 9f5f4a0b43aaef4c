-- The stores of a step, one after the other, make the step.
use mathlib.Core.Path.{◌≡◌, ap, ◌∙◌}
use Prim.Native.Nat.{ℕ, ◌+◌, ◌-◌}
use native.Mathlib.Numerals.{add-one, sub-one}
use lib.ListN.{set}
use Rattle.records.specs.declared.Place.{Place}
use Rattle.records.specs.declared.Booking.{Booking}
use Rattle.records.specs.declared.Sizes.{Sizes}
use Rattle.room.specs.Contents.{Contents, opened, closed, renumbered, raised, lowered, empty_place, empty_booking, inserted_place, freed_place, appended_booking, removed_booking}
use Rattle.tables.specs.Steps.{on_places, on_bookings, on_counts}

module _ (c : Contents) (t : Sizes) (e : t ≡ c.sizes) where
  pub inserted : (i : ℕ) (p : Place) → on_counts (t.used + 1) t.live (on_bookings (renumbered (raised i) t.live) (on_places (opened i t.used p) c)) ≡ inserted_place i p c
  unfolding inserted_place
  inserted i p =
      ap (λ (s : Sizes). on_counts (s.used + 1) s.live (on_bookings (renumbered (raised i) s.live) (on_places (opened i s.used p) c))) e
      ∙ ap (λ n. on_counts n c.sizes.live (inserted_place i p c)) (add-one c.sizes.used)

  pub freed : (i : ℕ) → on_counts (t.used - 1) t.live (on_bookings (renumbered (lowered i) t.live) (on_places (closed i t.used empty_place) c)) ≡ freed_place i c
  unfolding freed_place
  freed i =
      ap (λ (s : Sizes). on_counts (s.used - 1) s.live (on_bookings (renumbered (lowered i) s.live) (on_places (closed i s.used empty_place) c))) e
      ∙ ap (λ n. on_counts n c.sizes.live (freed_place i c)) (sub-one c.sizes.used)

  pub appended : (b : Booking) → on_counts t.used (t.live + 1) (on_bookings (λ bs. set bs t.live b) c) ≡ appended_booking b c
  unfolding appended_booking
  appended b =
      ap (λ (s : Sizes). on_counts s.used (s.live + 1) (on_bookings (λ bs. set bs s.live b) c)) e
      ∙ ap (λ n. on_counts c.sizes.used n (appended_booking b c)) (add-one c.sizes.live)

  pub removed : (i : ℕ) → on_counts t.used (t.live - 1) (on_bookings (closed i t.live empty_booking) c) ≡ removed_booking i c
  unfolding removed_booking
  removed i =
      ap (λ (s : Sizes). on_counts s.used (s.live - 1) (on_bookings (closed i s.live empty_booking) c)) e
      ∙ ap (λ n. on_counts c.sizes.used n (removed_booking i c)) (sub-one c.sizes.live)
