-- A booking among the live ones by its id, by FirstPlace; and that ids which ascend divide at the one sought, which is all that Halving asks.
use mathlib.Core.Path.{◌≡◌, refl}
use mathlib.Core.Bool.{Bool}
use mathlib.Core.List.{List, [], ◌∷◌}
use Prim.Native.Nat.{ℕ, ◌<◌}
use native.Mathlib.Omega.{arith}
use borrow.Author.Tests.{eqb-true, ne_eqb}
use lib.Dec.{eqb}
use Rattle.records.specs.declared.Booking.{Booking}
use Rattle.std.specs.Prelude.{Option}
use Rattle.room.specs.Contents.{booking_of_id}
use Rattle.lookup.proofs.FirstPlace.{first_place, FirstIs, first-only}
use Rattle.lookup.proofs.Halving.{Divides}

abbrev pub has_id : ℕ → Booking → Bool
has_id id b = eqb id b.id.0

module _ (id : ℕ) where
  booking-first : (bs : List Booking) → booking_of_id id bs ≡ first_place (has_id id) bs
  unfolding booking_of_id
  booking-first [] = refl
  booking-first (b ∷ bs) = rw (booking-first bs)

  -- only the index of a booking says this of the list
  pub booking-only : (d : Booking) (bs : List Booking) (r : Option ℕ) → FirstIs (has_id id) d bs r → r ≡ booking_of_id id bs
  booking-only d bs r h = rw booking-first (first-only (has_id id) d bs r h)

  -- ids that ascend divide at the one sought
  pub ids-divide : Divides (λ b c. b.id.0 < c.id.0) (has_id id) (λ b. b.id.0 < id) (λ b. id < b.id.0)
  ids-divide =
      record {
        lower = λ b c l h. omega arith;
        higher = λ b c l h. omega arith;
        at = λ b c l t. omega (arith, eqb-true id c.id.0 t);
        below = λ b h. ne_eqb id b.id.0 (λ e. omega arith);
        above = λ b h. ne_eqb id b.id.0 (λ e. omega arith);
      }
