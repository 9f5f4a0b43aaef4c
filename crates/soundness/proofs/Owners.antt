-- A place's number and its name say the same where names ascend strictly: a place is found by its name at its own number, two places have one name
-- just where they have one number, and so what the bookings reserve for a number is what they reserve for its name.
use mathlib.Core.Path.{◌≡◌, sym, ◌∙◌, ap}
use mathlib.Core.Bool.{false, cond}
use mathlib.Core.List.{List, [], ◌∷◌, map}
use Prim.Native.Nat.{Ordering}
use Prim.Native.Nat.{ℕ, zero, suc, ◌<◌}
use native.Mathlib.Omega.{arith}
use borrow.Author.Tests.{eqb-true, eqb-false}
use lib.Dec.{eqb}
use lib.ListN.{length, get_or}
use Rattle.rules.specs.Lists.{sum, All, Pairwise}
use Rattle.rules.specs.RoomAndSoundLedger.{Name, order, same, Place, share, reserved_for, Before}
use Rattle.rules.proofs.Tests.{by_bool}
use Rattle.rules.proofs.Lists.{all_map}
use Rattle.rules.proofs.Names.{same_self, same_false, other, lt-other}
use Rattle.rules.proofs.Places.{Over}
use Rattle.records.specs.declared.Booking.{Booking}
use Rattle.room.specs.Room.{place_number}
use Rattle.room.proofs.Decoding.{nowhere, booking_in}
use Rattle.soundness.specs.Facts.{share_of}
use Rattle.soundness.proofs.Indices.{at-index, sum-images}

-- the name of the place of a number
abbrev pub name_at : List Place → ℕ → Name
name_at ps i = (get_or ps i nowhere).name

-- a later name is another one, seen from behind too
later-other : (a b : Name) → order a b ≡ Ordering.lt → same b a ≡ false
later-other a b e = other b a (λ q. same_false a b (lt-other a b e) (sym q))

pub number_at : (ps : List Place) (i : ℕ) → Pairwise Before ps → i < length ps → place_number (name_at ps i) ps ≡ i
unfolding place_number
number_at [] i h l = absurd (omega arith)
number_at (p ∷ ps) zero (h, k) l = rw (same_self p.name)
number_at (p ∷ ps) (suc i) (h, k) l =
    let n : same (name_at ps i) p.name ≡ false = later-other p.name (name_at ps i) (at-index (Over p.name) ps i nowhere h (omega arith)) in
    rw n (ap suc (number_at ps i k (omega arith)))

module _ (ps : List Place) (ascend : Pairwise Before ps) (i : ℕ) (within : i < length ps) where
  -- a name is another's just where its number is
  same_number : (j : ℕ) → j < length ps → same (name_at ps i) (name_at ps j) ≡ eqb i j
  same_number j l = by_bool (λ b. same (name_at ps i) (name_at ps j) ≡ b) (eqb i j)
      (λ e. ap (λ k. same (name_at ps i) (name_at ps k)) (sym (eqb-true i j e)) ∙ same_self (name_at ps i))
      (λ e. other (name_at ps i) (name_at ps j) (λ q. eqb-false i j e (sym (number_at ps i ascend within) ∙ ap (λ a. place_number a ps) q ∙ number_at ps j ascend l)))

  pub reserved-at : (bs : List Booking) → All (λ b. b.owner < length ps) bs → reserved_for (name_at ps i) (map (booking_in ps) bs) ≡ sum (share_of i) bs
  unfolding reserved_for
  reserved-at bs h = sum-images (booking_in ps) (share (name_at ps i)) (share_of i) bs
      (all_map (λ b. b.owner < length ps) (λ b. share (name_at ps i) (booking_in ps b) ≡ share_of i b) (λ b l. ap (λ t. cond t b.amount.0 0) (same_number b.owner l)) bs h)
