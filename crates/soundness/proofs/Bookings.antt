-- Bookings that take what is reserved: a booking that may follow takes its amount, and what is left is for the others.
use Rattle.std.proofs.Common.{◌≡◌, ◌≢◌, refl, sym, ap, ◌∙◌, ⊎_elim, List, [], ◌∷◌, ℕ, ◌+◌, ◌-◌, ◌*◌, ◌≤◌, ◌<◌, length, get_or, set, drop, arith, eq-eqb, ne_eqb}
use Rattle.std.proofs.Math.ListN.{drop_of_length-le}
use Rattle.std.proofs.Math.Seq.{get_or-set_same, get_or-set_other}
use Rattle.rules.specs.Lists.{sum}
use Rattle.rules.proofs.Tests.{equal_or_not}
use Rattle.rules.proofs.Lists.{all_map}
use Rattle.records.specs.Layout.{booking_size}
use Rattle.records.specs.Rows.{row}
use Rattle.records.specs.Records.{booking_of, bookings}
use Rattle.records.specs.declared.Booking.{Booking}
use Rattle.records.proofs.Rows.{table-length}
use Rattle.soundness.specs.Facts.{share_of}
use Rattle.soundness.specs.Steps.{ZeroBelow, Follows, Booked}
use Rattle.soundness.proofs.Tables.{table-from}

share-own : (i : ℕ) (b : Booking) → i ≡ b.owner → share_of i b ≡ b.amount.0
share-own i b e = rw (eq-eqb i b.owner e)

share_other : (i : ℕ) (b : Booking) → i ≢ b.owner → share_of i b ≡ 0
share_other i b n = rw (ne_eqb i b.owner n)

-- what is reserved after a booking took its amount
abbrev pub taken : Booking → List ℕ → List ℕ
taken b reserved = set reserved b.owner (get_or reserved b.owner 0 - b.amount.0)

taken-share : (b : Booking) (reserved : List ℕ) (i : ℕ) → b.owner < length reserved → b.amount.0 ≤ get_or reserved b.owner 0 → share_of i b + get_or (taken b reserved) i 0 ≡ get_or reserved i 0
taken-share b reserved i within enough =
    let rest = get_or reserved b.owner 0 - b.amount.0 in
    ⊎_elim
    (λ e.
    let here : get_or (taken b reserved) i 0 ≡ rest = ap (λ j. get_or (taken b reserved) j 0) e ∙ get_or-set_same reserved b.owner rest 0 within in
    let was : get_or reserved i 0 ≡ get_or reserved b.owner 0 = ap (λ j. get_or reserved j 0) e in
    omega (arith, share-own i b e))
    (λ n. omega (arith, share_other i b n, get_or-set_other reserved b.owner i rest 0 n))
    (equal_or_not i b.owner)

-- bookings of which this is the first, and these are the rest
module _ (last next used : ℕ) (reserved : List ℕ) (b : Booking) (bs rest : List Booking) (from : bs ≡ b ∷ rest) where
  pub first-follows : Booked last next used reserved bs → Follows last next used b
  first-follows h = let k = rw from at h in (k.after.0, k.sound.each.0)

  pub first-within : Booked last next used reserved bs → b.amount.0 ≤ get_or reserved b.owner 0
  unfolding sum
  first-within h = let k = rw from at h in omega (arith, k.sums b.owner k.sound.each.0.owner, share-own b.owner b refl)

  module _ (follows : Follows last next used b) (few : used ≤ length reserved) (enough : b.amount.0 ≤ get_or reserved b.owner 0) where
    shared : (i : ℕ) → share_of i b + get_or (taken b reserved) i 0 ≡ get_or reserved i 0
    shared i = let owner = follows.1.owner in taken-share b reserved i (omega arith) enough

    pub booked-rest : Booked last next used reserved bs → Booked b.id.0 next used (taken b reserved) rest
    unfolding sum
    booked-rest h =
        let k = rw from at h in
        record {
          sound = record { each = k.sound.each.1; ascend = k.sound.ascend.1 };
          after = k.sound.ascend.0;
          sums = λ i l. omega (arith, k.sums i l, shared i);
        }

    pub booked-first : Booked b.id.0 next used (taken b reserved) rest → Booked last next used reserved bs
    unfolding sum
    booked-first h = rw from (record {
      sound = record { each = (follows.1, h.sound.each); ascend = (h.after, h.sound.ascend) };
      after = (follows.0, all_map (λ d. b.id.0 < d.id.0) (λ d. last < d.id.0) (λ d l. omega (arith, follows.0)) rest h.after);
      sums = λ i l. omega (arith, h.sums i l, shared i);
    })

module _ (last next used : ℕ) (reserved : List ℕ) where
  -- with no booking left, nothing may be left
  pub booked-none : ZeroBelow used reserved → Booked last next used reserved []
  unfolding sum
  booked-none z = record { sound = record { each = tt; ascend = tt }; after = tt; sums = z }

  pub none-booked : Booked last next used reserved [] → ZeroBelow used reserved
  unfolding sum
  none-booked h = h.sums

-- the bookings from j on are the one that is loaded and the rest; past the last there is none
module _ (base live : ℕ) (room : List ℕ) (j : ℕ) where
  pub live-from : (b : Booking) → b ≡ booking_of (row booking_size (base + booking_size * j) room) → j < live → drop j (bookings base live room) ≡ b ∷ drop (j + 1) (bookings base live room)
  live-from b e h = table-from booking_of booking_size base room live j h ∙ ap (λ d. d ∷ drop (j + 1) (bookings base live room)) (sym e)

  pub live-end : live ≤ j → drop j (bookings base live room) ≡ []
  live-end h = drop_of_length-le (bookings base live room) {i = j} (omega (arith, table-length booking_of booking_size base live room))
