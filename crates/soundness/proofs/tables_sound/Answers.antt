-- `soundness::tables_sound` meets its contract: each test asks for one part of the tables (Parts), where those before it hold.
use Rattle.std.proofs.Common.{refl}
use Rattle.numbers.proofs.Bytes.{all-bytes}
use Rattle.room.specs.Contents.{contents_of}
use Rattle.soundness.specs.Facts.{TablesSound}
use Rattle.soundness.proofs.Deciding.{refuse, by_answer}
use Rattle.soundness.proofs.Parts.{places-part, unused-places-part, booked-part, unused-bookings-part, of_parts}
use Rattle.soundness.proofs.tables_sound.Goals as goal
use Rattle.soundness.proofs.tables_sound.Goals.{then-places_sound, else-places_sound, then-is_zero, else-is_zero, then-bookings_sound, else-bookings_sound}

pub returns-then-is_zero-2 : goal.returns-then-is_zero-2
returns-then-is_zero-2 c =
    let bytes = all-bytes c.args.room.now c.type_inv.room in
    elim c.if-bookings_sound.branch [
      | else-bookings_sound w ↦ cc
      | then-bookings_sound w ↦ elim c.if-is_zero.branch [
        | else-is_zero v ↦ cc
        | then-is_zero v ↦ elim c.if-places_sound.branch [
          | else-places_sound u ↦ cc
          | then-places_sound u ↦
              let noted = u.if-places_sound.ensures.noted refl in
              by_answer c.nothing_left.ensures
              (λ none. of_parts _ _ _ c.requires.read bytes c.requires.sized _ noted
              (u.if-places_sound.ensures.decides.holds refl) (u.is_zero.ensures.holds (cc))
              (v.bookings_sound.ensures.suffices (cc) (rw v.reserved-is at none)) (w.is_zero-then-bookings_sound.ensures.holds (cc)))
              (λ tables. rw v.reserved-is (v.bookings_sound.ensures.needed (cc) (booked-part _ _ _ c.requires.read bytes c.requires.sized tables _ noted)))
        ]
      ]
    ]

pub returns-else-is_zero-2 : goal.returns-else-is_zero-2
returns-else-is_zero-2 c =
    let bytes = all-bytes c.args.room.now c.type_inv.room in
    rw c.if-is_zero-2.false (refuse (λ (tables : TablesSound (contents_of c.args.room.now)). elim c.if-bookings_sound.branch [
      | then-bookings_sound w ↦ w.is_zero-then-bookings_sound.ensures.fails (cc) (unused-bookings-part _ _ _ c.requires.read bytes c.requires.sized tables)
      | else-bookings_sound w ↦ elim c.if-is_zero.branch [
        | then-is_zero v ↦ elim c.if-places_sound.branch [
          | then-places_sound u ↦ v.bookings_sound.ensures.fails (cc) (booked-part _ _ _ c.requires.read bytes c.requires.sized tables _ (u.if-places_sound.ensures.noted refl))
          | else-places_sound u ↦ cc
        ]
        | else-is_zero v ↦ elim c.if-places_sound.branch [
          | then-places_sound u ↦ u.is_zero.ensures.fails (cc) (unused-places-part _ _ _ c.requires.read bytes c.requires.sized tables)
          | else-places_sound u ↦ u.if-places_sound.ensures.decides.fails refl (places-part _ _ _ c.requires.read bytes c.requires.sized tables)
        ]
      ]
    ]))
