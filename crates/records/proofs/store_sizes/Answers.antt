-- `records::store_sizes` meets its contract: its numbers, one pair after the other.
use mathlib.Core.Path.{◌≡◌, refl, ap, ◌∙◌}
use mathlib.Core.List.{[], ◌∷◌}
use native.Mathlib.Omega.{arith}
use Rattle.numbers.specs.LittleEndian.{little_bytes}
use Rattle.records.specs.Layout.{reservations_offset, counts_offset, capacity_offset, pair_size, pair_widths}
use Rattle.records.specs.Rows.{put}
use Rattle.records.specs.Records.{pair_bytes}
use Rattle.records.proofs.Fields.{fields-written}
use Rattle.records.proofs.store_sizes.Goals as goal

pub returns-clause-stored : goal.returns-clause-stored
returns-clause-stored c =
    let room = c.args.room.now in
    let z = c.args.sizes in
    let names : _ ≡ little_bytes 8 z.names = c.write8.ensures in
    let reservations : _ ≡ little_bytes 8 z.reservations = c.write8-2.ensures in
    c.store_counts.ensures.stored
    ∙ (λ j. put counts_offset pair_size (put reservations_offset 8 (put capacity_offset 8 room (names j)) (reservations j)) (pair_bytes z.used z.live))
    ∙ ap (λ ys. put counts_offset pair_size ys (pair_bytes z.used z.live)) (fields-written capacity_offset pair_widths (z.names ∷ z.reservations ∷ []) room refl (omega (arith, c.requires)))
