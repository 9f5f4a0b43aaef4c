-- `records::write_booking` meets its contract: its numbers, one after the other, fill the part.
use mathlib.Core.Path.{◌≡◌, refl, ◌∙◌}
use native.Mathlib.Omega.{arith}
use Rattle.numbers.specs.LittleEndian.{little_bytes}
use Rattle.records.specs.Layout.{amount_offset, owner_offset, booking_size, booking_widths}
use Rattle.records.specs.Rows.{put}
use Rattle.records.specs.Records.{booking_numbers, booking_bytes}
use Rattle.records.proofs.Rows.{put_all}
use Rattle.records.proofs.Fields.{fields-written}
use Rattle.records.proofs.write_booking.Goals as goal

pub returns : goal.returns
returns c =
    let part = c.args.part.now in
    let k = c.args.booking in
    let id : _ ≡ little_bytes 8 k.id.0 = c.write8.ensures in
    let amount : _ ≡ little_bytes 8 k.amount.0 = c.write8-2.ensures in
    let owner : _ ≡ little_bytes 2 k.owner = c.write2.ensures in
    (λ j. put owner_offset 2 (put amount_offset 8 (put 0 8 part (id j)) (amount j)) (owner j))
    ∙ fields-written 0 booking_widths (booking_numbers k) part refl (omega (arith, c.requires))
    ∙ put_all booking_size part (booking_bytes k) c.requires
