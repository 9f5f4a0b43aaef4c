-- `records::write_place` meets its contract: its numbers, one after the other, and the name's bytes fill the part. The making of each smaller part gives its length.
use mathlib.Core.Path.{◌≡◌, refl, ap, ◌∙◌}
use native.Mathlib.Omega.{arith}
use Rattle.rules.specs.RoomAndSoundLedger.{longest_name}
use Rattle.numbers.specs.LittleEndian.{little_bytes}
use Rattle.records.specs.Layout.{place_size, remaining_offset, reserved_offset, committed_offset, limit_offset, account_offset, name_bytes_offset, name_offset, place_widths}
use Rattle.records.specs.Rows.{put, field_bytes}
use Rattle.records.specs.Records.{place_numbers, place_bytes}
use Rattle.records.proofs.Rows.{put_next, put_all}
use Rattle.records.proofs.Fields.{fields-length, fields-written}
use Rattle.records.proofs.write_place.Goals as goal

pub returns : goal.returns
returns c =
    let part = c.args.part.now in
    let p = c.args.place in
    let front = field_bytes place_widths (place_numbers p) in
    let initial : _ ≡ little_bytes 8 p.initial = c.write8.ensures in
    let remaining : _ ≡ little_bytes 8 p.remaining = c.write8-2.ensures in
    let reserved : _ ≡ little_bytes 8 p.reserved = c.write8-3.ensures in
    let committed : _ ≡ little_bytes 8 p.committed = c.write8-4.ensures in
    let limit : _ ≡ little_bytes 8 p.limit = c.write8-5.ensures in
    let account : _ ≡ little_bytes 1 p.account = c.write1.ensures in
    let length : _ ≡ little_bytes 1 p.name.length = c.write1-2.ensures in
    let bytes : _ ≡ p.name.bytes = c.copy_from_slice.ensures.after in
    (λ j. put name_bytes_offset longest_name (put name_offset 1 (put account_offset 1 (put limit_offset 8 (put committed_offset 8 (put reserved_offset 8 (put remaining_offset 8 (put 0 8 part (initial j)) (remaining j)) (reserved j)) (committed j)) (limit j)) (account j)) (length j)) (bytes j))
    ∙ ap (λ xs. put name_bytes_offset longest_name xs p.name.bytes) (fields-written 0 place_widths (place_numbers p) part refl (omega (arith, c.requires)))
    ∙ put_next 0 name_bytes_offset part front (omega (arith, c.requires)) (fields-length place_widths (place_numbers p) refl) longest_name p.name.bytes
    ∙ put_all place_size part (place_bytes p) c.requires
