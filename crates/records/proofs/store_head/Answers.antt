-- `records::store_head` meets its contract: its numbers, one after the other.
use mathlib.Core.Path.{◌≡◌, refl, ◌∙◌}
use native.Mathlib.Omega.{arith}
use Rattle.numbers.specs.LittleEndian.{little_bytes}
use Rattle.records.specs.Layout.{ledger_head_offset, last_version_offset, baseline_offset, head_widths}
use Rattle.records.specs.Rows.{put}
use Rattle.records.specs.Records.{head_numbers}
use Rattle.records.proofs.Fields.{fields-written}
use Rattle.records.proofs.store_head.Goals as goal

pub returns-clause-stored : goal.returns-clause-stored
returns-clause-stored c =
    let room = c.args.room.now in
    let h = c.args.head in
    let next : _ ≡ little_bytes 8 h.next_id = c.write8.ensures in
    let version : _ ≡ little_bytes 8 h.last_version = c.write8-2.ensures in
    let baseline : _ ≡ little_bytes 8 h.baseline = c.write8-3.ensures in
    (λ j. put baseline_offset 8 (put last_version_offset 8 (put ledger_head_offset 8 room (next j)) (version j)) (baseline j)) ∙ fields-written ledger_head_offset head_widths (head_numbers h) room refl (omega (arith, c.requires))
