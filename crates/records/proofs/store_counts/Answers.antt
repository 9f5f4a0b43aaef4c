-- `records::store_counts` meets its contract: its numbers, one after the other.
use mathlib.Core.Path.{◌≡◌, refl, ◌∙◌}
use mathlib.Core.List.{[], ◌∷◌}
use native.Mathlib.Omega.{arith}
use Rattle.numbers.specs.LittleEndian.{little_bytes}
use Rattle.records.specs.Layout.{counts_offset, live_offset, pair_widths}
use Rattle.records.specs.Rows.{put}
use Rattle.records.proofs.Fields.{fields-written}
use Rattle.records.proofs.store_counts.Goals as goal

pub returns-clause-stored : goal.returns-clause-stored
returns-clause-stored c =
    let a = c.args in
    let used : _ ≡ little_bytes 8 a.used = c.write8.ensures in
    let live : _ ≡ little_bytes 8 a.live = c.write8-2.ensures in
    (λ j. put live_offset 8 (put counts_offset 8 a.room.now (used j)) (live j)) ∙ fields-written counts_offset pair_widths (a.used ∷ a.live ∷ []) a.room.now refl (omega (arith, c.requires))
