-- `reads::sum_committed` meets its contract: each place adds what it has committed, and a part of the total that is above M says that all of it is. `search`
-- finds that what is told there comes to None: an edit that tells another value is refused at that value.
use mathlib.Core.Path.{sym, ◌∙◌}
use Prim.Native.Nat.{◌+◌}
use native.Mathlib.Omega.{arith}
use Rattle.room.proofs.SoundRoom.{sized}
use Rattle.reads.proofs.Sums.{sum-none}
use Rattle.reads.proofs.Totals.{committed_in, summed-above, summed-of, above-summed, within-summed, place-within, place-adds, committed-part, committed-all}
use Rattle.reads.proofs.sum_committed.Goals as goal

pub loop-i-init : goal.loop-i-init
loop-i-init c = record { sum = sym (sum-none committed_in _ (sized _ _ c.requires.is_room)); small = omega arith }

pub load_place-place-requires : goal.load_place-place-requires
load_place-place-requires c = place-within _ c.requires _ c.load_sizes-sizes.ensures _ c.loop-i-test.true

pub returns-in_default : goal.returns-in_default
returns-in_default c L room =
    let above = above-summed (c.loop-i.total + c.load_place-place.result.committed) c.in_default.ensures in
    let next = place-adds _ c.requires _ c.load_sizes-sizes.ensures _ c.loop-i-test.true committed_in _ c.load_place-place.ensures in
    summed-above _ _ (search) (omega (arith, above, next, c.loop-i.invariant.sum, committed-part _ L room (c.loop-i.i + 1)))

pub loop-i-preserved : goal.loop-i-preserved
loop-i-preserved c =
    let added = within-summed (c.loop-i.total + c.load_place-place.result.committed) c.in-Some.more c.in-Some.ensures in
    let next = place-adds _ c.requires _ c.load_sizes-sizes.ensures _ c.loop-i-test.true committed_in _ c.load_place-place.ensures in
    record { sum = omega (arith, added.0, next, c.loop-i.invariant.sum); small = added.1 }

pub returns : goal.returns
returns c L room = summed-of _ _ (c.loop-i.invariant.sum ∙ committed-all _ L room _ c.load_sizes-sizes.ensures _ c.loop-i-test.false) c.loop-i.invariant.small
