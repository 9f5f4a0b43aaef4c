-- `reads::accounts` meets its contract: each place that has an account counts for one.
use mathlib.Core.Path.{sym}
use native.Mathlib.Omega.{arith}
use Rattle.room.proofs.SoundRoom.{sized}
use Rattle.reads.proofs.Sums.{sum-none}
use Rattle.reads.proofs.Totals.{counted, counted-one, counted_none, place-within, place-adds, count-is}
use Rattle.reads.proofs.accounts.Goals as goal
use Rattle.reads.proofs.accounts.Goals.{then-place-ne0, else-place-ne0}

pub loop-at-init : goal.loop-at-init
loop-at-init c = record { sum = sym (sum-none counted _ (sized _ _ c.requires.is_room)); small = omega arith }

pub load_place-place-requires : goal.load_place-place-requires
load_place-place-requires c = place-within _ c.requires _ c.load_sizes-sizes.ensures _ c.loop-at-test.true

pub loop-at-preserved : goal.loop-at-preserved
loop-at-preserved c =
    let next = place-adds _ c.requires _ c.load_sizes-sizes.ensures _ c.loop-at-test.true counted _ c.load_place-place.ensures in
    elim c.if-place-ne0.branch [
      | then-place-ne0 w ↦ record { sum = omega (arith, next, c.loop-at.invariant.sum, w.count-is, counted-one c.load_place-place.result w.if-place-ne0.true); small = omega arith }
      | else-place-ne0 w ↦ record { sum = omega (arith, next, c.loop-at.invariant.sum, w.count-is, counted_none c.load_place-place.result w.if-place-ne0.false); small = omega arith }
    ]

pub returns : goal.returns
returns c L room = count-is _ L room _ c.load_sizes-sizes.ensures _ _ c.loop-at-test.false c.loop-at.invariant.sum
