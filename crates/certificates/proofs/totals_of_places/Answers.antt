-- `certificates::totals_of_places` meets its contract. The invariant: each total is that of the places passed (OverPlaces). So few amounts leave the high
-- word far from its ends, which is what `plus` asks.
use mathlib.Core.Path.{◌∙◌, ap, ap₂}
use Prim.Native.Nat.{◌≤◌}
use native.Mathlib.Omega.{arith}
use lib.IntN.{pos}
use Rattle.records.specs.Records.{sizes_of}
use Rattle.reads.proofs.Totals.{place-within}
use Rattle.certificates.specs.Certified.{both_fitted}
use Rattle.certificates.proofs.OverPlaces.{initials, commits, places-none, place-counted, places-next, places-all, loaded-small}
use Rattle.certificates.proofs.totals_of_places.Goals as goal

pub loop-i-init : goal.loop-i-init
loop-i-init c =
    let room = c.args.room.now in
    let L = c.requires.ledger in
    let r = c.requires.is_room in (
      places-none initials room L r c.nothing-initial.result (c.nothing-initial.ensures.value, c.nothing-initial.ensures.moved),
      places-none commits room L r c.nothing-committed.result (c.nothing-committed.ensures.value, c.nothing-committed.ensures.moved),
    )

-- ── a turn ─────────────────────────────────────────────────────────────────────────────────────

pub load_place-place-requires : goal.load_place-place-requires
load_place-place-requires c = place-within _ c.requires _ c.load_sizes-sizes.ensures _ c.loop-i-test.true

pub amount-requires : goal.amount-requires
amount-requires c =
    let room = c.args.room.now in
    omega (arith, loaded-small room c.requires.ledger c.requires.is_room (place-counted room c.load_sizes-sizes.ensures c.loop-i-test.true) c.load_place-place.ensures)

pub amount-requires-in-loop-i : goal.amount-requires-in-loop-i
amount-requires-in-loop-i c =
    let room = c.args.room.now in
    omega (arith, loaded-small room c.requires.ledger c.requires.is_room (place-counted room c.load_sizes-sizes.ensures c.loop-i-test.true) c.load_place-place.ensures)

pub loop-i-preserved : goal.loop-i-preserved
loop-i-preserved c =
    let room = c.args.room.now in
    let L = c.requires.ledger in
    let r = c.requires.is_room in
    let l = c.loop-i in
    let within = place-counted room c.load_sizes-sizes.ensures c.loop-i-test.true in (
      places-next initials room L r l.i l.initial' l.invariant.0 within c.amount.result c.plus-initial.result
          (c.amount.ensures ∙ ap (λ p. pos p.initial) c.load_place-place.ensures) (c.plus-initial.ensures.value, c.plus-initial.ensures.moved),
      places-next commits room L r l.i l.committed l.invariant.1 within c.amount-in-loop-i.result c.plus-committed.result
          (c.amount-in-loop-i.ensures ∙ ap (λ p. pos p.committed) c.load_place-place.ensures) (c.plus-committed.ensures.value, c.plus-committed.ensures.moved),
    )

-- ── after the last place ───────────────────────────────────────────────────────────────────────

pub returns : goal.returns
returns c L is_room =
    let l = c.loop-i in
    let room = c.args.room.now in
    let passed : (sizes_of room).used ≤ l.i = omega (arith, ap (λ s. s.used) c.load_sizes-sizes.ensures) in
    c.fit_both.ensures ∙ ap₂ both_fitted (places-all initials room L is_room l.i l.initial' l.invariant.0 passed) (places-all commits room L is_room l.i l.committed l.invariant.1 passed)
