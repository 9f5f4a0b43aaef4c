-- `tables::raise_owners` meets its contract: the owners before j are renumbered.
use Prim.Native.Nat.{◌+◌}
use mathlib.Core.Path.{◌≡◌, refl, sym, ap, subst, ◌∙◌}
use native.Mathlib.Omega.{arith}
use lib.ListN.{get_or}
use Rattle.room.specs.Contents.{contents_of, empty_booking, raised, renumbered}
use Rattle.tables.specs.Steps.{Becomes, on_bookings, CanRise}
use Rattle.tables.proofs.Moving.{all-taken, renumbered-none, raised-from, raised-before}
use Rattle.tables.proofs.Stores.{sized-by, bookings-length, owner-read, owner-stored, owner-kept}
use Rattle.tables.proofs.raise_owners.Goals as goal
use Rattle.tables.proofs.raise_owners.Goals.{After-load_booking-booking, then-i-owner, else-i-owner}

pub loop-j-init : goal.loop-j-init
loop-j-init c =
    let room = c.args.room.now in
    record {
      sized = sized-by room c.requires.0;
      raised = (refl, ap (λ bs. on_bookings (λ _. bs) (contents_of room)) (renumbered-none (raised c.args.i) (contents_of room).bookings));
    }

-- the booking that is loaded is as it was when the loop began
loaded : (c : After-load_booking-booking) → c.load_booking-booking.result ≡ get_or (contents_of c.args.room.now).bookings c.loop-j.j empty_booking
loaded c =
    owner-read c.args.room.now c.loop-j.room (raised c.args.i) c.loop-j.j c.loop-j.invariant.raised empty_booking (omega arith) c.args.base c.requires.1 _ c.load_booking-booking.ensures

small : (c : After-load_booking-booking) → CanRise c.load_booking-booking.result
small c =
    let bs = (contents_of c.args.room.now).bookings in
    rw (loaded c) (all-taken CanRise c.args.live bs c.loop-j.j empty_booking c.requires.3 (omega arith) (rw bookings-length (omega arith)))

pub overflow_add-renumbered : goal.overflow_add-renumbered
overflow_add-renumbered c = omega (arith, small (goal.at.overflow_add-renumbered c).After-load_booking-booking)

pub store_booking-requires-clause-owner : goal.store_booking-requires-clause-owner
store_booking-requires-clause-owner c = omega (arith, small (goal.at.store_booking-requires-clause-owner c).After-load_booking-booking)

pub loop-j-preserved : goal.loop-j-preserved
loop-j-preserved c =
    let room = c.args.room.now in
    let i = c.args.i in
    let j = c.loop-j.j in
    let b = c.load_booking-booking.result in
    let so_far = c.loop-j.invariant.raised in
    let read = loaded (goal.at.loop-j-preserved c).After-load_booking-booking in
    let f = raised i in
    record {
      sized = c.loop-j.invariant.sized;
      raised = elim c.if-i-owner.branch [
        | then-i-owner w ↦
            subst (Becomes (on_bookings (renumbered f (j + 1))) room) (sym w.room-is)
            (owner-stored room c.loop-j.room f j so_far empty_booking (omega arith) c.args.base c.requires.1 w.store_booking.new.room _ c.requires.0
            (w.store_booking.ensures.stored, w.store_booking.ensures.fits)
            (sym (raised-from i b w.if-i-owner.true) ∙ ap f read))
        | else-i-owner w ↦
            subst (Becomes (on_bookings (renumbered f (j + 1))) room) (sym w.room-is)
            (owner-kept room c.loop-j.room f j so_far empty_booking (omega arith) (rw read at (raised-before i b w.if-i-owner.false)))
      ];
    }
