-- `tables::lower_owners` meets its contract: the owners before j are renumbered.
use Prim.Native.Nat.{◌+◌}
use mathlib.Core.Path.{◌≡◌, refl, sym, ap, subst, ◌∙◌}
use native.Mathlib.Omega.{arith}
use lib.ListN.{get_or}
use Rattle.numbers.proofs.Bytes.{all-bytes}
use Rattle.room.specs.Contents.{contents_of, empty_booking, lowered, renumbered}
use Rattle.tables.specs.Steps.{Becomes, on_bookings}
use Rattle.tables.proofs.Moving.{renumbered-none, lowered-behind, lowered-up-to}
use Rattle.tables.proofs.Stores.{sized-by, owner-fits, owner-read, owner-stored, owner-kept}
use Rattle.tables.proofs.lower_owners.Goals as goal
use Rattle.tables.proofs.lower_owners.Goals.{After-load_booking-booking, then-i-owner, else-i-owner}

pub loop-j-init : goal.loop-j-init
loop-j-init c =
    let room = c.args.room.now in
    record {
      sized = sized-by room c.requires.0;
      bytes = all-bytes room c.type_inv.room;
      lowered = (refl, ap (λ bs. on_bookings (λ _. bs) (contents_of room)) (renumbered-none (lowered c.args.i) (contents_of room).bookings));
    }

-- the booking that is loaded is as it was when the loop began
loaded : (c : After-load_booking-booking) → c.load_booking-booking.result ≡ get_or (contents_of c.args.room.now).bookings c.loop-j.j empty_booking
loaded c =
    owner-read c.args.room.now c.loop-j.room (lowered c.args.i) c.loop-j.j c.loop-j.invariant.lowered empty_booking (omega arith) c.args.base c.requires.1 _ c.load_booking-booking.ensures

pub store_booking-requires-clause-owner : goal.store_booking-requires-clause-owner
store_booking-requires-clause-owner c =
    let read = loaded (goal.at.store_booking-requires-clause-owner c).After-load_booking-booking in
    let fits = owner-fits c.args.room.now c.requires.0 c.loop-j.invariant.bytes c.loop-j.j empty_booking (omega arith) in
    omega (arith, ap (λ b. b.owner) read)

pub loop-j-preserved : goal.loop-j-preserved
loop-j-preserved c =
    let room = c.args.room.now in
    let i = c.args.i in
    let j = c.loop-j.j in
    let b = c.load_booking-booking.result in
    let so_far = c.loop-j.invariant.lowered in
    let read = loaded (goal.at.loop-j-preserved c).After-load_booking-booking in
    let f = lowered i in
    record {
      sized = c.loop-j.invariant.sized;
      bytes = c.loop-j.invariant.bytes;
      lowered = elim c.if-i-owner.branch [
        | then-i-owner w ↦
            subst (Becomes (on_bookings (renumbered f (j + 1))) room) (sym w.room-is)
            (owner-stored room c.loop-j.room f j so_far empty_booking (omega arith) c.args.base c.requires.1 w.store_booking.new.room _ c.requires.0
            (w.store_booking.ensures.stored, w.store_booking.ensures.fits)
            (sym (lowered-behind i b w.if-i-owner.true) ∙ ap f read))
        | else-i-owner w ↦
            subst (Becomes (on_bookings (renumbered f (j + 1))) room) (sym w.room-is)
            (owner-kept room c.loop-j.room f j so_far empty_booking (omega arith) (rw read at (lowered-up-to i b w.if-i-owner.false)))
      ];
    }
