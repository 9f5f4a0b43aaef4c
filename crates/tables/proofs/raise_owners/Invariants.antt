-- `tables::raise_owners` meets its contract: the owners before j are renumbered.
use lib.ListN.{length}
use Rattle.room.specs.Contents.{contents_of, raised, renumbered}
use Rattle.tables.specs.Steps.{Becomes, on_bookings}
use Rattle.tables.proofs.Stores.{SizedBy}
use Rattle.tables.proofs.raise_owners.Given as goal

abbrev pub invariant-loop-j : goal.invariant-loop-j
invariant-loop-j l =
    record {
      sized : SizedBy (length l.initial.room) (contents_of l.initial.room).sizes;
      raised : Becomes (on_bookings (renumbered (raised l.i) l.j)) l.initial.room l.room;
    }
