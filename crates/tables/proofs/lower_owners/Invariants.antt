-- `tables::lower_owners` meets its contract: the owners before j are renumbered.
use lib.ListN.{length}
use Rattle.rules.specs.Lists.{All}
use Rattle.rules.specs.RoomAndSoundLedger.{IsByte}
use Rattle.room.specs.Contents.{contents_of, lowered, renumbered}
use Rattle.tables.specs.Steps.{Becomes, on_bookings}
use Rattle.tables.proofs.Stores.{SizedBy}
use Rattle.tables.proofs.lower_owners.Given as goal

abbrev pub invariant-loop-j : goal.invariant-loop-j
invariant-loop-j l =
    record {
      sized : SizedBy (length l.initial.room) (contents_of l.initial.room).sizes;
      bytes : All IsByte l.initial.room;
      lowered : Becomes (on_bookings (renumbered (lowered l.i) l.j)) l.initial.room l.room;
    }
