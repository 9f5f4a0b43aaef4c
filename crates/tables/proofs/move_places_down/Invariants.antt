-- `tables::move_places_down` meets its contract: the places moved so far are those before j.
use lib.ListN.{length}
use Rattle.room.specs.Contents.{contents_of, empty_place}
use Rattle.tables.specs.Steps.{Becomes, on_places, moved_down}
use Rattle.tables.proofs.Stores.{SizedBy}
use Rattle.tables.proofs.move_places_down.Given as goal

abbrev pub invariant-loop-j : goal.invariant-loop-j
invariant-loop-j l =
    record {
      sized : SizedBy (length l.initial.room) (contents_of l.initial.room).sizes;
      moved : Becomes (on_places (moved_down l.i l.j empty_place)) l.initial.room l.room;
    }
