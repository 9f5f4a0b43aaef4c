-- `tables::move_places_up` meets its contract: the places moved so far are those from j on.
use Prim.Native.Nat.{◌≤◌}
use lib.ListN.{length}
use Rattle.room.specs.Contents.{contents_of, empty_place}
use Rattle.tables.specs.Steps.{Becomes, on_places, moved_up}
use Rattle.tables.proofs.Stores.{SizedBy}
use Rattle.tables.proofs.move_places_up.Given as goal

abbrev pub invariant-loop-j : goal.invariant-loop-j
invariant-loop-j l =
    record {
      from : l.i ≤ l.j;
      sized : SizedBy (length l.initial.room) (contents_of l.initial.room).sizes;
      moved : Becomes (on_places (moved_up l.j l.used empty_place)) l.initial.room l.room;
    }
