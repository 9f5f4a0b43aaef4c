-- `soundness::places_sound` meets its contract. The invariant: the places passed are sound and ascend, what they commit is taken off the baseline,
-- and what they have reserved is noted.
use Rattle.std.proofs.Common.{◌≡◌, ◌-◌}
use Rattle.rules.specs.Lists.{All, Pairwise}
use Rattle.records.specs.Records.{places}
use Rattle.room.specs.Contents.{NameBefore}
use Rattle.soundness.specs.Facts.{PlaceSound}
use Rattle.soundness.specs.Steps.{Noted}
use Rattle.soundness.proofs.Places.{committed_by}
use Rattle.soundness.proofs.places_sound.Given as goal

abbrev pub invariant-loop-i : goal.invariant-loop-i
invariant-loop-i l = record {
  sound : All PlaceSound (places l.i l.room);
  ascend : Pairwise NameBefore (places l.i l.room);
  left : l.left ≡ l.baseline - committed_by l.i l.room;
  noted : Noted l.i l.room l.reserved;
}
