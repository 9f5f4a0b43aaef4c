-- `filling::fill` meets its contract: the room is made anew, so it is a fresh ledger's; the rows are put into it; and the head written last completes the
-- ledger restored (Renewing).
use mathlib.Core.Path.{◌∙◌, ap}
use Rattle.rules.specs.RoomAndSoundLedger.{fence_of, fresh}
use Rattle.room.specs.Room.{IsRoom, OfRoom}
use Rattle.snapshot_reader.specs.Standing.{OfSnapshot}
use Rattle.room.proofs.SoundRoom.{sized}
use Rattle.refusals.specs.Answers.{answer_of, carries_nothing}
use Rattle.filling.specs.Filling.{PutsRows}
use Rattle.filling.proofs.Renewing.{made-anew, empty-takes, head-written}
use Rattle.filling.proofs.fill.Lts as place
use Rattle.filling.proofs.fill.Tie as tie
use Rattle.filling.proofs.fill.Goals as goal

abbrev Start : Type 0
Start = place.Start tie.the-claims tie.handed_pre tie.handed_post

abbrev After-make : Type 0
After-make = place.After-make tie.the-claims tie.handed_pre tie.handed_post

abbrev After-put_rows-baseline : Type 0
After-put_rows-baseline = place.After-put_rows tie.the-claims tie.handed_pre tie.handed_post

abbrev entry : After-make → Start
entry c = c.before.before.before.before.before

emptied : (c : After-make) → OfRoom (entry c).args.room.now (λ L. IsRoom c.make.new.room (fresh L.T L.R))
emptied c L room = made-anew (entry c).args.room.now c.make.new.room L room c.load_sizes-sizes.result c.load_sizes-sizes.ensures (answer_of carries_nothing c.make.result) c.make.ensures

pub put_rows-baseline-requires : goal.put_rows-baseline-requires
put_rows-baseline-requires c =
    let s = entry c.before.before.before.before in
    let L = s.requires.0.ledger in
    let is_room = emptied c.before.before.before.before L s.requires.0.is_room in
    (record { ledger = fresh L.T L.R; is_room = is_room }, empty-takes c.make.new.room s.args.bytes.now L.T L.R is_room (s.requires.1 L s.requires.0.is_room))

filled : (c : After-put_rows-baseline) → let s = entry c.before.before.before.before in
    OfRoom s.args.room.now (λ L. OfSnapshot s.args.bytes.now (λ snapshot. PutsRows L.T L.R snapshot.rows c.put_rows-baseline.new.room c.put_rows-baseline.result))
unfolding fresh
filled c L room snapshot e = c.put_rows-baseline.ensures (fresh L.T L.R) (emptied c.before.before.before.before L room) snapshot e

pub version-version-requires : goal.version-version-requires
version-version-requires c =
    let s = entry c.before.before.before.before.before.before.before in
    let takes = s.requires.1 s.requires.0.ledger s.requires.0.is_room in
    record { snapshot = takes.snapshot; is_read = takes.is_read }

pub put_head-requires : goal.put_head-requires
put_head-requires c =
    let s = entry c.before.before.before.before.before.before.before.before.before.before in
    let L = s.requires.0.ledger in
    let takes = s.requires.1 L s.requires.0.is_room in
    sized c.put_rows-baseline.new.room _ (filled c.before.before.before.before.before.before L s.requires.0.is_room takes.snapshot takes.is_read).is_room

pub returns : goal.returns
returns c L room snapshot e =
    let is-version = c.version-version.ensures snapshot e in
    head-written (entry c.before.before.before.before.before.before.before.before.before.before.before.before.before).args.room.now c.put_rows-baseline.new.room c.put_head.new.room L room snapshot _ (filled c.before.before.before.before.before.before.before.before.before L room snapshot e) (c.fence_of-fence.ensures ∙ ap fence_of is-version) is-version
    c.put_head.ensures
