-- `soundness::places_sound` meets its contract: each step adds one place to those passed (Places), and a place that fails a test is one of sound places.
use Rattle.std.proofs.Common.{◌-◌, refl, ◌∙◌, arith}
use Rattle.rules.specs.Lists.{sum}
use Rattle.records.specs.Layout.{place_size, head_size}
use Rattle.records.specs.Records.{place_of}
use Rattle.soundness.specs.Facts.{PlaceSound}
use Rattle.soundness.proofs.Deciding.{refuse}
use Rattle.soundness.proofs.Places.{sound_more, ascend-more, left-more, noted_more, place-sound, name-follows}
use Rattle.soundness.proofs.Tables.{table-all}
use Rattle.soundness.proofs.places_sound.Goals as goal
use Rattle.soundness.proofs.places_sound.Goals.{then-not-amounts_sound-via-then-not-amounts_sound as amounts, then-not-amounts_sound-via-else-not-amounts_sound+then-not-name_sound as name, then-not-amounts_sound-via-else-not-amounts_sound+else-not-name_sound+then-not-ascends as order}

pub loop-i-init : goal.loop-i-init
unfolding sum
loop-i-init c = record { sound = tt; ascend = tt; left = omega arith; noted = refl }

pub ascends-requires-clause-before : goal.ascends-requires-clause-before
ascends-requires-clause-before c = λ h. (table-all place_of place_size head_size c.args.room.now PlaceSound c.loop-i.i (c.loop-i.i - 1) c.loop-i.invariant.sound (omega arith)).name

pub returns-then-not-amounts_sound-clause-decides : goal.returns-then-not-amounts_sound-clause-decides
returns-then-not-amounts_sound-clause-decides c = refuse (λ sound.
    let loaded = c.load_place-place.ensures in
    let here = place-sound c.args.room.now c.loop-i.i _ loaded c.args.baseline c.args.used sound c.loop-i-test.true in
    elim c.then-not-amounts_sound.branch [
      | amounts w ↦ w.if-not-amounts_sound.ensures.fails refl (here.seat, here.held)
      | name w ↦ w.if-not-name_sound.ensures.fails refl (rw loaded at here.name)
      | order w ↦ w.if-not-ascends.ensures.fails refl (name-follows c.args.room.now c.loop-i.i _ loaded c.args.baseline c.args.used sound c.loop-i-test.true)
    ])

pub loop-i-preserved : goal.loop-i-preserved
loop-i-preserved c =
    let room = c.args.room.now in
    let i = c.loop-i.i in
    let place = c.load_place-place.ensures in
    let (seat, held) = c.if-not-amounts_sound.ensures.holds refl in
    let name = c.if-not-name_sound.ensures.holds refl in
    record {
      sound = sound_more room i _ place c.loop-i.invariant.sound (record { name = rw place name; seat = seat; held = held });
      ascend = ascend-more room i c.loop-i.invariant.ascend (c.if-not-ascends.ensures.holds refl);
      left = c.saturating_sub-left.ensures ∙ left-more room i _ place _ _ c.loop-i.invariant.left;
      noted = noted_more room i _ place c.loop-i.reserved (omega arith) c.loop-i.invariant.noted;
    }
