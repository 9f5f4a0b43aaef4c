-- `soundness::name_sound` meets its contract: a part is clear from the length on just where the number read of it is small enough (ClearBytes), and the
-- three parts are the name's bytes.
use Rattle.std.proofs.Common.{◌≡◌, refl, ap, ◌∙◌, ◌*◌, length, arith, ⊎_elim}
use Rattle.std.proofs.Math.ListN.{get_or-eq_default}
use Rattle.rules.specs.RoomAndSoundLedger.{longest_name}
use Rattle.rules.proofs.Tests.{less-or-not}
use Rattle.names.specs.declared.Name.{Name}
use Rattle.numbers.specs.LittleEndian.{little_number}
use Rattle.numbers.proofs.Bytes.{all-bytes}
use Rattle.soundness.specs.Steps.{place_at}
use Rattle.soundness.proofs.ClearBytes.{stored-small, small-zeros}
use Rattle.soundness.proofs.Deciding.{accept, refuse}
use Rattle.soundness.proofs.NameBytes.{name-at-bytes}
use Rattle.soundness.proofs.Standing.{bytes-width}
use Rattle.soundness.proofs.name_sound.Goals as goal

pub returns-then-not-is_clear : goal.returns-then-not-is_clear
returns-then-not-is_clear c =
    let room = c.args.room.now in
    let bytes = name-at-bytes c.args.i room (all-bytes room c.type_inv.room) in
    let read = c.read8-word.ensures ∙ ap little_number c.name_part.ensures.stands in
    refuse (λ stored. c.if-not-is_clear.ensures.fails refl (stored-small _ bytes c.loop-part.part _ _ _ c.name_length-length.ensures read c.saturating_sub.ensures stored))

pub loop-part-preserved : goal.loop-part-preserved
loop-part-preserved c =
    let room = c.args.room.now in
    let bytes = name-at-bytes c.args.i room (all-bytes room c.type_inv.room) in
    let read = c.read8-word.ensures ∙ ap little_number c.name_part.ensures.stands in
    λ k below from. ⊎_elim (λ low. c.loop-part.invariant k low from)
    (λ high. small-zeros _ bytes c.loop-part.part _ _ _ c.name_length-length.ensures read c.saturating_sub.ensures (c.if-not-is_clear.ensures.holds refl) k high (omega arith) from)
    (less-or-not k (8 * c.loop-part.part))

pub returns : goal.returns
returns c =
    let name : Name = (place_at c.args.i c.args.room.now).name in
    let width : length name.bytes ≡ longest_name = bytes-width c.args.i c.args.room.now c.requires in
    let len : c.name_length-length.result ≡ name.length = c.name_length-length.ensures in
    accept (record {
      fits = omega arith;
      width = width;
      clear = λ k from. ⊎_elim (λ below. c.loop-part.invariant k (omega arith) (omega arith)) (λ past. get_or-eq_default name.bytes 0 (omega arith)) (less-or-not k longest_name);
    })
