-- `answer_bytes::write_named_word`: `number-written`, `name-written` and `value-behind` (Parts.antt). A part's length is from where it was made.
use mathlib.Core.Path.{◌≡◌}
use native.Mathlib.Omega.{arith}
use lib.ListN.{length}
use Rattle.rules.specs.RoomAndSoundLedger.{longest_name}
use Rattle.answer_bytes.proofs.Parts.{number-written, name-written, value-behind}
use borrow.Author.Rules.{rules}
use Rattle.answer_bytes.proofs.write_named_word.Lts as place
use Rattle.answer_bytes.proofs.write_named_word.Tie as tie
use Rattle.answer_bytes.proofs.write_named_word.Goals as goal

abbrev Start : Type 0
Start = place.Start tie.the-claims tie.handed_pre tie.handed_post

-- an array has all its bytes; from where the function returns, search does not look back as far
held : (c : Start) → length c.args.name.bytes ≡ longest_name
held c = search rules

pub returns : goal.returns
returns c v is_is_word =
    let named = name-written c.args.name (held c.before.before.before.before.before.before.before.before.before.before.before.before.before.before.before) c.requires.1 (number-written c.write1.ensures) c.write_name.ensures in
    value-behind named 8 _ v is_is_word c.write8.ensures

pub write1-requires : goal.write1-requires
write1-requires c = c.write1-arg-1.given.2

pub write_name-requires : goal.write_name-requires
write_name-requires c = omega (arith, c.write_name-arg-1.given.2, c.requires.1)

pub write8-requires : goal.write8-requires
write8-requires c = omega (arith, c.write8-arg-1.given.2)
