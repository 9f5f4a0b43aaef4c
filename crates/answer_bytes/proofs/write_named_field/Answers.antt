-- `answer_bytes::write_named_field`: `number-written`, `name-written`, and `value-behind` for the field's byte and for the word (Parts.antt). A part's length
-- is from where it was made.
use mathlib.Core.Path.{◌≡◌, ◌∙◌}
use native.Mathlib.Omega.{arith}
use lib.ListN.{length}
use Rattle.rules.specs.RoomAndSoundLedger.{longest_name}
use Rattle.answer_bytes.proofs.Parts.{byte-is, number-written, name-written, value-behind}
use borrow.Author.Rules.{rules}
use Rattle.answer_bytes.proofs.write_named_field.Lts as place
use Rattle.answer_bytes.proofs.write_named_field.Tie as tie
use Rattle.answer_bytes.proofs.write_named_field.Goals as goal

abbrev Start : Type 0
Start = place.Start tie.the-claims tie.handed_pre tie.handed_post

-- an array has all its bytes; from where the function returns, search does not look back as far
held : (c : Start) → length c.args.name.bytes ≡ longest_name
held c = search rules

pub returns : goal.returns
returns c v w is_field is_is_word =
    let named = name-written c.args.name (held c.before.before.before.before.before.before.before.before.before.before.before.before.before.before.before.before.before.before.before) c.requires.1 (number-written c.write1.ensures) c.write_name.ensures in
    let field = value-behind named 1 _ v is_field (c.write1-2.ensures ∙ byte-is c.args.field) in
    value-behind field 8 _ w is_is_word c.write8.ensures

-- each write leaves the output as long as it was
pub shape_of-output : goal.shape_of-output
shape_of-output c =
    c.output-4-1.given.1 ∙ c.output-3-1.given.1 ∙ c.output-2-1.given.1 ∙ c.output-1.given.1

pub write1-requires : goal.write1-requires
write1-requires c = c.write1-arg-1.given.2

pub write_name-requires : goal.write_name-requires
write_name-requires c = omega (arith, c.write_name-arg-1.given.2, c.requires.1)

pub write1-requires-2 : goal.write1-requires-2
write1-requires-2 c = omega (arith, c.write1-arg-2-1.given.2)

pub write8-requires : goal.write8-requires
write8-requires c = omega (arith, c.write8-arg-1.given.2)
