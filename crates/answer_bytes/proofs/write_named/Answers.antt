-- `answer_bytes::write_named`: `number-written`, and `name-written` behind it (Parts.antt).
use mathlib.Core.Path.{◌≡◌}
use lib.ListN.{length}
use Rattle.rules.specs.RoomAndSoundLedger.{longest_name}
use Rattle.answer_bytes.proofs.Parts.{number-written, name-written}
use borrow.Author.Rules.{rules}
use Rattle.answer_bytes.proofs.write_named.Lts as place
use Rattle.answer_bytes.proofs.write_named.Tie as tie
use Rattle.answer_bytes.proofs.write_named.Goals as goal

abbrev Start : Type 0
Start = place.Start tie.the-claims tie.handed_pre tie.handed_post

-- an array has all its bytes; from where the function returns, search does not look back as far
held : (c : Start) → length c.args.name.bytes ≡ longest_name
held c = search rules

pub returns : goal.returns
returns c =
    name-written c.args.name (held c.before.before.before.before.before.before.before.before.before.before.before) c.requires.1 (number-written c.write1.ensures) c.write_name.ensures
