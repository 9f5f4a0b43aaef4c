-- `digits::spell_part`, by a loop whose invariant is `PartUnderway`: the room's first i + i characters are the front of the bytes' line, and the rest is as it
-- was. `part-turn` of Spelling.antt adds a byte.
use mathlib.Core.Path.{◌≡◌, subst}
use native.Mathlib.Omega.{arith}
use lib.ListN.{length}
use Rattle.rules.specs.Frames.{character_of}
use Rattle.digits.proofs.Tables.{gives}
use Rattle.digits.proofs.Spelling.{PartUnderway, part-begun, part-turn, part-finished}
use Rattle.digits.proofs.spell_part.Goals as goal

pub loop-i-init : goal.loop-i-init
loop-i-init c = part-begun c.args.bytes.now c.args.output.now

-- `gives`: the code's 16 entries are computed here to be those of `character_of`
pub character-requires-clause-table : goal.character-requires-clause-table
character-requires-clause-table c = gives character_of 16

pub character-requires-in-loop-i-clause-table : goal.character-requires-in-loop-i-clause-table
character-requires-in-loop-i-clause-table c = gives character_of 16

pub loop-i-preserved : goal.loop-i-preserved
loop-i-preserved c =
    part-turn _ _ c.loop-i.output c.loop-i.i _ _ (omega arith) (omega arith) c.loop-i.invariant c.character-in-loop-i.ensures c.character.ensures

pub returns : goal.returns
returns c =
    let all : c.loop-i.i ≡ length c.args.bytes.now = omega arith in
    part-finished _ _ _ (subst (PartUnderway _ _ _) all c.loop-i.invariant)
