-- `digits::spell`, by a loop whose invariant is `Underway`: the bytes before i are as they were, and from i + i on stands the line of the others. `turn` of
-- Spelling.antt adds a byte.
use mathlib.Core.Path.{◌≡◌, subst}
use Prim.Native.Nat.{suc, ◌-◌}
use native.Mathlib.Omega.{arith}
use Rattle.rules.specs.Frames.{character_of}
use Rattle.digits.proofs.Tables.{gives}
use Rattle.digits.proofs.Spelling.{Underway, begun, turn}
use Rattle.digits.proofs.spell.Goals as goal

pub loop-i-init : goal.loop-i-init
loop-i-init c = begun c.args.output.now c.args.size

-- `gives`: the code's 16 entries are computed here to be those of `character_of`
pub character-requires-clause-table : goal.character-requires-clause-table
character-requires-clause-table c = gives character_of 16

pub character-requires-in-loop-i-clause-table : goal.character-requires-in-loop-i-clause-table
character-requires-in-loop-i-clause-table c = gives character_of 16

pub loop-i-preserved : goal.loop-i-preserved
loop-i-preserved c =
    let i = c.loop-i.i - 1 in
    let next : c.loop-i.i ≡ suc i = omega arith in
    turn _ _ c.loop-i.output i _ _ (omega arith) (omega arith) (omega arith) (subst (Underway _ _ _) next c.loop-i.invariant) c.character-in-loop-i.ensures c.character.ensures

pub returns : goal.returns
returns c =
    let none : c.loop-i.i ≡ 0 = omega arith in
    (subst (Underway _ _ _) none c.loop-i.invariant).line
