-- `digits::spell_part`, by a loop whose invariant is `PartUnderway`: the room's first i + i characters are the front of the bytes' line, and the rest is as it
-- was.
use Rattle.digits.proofs.Spelling.{PartUnderway}
use Rattle.digits.proofs.spell_part.Given as goal

abbrev pub invariant-loop-i : goal.invariant-loop-i
invariant-loop-i l = PartUnderway l.bytes l.initial.output l.output l.i
