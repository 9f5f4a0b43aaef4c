-- `digits::spell`, by a loop whose invariant is `Underway`: the bytes before i are as they were, and from i + i on stands the line of the others.
use Rattle.digits.proofs.Spelling.{Underway}
use Rattle.digits.proofs.spell.Given as goal

abbrev pub invariant-loop-i : goal.invariant-loop-i
invariant-loop-i l = Underway l.initial.output l.size l.output l.i
