-- `lines::answer`: what `is_sound` decides is what is known of the memory (`found` of AnswerLines.antt); the rest is `answer_line`'s contract.
use native.Mathlib.Omega.{arith}
use Rattle.lines.proofs.AnswerLines.{found}
use Rattle.lines.proofs.answer.Goals as goal

pub answer_line-requires : goal.answer_line-requires
answer_line-requires c = let check = c.is_sound-known in (found check.result check.ensures, omega arith)
