-- `lines::batch`: what `is_sound` decides is what is known of the memory (`found` of AnswerLines.antt); the rest is `answer_lines`' contract.
use native.Mathlib.Omega.{arith}
use Rattle.lines.proofs.AnswerLines.{found}
use Rattle.lines.proofs.batch.Goals as goal

pub answer_lines-requires : goal.answer_lines-requires
answer_lines-requires c = let check = c.is_sound-known in (found check.result check.ensures, omega arith)
