-- `frames::certificate`: what the call performs on the ledger, and the writing of its answer, put together by `performed` of Performing.antt; `answer` unfolded
-- gives the equation that it asks for.
use mathlib.Core.Path.{refl}
use Rattle.rules.specs.Frames.{answer}
use Rattle.frames.proofs.Performing.{performed}
use Rattle.frames.proofs.certificate.Goals as goal

pub returns : goal.returns
unfolding answer
returns c L room = performed (c.of_ledger.ensures L room) c.write_answer.ensures refl
