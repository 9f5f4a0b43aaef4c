-- `zatovola::zatovola_write_answer`: the answer as a line, handed over as a number and a place (`recorded`).
use Rattle.rules.specs.Recorder.{line_in}
use Rattle.zatovola.proofs.HandedOver.{recorded}
use Rattle.zatovola.proofs.QuietAnswers.{quiet-answer}
use Rattle.zatovola.proofs.recorder_calls.zatovola_write_answer.Goals as goal

pub returns : goal.returns
returns c = recorded c.args.written.now (quiet-answer line_in _ _ _ _) c.write_answer-recorded.result _ _ c.write_answer-recorded.ensures c.hand_over.ensures
