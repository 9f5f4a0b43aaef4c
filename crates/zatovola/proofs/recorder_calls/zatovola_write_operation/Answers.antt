-- `zatovola::zatovola_write_operation`: the operation as a line, handed over as a number and a place (`operation-recorded`).
use borrow.Author.Rules.{rules}
use Rattle.rules.specs.Recorder.{line_in}
use Rattle.zatovola.proofs.HandedOver.{operation-recorded}
use Rattle.zatovola.proofs.recorder_calls.zatovola_write_operation.Goals as goal

pub returns : goal.returns
returns c =
    let a = c.args in
    operation-recorded line_in a.code a.number a.part.now a.output.now a.amount (search rules) a.written.now c.write_operation-recorded.result _ _ c.write_operation-recorded.ensures c.hand_over.ensures
