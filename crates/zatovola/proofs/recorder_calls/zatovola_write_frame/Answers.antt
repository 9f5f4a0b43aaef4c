-- `zatovola::zatovola_write_frame`: the operation as bytes, handed over as a number and a place (`operation-recorded`).
use borrow.Author.Rules.{rules}
use Rattle.rules.specs.Recorder.{bytes_in}
use Rattle.zatovola.proofs.HandedOver.{operation-recorded}
use Rattle.zatovola.proofs.recorder_calls.zatovola_write_frame.Goals as goal

pub returns : goal.returns
returns c =
    let a = c.args in
    operation-recorded bytes_in a.code a.number a.part.now a.output.now a.amount (search rules) a.written.now c.write_frame-recorded.result _ _ c.write_frame-recorded.ensures c.hand_over.ensures
