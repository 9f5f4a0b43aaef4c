-- `zatovola::zatovola_live_reservations`: what the read promises of its answer holds of the number and the place (`handed`), since its refusals carry nothing.
use Rattle.rules.specs.AnswerNumbers.{Count}
use Rattle.rules.specs.AccountRules.{read_ledger, read_live}
use Rattle.zatovola.proofs.HandedOver.{handed}
use Rattle.zatovola.proofs.QuietAnswers.{quiet-ledger}
use Rattle.zatovola.proofs.ledger_reads.zatovola_live_reservations.Goals as goal

pub returns : goal.returns
returns c =
    let a = c.args in
    handed Count a.value.now (λ L. read_ledger L read_live) (λ L. quiet-ledger L read_live) a.room.now c.live.result _ _ c.live.ensures c.hand_over.ensures
