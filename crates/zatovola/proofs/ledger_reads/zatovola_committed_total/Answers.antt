-- `zatovola::zatovola_committed_total`: what the read promises of its answer holds of the number and the place (`handed`), since its refusals carry nothing.
use Rattle.rules.specs.AnswerNumbers.{Amount}
use Rattle.rules.specs.AccountRules.{read_ledger, read_committed_total}
use Rattle.zatovola.proofs.HandedOver.{handed}
use Rattle.zatovola.proofs.QuietAnswers.{quiet-ledger}
use Rattle.zatovola.proofs.ledger_reads.zatovola_committed_total.Goals as goal

pub returns : goal.returns
returns c =
    let a = c.args in
    handed Amount a.value.now (λ L. read_ledger L read_committed_total) (λ L. quiet-ledger L read_committed_total) a.room.now c.microcents.result _ _ (rw c.microcents.ensures c.committed_total.ensures) c.hand_over.ensures
