-- `zatovola::zatovola_last_version`: what the read promises of its answer holds of the number and the place (`handed`), since its refusals carry nothing.
use Rattle.rules.specs.AnswerNumbers.{Version}
use Rattle.rules.specs.AccountRules.{read_ledger, read_last_version}
use Rattle.zatovola.proofs.HandedOver.{handed}
use Rattle.zatovola.proofs.QuietAnswers.{quiet-ledger}
use Rattle.zatovola.proofs.ledger_reads.zatovola_last_version.Goals as goal

pub returns : goal.returns
returns c =
    let a = c.args in
    handed Version a.value.now (λ L. read_ledger L read_last_version) (λ L. quiet-ledger L read_last_version) a.room.now c.last_version.result _ _ c.last_version.ensures c.hand_over.ensures
