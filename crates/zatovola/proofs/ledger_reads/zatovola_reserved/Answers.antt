-- `zatovola::zatovola_reserved`: what the read promises of its answer holds of the number and the place (`handed`), since its refusals carry nothing.
use Rattle.rules.specs.AnswerNumbers.{Amount}
use Rattle.rules.specs.AccountRules.{operate, read_reserved}
use Rattle.zatovola.proofs.HandedOver.{handed}
use Rattle.zatovola.proofs.QuietAnswers.{quiet-reserved}
use Rattle.zatovola.proofs.ledger_reads.zatovola_reserved.Goals as goal

pub returns : goal.returns
returns c =
    let a = c.args in
    let name = a.name.now in
    handed Amount a.value.now (λ L. (operate L (read_reserved name)).reply) (quiet-reserved name) a.room.now c.microcents.result _ _ (rw c.microcents.ensures c.reserved.ensures) c.hand_over.ensures
