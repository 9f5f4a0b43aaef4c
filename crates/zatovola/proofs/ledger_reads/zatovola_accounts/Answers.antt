-- `zatovola::zatovola_accounts`: what the read promises of its answer holds of the number and the place (`handed`), since its refusals carry nothing.
use Rattle.rules.specs.AnswerNumbers.{Count}
use Rattle.rules.specs.AccountRules.{read_ledger, read_accounts}
use Rattle.zatovola.proofs.HandedOver.{handed}
use Rattle.zatovola.proofs.QuietAnswers.{quiet-ledger}
use Rattle.zatovola.proofs.ledger_reads.zatovola_accounts.Goals as goal

pub returns : goal.returns
returns c =
    let a = c.args in
    handed Count a.value.now (λ L. read_ledger L read_accounts) (λ L. quiet-ledger L read_accounts) a.room.now c.accounts.result _ _ c.accounts.ensures c.hand_over.ensures
