-- `reads::committed_total` meets its contract: the sum over the places is the ledger's total, or tells that it is above M.
use mathlib.Core.Path.{◌∙◌, ap}
use mathlib.Core.List.{[], ◌∷◌}
use Rattle.rules.specs.AnswerNumbers.{Amount, done}
use Rattle.reads.proofs.Totals.{within-summed, total-reads}
use Rattle.reads.proofs.committed_total.Goals as goal

pub returns-in_default : goal.returns-in_default
returns-in_default c L room = total-reads L _ (c.in_default.ensures L room)

pub amount-requires : goal.amount-requires
amount-requires c = (within-summed _ _ (c.in-Some.ensures c.requires.ledger c.requires.is_room)).1

pub returns : goal.returns
returns c L room = ap (λ z. done (Amount z ∷ [])) c.amount.ensures ∙ total-reads L _ (c.in-Some.ensures L room)
