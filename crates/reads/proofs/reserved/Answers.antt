-- `reads::reserved` meets its contract: without an account the ledger's seat of the name has 0 reserved, so no test is needed.
use mathlib.Core.Path.{◌∙◌, ap}
use mathlib.Core.List.{[], ◌∷◌}
use Rattle.rules.specs.AnswerNumbers.{Amount, done}
use Rattle.rules.specs.AccountRules.{operate}
use Rattle.reads.proofs.Seeking.{sought-refused, read-reserved, sought-small}
use Rattle.reads.proofs.reserved.Goals as goal

pub returns-in_default : goal.returns-in_default
unfolding operate
returns-in_default c L room = read-reserved L _ _ (sought-refused L _ _ (c.in_default.ensures L room))

pub amount-requires : goal.amount-requires
amount-requires c = (sought-small _ c.requires _ _ c.in-Ok.ensures).reserved

pub returns : goal.returns
unfolding operate
returns c L room =
    ap (λ z. done (Amount z ∷ [])) c.amount.ensures ∙ read-reserved L _ _ (c.in-Ok.ensures L room)
