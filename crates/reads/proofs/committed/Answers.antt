-- `reads::committed` meets its contract: of the ledger's seat of the name it tells what the rule reads, and of a name that is too long 19.
use mathlib.Core.Path.{◌∙◌}
use native.Mathlib.Omega.{arith}
use Rattle.rules.specs.AccountRules.{operate}
use Rattle.reads.proofs.Seeking.{taken-before, sought-refused, read-account, sought-small}
use Rattle.reads.proofs.committed.Goals as goal

pub returns-in_default : goal.returns-in_default
unfolding operate
returns-in_default c L room = read-account L _ (λ a. a.committed) _ (sought-refused L _ _ (c.in_default.ensures L room))

pub of_account-requires : goal.of_account-requires
of_account-requires c = omega (arith, sought-small _ c.requires _ _ c.in-Ok.ensures)

pub returns : goal.returns
unfolding operate
returns c L room = c.of_account.ensures ∙ taken-before (λ s. s.committed) _ ∙ read-account L _ (λ a. a.committed) _ (c.in-Ok.ensures L room)
