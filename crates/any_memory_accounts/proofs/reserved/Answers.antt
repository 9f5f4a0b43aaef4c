-- `any_memory_accounts::reserved` meets its contract: of a sound room `reads` promises the rest (Told).
use Rattle.any_memory_accounts.proofs.Told.{told}
use Rattle.any_memory_accounts.proofs.reserved.Goals as goal

pub returns : goal.returns
returns c = told _ _ c.in_ok-expect_sound.ensures _ c.reserved.ensures
