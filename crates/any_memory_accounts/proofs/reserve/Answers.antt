-- `any_memory_accounts::reserve` meets its contract: of a sound room `reservations` promises the rest (soundness, Checked).
use Rattle.soundness.proofs.Checked.{answered}
use Rattle.any_memory_accounts.proofs.reserve.Goals as goal

pub returns : goal.returns
returns c = answered _ _ c.in_ok-expect_sound.ensures _ _ c.reserve.ensures
