-- `reads::committed_since` meets its contract: the baseline of a sound ledger is not above its total, nor above M, which stands for a larger one.
use mathlib.Core.Path.{◌∙◌, ap}
use mathlib.Core.List.{[], ◌∷◌}
use native.Mathlib.Omega.{arith}
use Rattle.rules.specs.RoomAndSoundLedger.{M}
use Rattle.rules.specs.AnswerNumbers.{Amount, done}
use Rattle.reads.proofs.Totals.{since-within, since-reads}
use Rattle.reads.proofs.committed_since.Goals as goal

pub overflow_sub-total : goal.overflow_sub-total
unfolding M
overflow_sub-total c =
    (since-within _ c.requires _ c.sum_committed.ensures _ c.load_head-head.ensures _ c.unwrap_or-total.ensures).0

pub amount-requires : goal.amount-requires
unfolding M
amount-requires c =
    omega (arith, (since-within _ c.requires _ c.sum_committed.ensures _ c.load_head-head.ensures _ c.unwrap_or-total.ensures).1)

pub returns : goal.returns
unfolding M
returns c L room =
    ap (λ z. done (Amount z ∷ [])) c.amount.ensures
    ∙ since-reads _ L room _ (c.sum_committed.ensures L room) _ c.load_head-head.ensures _ c.unwrap_or-total.ensures
