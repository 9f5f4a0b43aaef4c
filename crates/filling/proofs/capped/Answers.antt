-- `filling::capped` meets its contract: a sum above M is no sum to `numbers::plus`, and M is then the smaller.
use mathlib.Core.Path.{◌≡◌, ◌∙◌, ap}
use Prim.Native.Nat.{ℕ, ◌+◌, min}
use native.Mathlib.Omega.{arith}
use borrow.Author.Tests.{ltb-true, ltb-false}
use lib.Dec.{ltb}
use Rattle.std.specs.Prelude.{cond, None, Some}
use Rattle.std.specs.Option.{unwrap_or}
use Rattle.rules.specs.RoomAndSoundLedger.{M}
use Rattle.rules.proofs.Tests.{by-test}
use Rattle.numbers.specs.Amounts.{sum_of}
use Rattle.filling.proofs.capped.Goals as goal

lesser : (a b : ℕ) → unwrap_or (sum_of a b) M ≡ min (a + b) M
lesser a b = by-test (λ o. unwrap_or o M ≡ min (a + b) M) (ltb M (a + b))
    (λ t. omega (arith, ltb-true M (a + b) t))
    (λ t. omega (arith, ltb-false M (a + b) t))

pub returns : goal.returns
unfolding M
returns c = c.unwrap_or.ensures ∙ ap (λ o. unwrap_or o M) c.plus.ensures ∙ lesser c.args.total c.args.more
