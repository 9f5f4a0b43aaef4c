-- `filling::natural` meets its contract: an amount that is not negative is held as the number it is, so the cast keeps it.
use mathlib.Core.Path.{◌≡◌, sym, ◌∙◌, ap, subst}
use native.Mathlib.Omega.{arith}
use lib.Dec.{T}
use lib.IntN.{pos, nat_abs}
use lib.Signed.{mag, non_neg}
use mir.Syntax.{w64}
use mir.Val.{Fits}
use Rattle.rules.specs.AccountRules.{natural}
use Rattle.numbers.proofs.Amounts.{held, held-is, natural-is}
use Rattle.filling.proofs.natural.Lts as place
use Rattle.filling.proofs.natural.Tie as tie
use Rattle.filling.proofs.natural.Goals as goal

abbrev After-struct_told-1 : Type 0
After-struct_told-1 = place.After-struct_told tie.handed_pre tie.handed_post

-- an amount that is not negative is held as the number it is
is-natural : (c : After-struct_told-1) → let z = c.args.amount.0 in (z ≡ pos (mag z)) × (held z ≡ pos (mag z))
is-natural c =
    let z = c.args.amount.0 in
    let n = natural-is z c.requires in
    (n, held-is z c.struct_told-1.given.0.1 ∙ n)

pub overflow_cast-result : goal.overflow_cast-result
overflow_cast-result c = subst (λ z. T (non_neg z) × Fits w64 (nat_abs z)) (sym (is-natural c).1) (tt, record { fits = omega (arith, c.struct_told-1.given.0.1) })

pub returns : goal.returns
returns c = ap nat_abs (is-natural c).1 ∙ sym (ap natural (is-natural c).0)
