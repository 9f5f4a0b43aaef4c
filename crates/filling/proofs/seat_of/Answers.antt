-- `filling::seat_of` meets its contract: each amount by `natural`, and the seat field by field.
use mathlib.Core.Path.{◌∙◌, ap}
use Rattle.rules.specs.AccountRules.{natural}
use Rattle.filling.proofs.seat_of.Goals as goal

pub returns : goal.returns
returns c row initial remaining committed =
    let i = c.natural.ensures ∙ ap natural initial in
    let m = c.natural-2.ensures ∙ ap natural remaining in
    let v = c.natural-3.ensures ∙ ap natural committed in
    λ j. record { initial = i j; remaining = m j; reserved = 0; committed = v j; limit = 0; account = 1 }
