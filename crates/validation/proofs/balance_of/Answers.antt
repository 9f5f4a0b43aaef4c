-- `validation::balance_of` meets its contract: the total of two words is the exact sum, fitted or not. Each return is one law of Balancing.
use mathlib.Core.Path.{◌≡◌, sym, ap, ◌∙◌}
use mathlib.Core.Bool.{true, false}
use mir.Syntax.{w64}
use mir.Val.{SFits, of_z}
use Rattle.std.proofs.lemmas.Int.{ints}
use native.Mathlib.Omega.{arith}
use Rattle.std.proofs.Common.{rules}
use Rattle.rules.specs.SnapshotsMigrationCertificates.{is_negative}
use Rattle.validation.proofs.Balancing.{added_up, overflows, delta-overflows, differs, below_zero, balanced, same_bits}
use Rattle.validation.proofs.balance_of.Goals as goal

pub returns-in_default : goal.returns-in_default
returns-in_default c a =
    overflows a _ (added_up c.nothing.result c.plus.result c.plus-held.result c.plus-sum.result c.nothing.ensures.value c.plus.ensures.value c.plus-held.ensures.value c.plus-sum.ensures.value) (sym c.fit.ensures ∙ c.in_default.is)

pub returns-then-remaining-lt0 : goal.returns-then-remaining-lt0
returns-then-remaining-lt0 c a =
    let exact-fits : SFits w64 c.in-Some.exact.0 = search rules in
    let initial-fits : SFits w64 c.args.initial.0 = search rules in
    let negative : is_negative c.args.remaining.0 ≡ true = grind (arith, ints) in
    below_zero a _ (added_up c.nothing.result c.plus.result c.plus-held.result c.plus-sum.result c.nothing.ensures.value c.plus.ensures.value c.plus-held.ensures.value c.plus-sum.ensures.value) (sym c.fit.ensures ∙ c.in-Some.is)
    (same_bits exact-fits initial-fits c.if-exact-initial.true) negative

pub returns-then-exact-initial : goal.returns-then-exact-initial
returns-then-exact-initial c a =
    let exact-fits : SFits w64 c.in-Some.exact.0 = search rules in
    let initial-fits : SFits w64 c.args.initial.0 = search rules in
    let natural : is_negative c.args.remaining.0 ≡ false = grind (arith, ints) in
    balanced a _ (added_up c.nothing.result c.plus.result c.plus-held.result c.plus-sum.result c.nothing.ensures.value c.plus.ensures.value c.plus-held.ensures.value c.plus-sum.ensures.value) (sym c.fit.ensures ∙ c.in-Some.is)
    (same_bits exact-fits initial-fits c.if-exact-initial.true) natural

pub returns-in_default-fit : goal.returns-in_default-fit
returns-in_default-fit c a =
    delta-overflows a _ (added_up c.nothing.result c.plus.result c.plus-held.result c.plus-sum.result c.nothing.ensures.value c.plus.ensures.value c.plus-held.ensures.value c.plus-sum.ensures.value) (sym c.fit.ensures ∙ c.in-Some.is)
    (λ e. c.if-exact-initial.false (ap (of_z w64) e)) c.minus.result c.minus.ensures.value (sym c.fit-2.ensures ∙ c.in_default-fit.is)

pub returns : goal.returns
returns c a =
    differs a _ (added_up c.nothing.result c.plus.result c.plus-held.result c.plus-sum.result c.nothing.ensures.value c.plus.ensures.value c.plus-held.ensures.value c.plus-sum.ensures.value) (sym c.fit.ensures ∙ c.in-Some.is)
    (λ e. c.if-exact-initial.false (ap (of_z w64) e)) c.minus.result c.minus.ensures.value (sym c.fit-2.ensures ∙ c.in-Some-fit.is)
