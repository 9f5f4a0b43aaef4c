-- `certificates::certify` meets its contract: by whether the totals fit, one law of Certifying each.
use mathlib.Core.Path.{sym, ◌∙◌}
use Rattle.certificates.proofs.BothTotals.{fit_is, outside-is}
use Rattle.certificates.proofs.Certifying.{certified-outside, certified-fit}
use Rattle.certificates.proofs.certify.Goals as goal

pub returns-in_default : goal.returns-in_default
returns-in_default c s version rows active balanced totals =
    let a = c.args in
    certified-outside s a.since.0 a.version a.rows a.active version rows active (outside-is s.rows (sym c.in_default.is ∙ totals))

pub returns : goal.returns
returns c s version rows active balanced totals =
    let a = c.args in
    certified-fit s a.since.0 a.version a.rows a.active version rows active a.balanced c.in-Some.fitted balanced (fit_is s.rows c.in-Some.fitted (sym c.in-Some.is ∙ totals))
