-- `validation::row_validation` meets its contract: its checks are those of the rules, in their order; each return is one law of Validating, from what the
-- tests before it left.
use mathlib.Core.Path.{◌≡◌, sym, ap, ◌∙◌}
use mathlib.Core.Bool.{true, false}
use mathlib.Core.List.{[]}
use lib.IntN.{pos}
use native.Mathlib.Omega.{arith}
use mir.Syntax.{w64}
use mir.Val.{SFits, of_z}
use Rattle.std.proofs.Common.{rules}
use Rattle.std.proofs.lemmas.Int.{ints}
use Rattle.rules.specs.SnapshotsMigrationCertificates.{is_negative}
use Rattle.validation.specs.Judgement.{seen_in}
use Rattle.validation.proofs.Validating.{duplicate, ghost, remaining-negative, initial-negative, committed-negative, valid}
use Rattle.validation.proofs.row_validation.Goals as goal

pub returns-then-seen_earlier : goal.returns-then-seen_earlier
returns-then-seen_earlier c here = duplicate (seen_in [] here.earlier) here.row (sym (c.seen_earlier.ensures here) ∙ c.if-seen_earlier.true)

pub returns-then-reserved-ne0 : goal.returns-then-reserved-ne0
returns-then-reserved-ne0 c here =
    ghost (seen_in [] here.earlier) here.row (sym (c.seen_earlier.ensures here) ∙ c.if-seen_earlier.false) (c.read_row-row.ensures here.row here.later here.from)
    (λ e. c.if-reserved-ne0.true (ap (of_z w64) e))

pub returns-then-remaining-lt0 : goal.returns-then-remaining-lt0
returns-then-remaining-lt0 c here =
    let row = c.read_row-row.result in
    let reserved-fits : SFits w64 row.reserved.0 = search rules in
    let remaining-fits : SFits w64 row.remaining.0 = search rules in
    let empty : row.reserved.0 ≡ pos 0 = omega (arith, ints) in
    let sign : is_negative row.remaining.0 ≡ true = grind (arith, ints) in
    remaining-negative (seen_in [] here.earlier) here.row (sym (c.seen_earlier.ensures here) ∙ c.if-seen_earlier.false) (c.read_row-row.ensures here.row here.later here.from)
    empty sign

pub returns-then-initial-lt0 : goal.returns-then-initial-lt0
returns-then-initial-lt0 c here =
    let row = c.read_row-row.result in
    let reserved-fits : SFits w64 row.reserved.0 = search rules in
    let remaining-fits : SFits w64 row.remaining.0 = search rules in
    let initial-fits : SFits w64 row.initial.0 = search rules in
    let empty : row.reserved.0 ≡ pos 0 = omega (arith, ints) in
    let remaining : is_negative row.remaining.0 ≡ false = grind (arith, ints) in
    let sign : is_negative row.initial.0 ≡ true = grind (arith, ints) in
    initial-negative (seen_in [] here.earlier) here.row (sym (c.seen_earlier.ensures here) ∙ c.if-seen_earlier.false) (c.read_row-row.ensures here.row here.later here.from)
    empty remaining sign

pub returns-then-committed-lt0 : goal.returns-then-committed-lt0
returns-then-committed-lt0 c here =
    let row = c.read_row-row.result in
    let reserved-fits : SFits w64 row.reserved.0 = search rules in
    let remaining-fits : SFits w64 row.remaining.0 = search rules in
    let initial-fits : SFits w64 row.initial.0 = search rules in
    let committed-fits : SFits w64 row.committed.0 = search rules in
    let empty : row.reserved.0 ≡ pos 0 = omega (arith, ints) in
    let remaining : is_negative row.remaining.0 ≡ false = grind (arith, ints) in
    let initial : is_negative row.initial.0 ≡ false = grind (arith, ints) in
    let sign : is_negative row.committed.0 ≡ true = grind (arith, ints) in
    committed-negative (seen_in [] here.earlier) here.row (sym (c.seen_earlier.ensures here) ∙ c.if-seen_earlier.false) (c.read_row-row.ensures here.row here.later here.from)
    empty remaining initial sign

pub returns : goal.returns
returns c here =
    let row = c.read_row-row.result in
    let reserved-fits : SFits w64 row.reserved.0 = search rules in
    let remaining-fits : SFits w64 row.remaining.0 = search rules in
    let initial-fits : SFits w64 row.initial.0 = search rules in
    let committed-fits : SFits w64 row.committed.0 = search rules in
    let empty : row.reserved.0 ≡ pos 0 = omega (arith, ints) in
    let remaining : is_negative row.remaining.0 ≡ false = grind (arith, ints) in
    let initial : is_negative row.initial.0 ≡ false = grind (arith, ints) in
    let sign : is_negative row.committed.0 ≡ false = grind (arith, ints) in
    valid (seen_in [] here.earlier) here.row (sym (c.seen_earlier.ensures here) ∙ c.if-seen_earlier.false) (c.read_row-row.ensures here.row here.later here.from)
    empty remaining initial sign
