-- `validation::validation` meets its contract: the active count, then the rows, then their conservation (Deciding).
use mathlib.Core.Path.{◌≡◌, sym, ap, ◌∙◌}
use mathlib.Core.Option.{some}
use Prim.Native.Nat.{◌≤◌, ◌<◌}
use native.Mathlib.Omega.{arith}
use borrow.Author.Tests.{lt-ltb, le-ltb}
use Rattle.std.specs.Prelude.{Err}
use Rattle.rules.specs.AnswerNumbers.{ActiveReservations}
use Rattle.rules.specs.SnapshotsMigrationCertificates.{validation}
use Rattle.refusals.specs.Answers.{refusal_in}
use Rattle.validation.proofs.Deciding.{decides, goes_on, refuses, passes_on}
use Rattle.validation.proofs.validation.Goals as goal

pub returns-then-active-gt0 : goal.returns-then-active-gt0
unfolding validation
returns-then-active-gt0 c s e =
    let active = c.active-active in
    let some-live : 0 < s.active = omega (arith, active.ensures s e, c.if-active-gt0.true) in
    ap (λ n. some (ActiveReservations n)) (active.ensures s e) ∙ sym (decides _ _ _ (lt-ltb 0 s.active some-live))

pub returns-in_err-rows_validation : goal.returns-in_err-rows_validation
unfolding validation
returns-in_err-rows_validation c s e =
    let none-live : s.active ≤ 0 = omega (arith, c.active-active.ensures s e, c.if-active-gt0.false) in
    let is : c.from_residual.result ≡ Err c.in_err-rows_validation.field-0.0 = grind arith in
    ap refusal_in is ∙ refuses _ (c.in_err-rows_validation.ensures s e) ∙ sym (goes_on _ _ _ (le-ltb 0 s.active none-live))

pub returns : goal.returns
unfolding validation
returns c s e =
    let none-live : s.active ≤ 0 = omega (arith, c.active-active.ensures s e, c.if-active-gt0.false) in
    c.conservation.ensures s e ∙ passes_on _ (c.in_ok-rows_validation.ensures s e) ∙ sym (goes_on _ _ _ (le-ltb 0 s.active none-live))
