-- `restoring::check` meets its contract: long names, the version, the validation, and the room for names, in this order; each check that passes leaves the
-- rule's checks after it (Checking).
use mathlib.Core.Path.{◌≡◌, sym, ap, ◌∙◌}
use native.Mathlib.Omega.{arith}
use Prim.Native.Nat.{◌≤◌, ◌<◌}
use lib.ListN.{length}
use Rattle.std.specs.Prelude.{Err}
use Rattle.refusals.specs.Answers.{refusal_in}
use Rattle.restoring.proofs.Checking.{long-name, version-refused, validation-refused, names_full, passes_all}
use Rattle.restoring.proofs.check.Goals as goal

pub returns-then-has_long_name : goal.returns-then-has_long_name
returns-then-has_long_name c s e = long-name c.args.names s c.args.of_version (sym (c.if-has_long_name.ensures s e))

pub returns-in_err-of_version : goal.returns-in_err-of_version
returns-in_err-of_version c s e =
    let is : c.from_residual.result ≡ Err c.in_err-of_version.field-0.0 = grind arith in
    ap refusal_in is ∙ version-refused c.args.names s c.args.of_version (sym (c.if-has_long_name.ensures s e)) c.in_err-of_version.was

pub returns-in_err-validation : goal.returns-in_err-validation
returns-in_err-validation c s e =
    let is : c.from_residual-in_err-validation.result ≡ Err c.in_err-validation.field-0.0 = grind arith in
    ap refusal_in is ∙ validation-refused c.args.names s c.args.of_version (sym (c.if-has_long_name.ensures s e)) c.in_ok-of_version.was (c.in_err-validation.ensures s e)

pub returns : goal.returns
returns c s e =
    let few : length s.rows ≤ c.args.names = omega (arith, c.count.ensures s e) in
    passes_all c.args.names s c.args.of_version (sym (c.if-has_long_name.ensures s e)) c.in_ok-of_version.was (c.in_ok-validation.ensures s e) few

pub returns-then-names-count : goal.returns-then-names-count
returns-then-names-count c s e =
    let few : c.args.names < length s.rows = omega (arith, c.count.ensures s e) in
    names_full c.args.names s c.args.of_version (sym (c.if-has_long_name.ensures s e)) c.in_ok-of_version.was (c.in_ok-validation.ensures s e) few
