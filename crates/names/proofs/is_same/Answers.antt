-- `names::is_same` meets its contract: names of one length with the same byte at each index are one name.
use mathlib.Core.Path.{◌≡◌, ◌∙◌}
use borrow.Author.Rules.{rules}
use borrow.Author.Tests.{ne_eqb}
use Rattle.std.proofs.iter.runs.Sources.{ranges}
use Rattle.std.specs.Prelude.{IsTrue, EachIndex, slice_index, ◌↔◌}
use Rattle.names.proofs.Comparing.{other-length, same-bytes}
use Rattle.names.proofs.is_same.Goals as goal

pub returns-then-left-right : goal.returns-then-left-right
returns-then-left-right c =
    let l = c.args.left.now in
    let r = c.args.right.now in
    let told : IsTrue c.all.result ↔ EachIndex l (λ k. slice_index l k ≡ slice_index r k) = search (rules, ranges) in
    same-bytes l r c.all.result c.if-left-right.true told

pub returns-else-left-right : goal.returns-else-left-right
returns-else-left-right c = ne_eqb _ _ c.if-left-right.false ∙ other-length c.args.left.now c.args.right.now c.if-left-right.false
