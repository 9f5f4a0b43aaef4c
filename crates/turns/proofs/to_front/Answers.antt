-- `turns::to_front`: what is copied to the front is the part, and nothing stands in front of it.
use mathlib.Core.Path.{◌≡◌, ap, ◌∙◌}
use Prim.Native.Nat.{◌+◌, ◌-◌}
use native.Mathlib.Omega.{arith}
use lib.ListN.{take, drop, length-drop}
use lib.Seq.{paste}
use Rattle.std.proofs.lemmas.List.Edits.{take-paste}
use Rattle.turns.proofs.to_front.Goals as goal

pub returns-clause-front : goal.returns-clause-front
returns-clause-front c =
    let a = c.args in
    let size = a.end - a.from in
    let here : size ≡ 0 + size = omega arith in
    ap (take size) c.copy_within.ensures.after ∙ ap (λ n. take n (paste a.input.now 0 (drop a.from a.input.now) size)) here
    ∙ take-paste a.input.now 0 (drop a.from a.input.now) size (omega arith) (omega (arith, length-drop a.from a.input.now))
