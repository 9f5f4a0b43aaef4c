-- `names::precedes` meets its contract: the invariant is that both names agree in the parts passed. The first part that differs decides by the order of its
-- big-endian number (Words), and where none does, the lengths decide.
use mathlib.Core.Path.{◌≡◌, subst}
use Prim.Native.Nat.{◌*◌}
use native.Mathlib.Omega.{arith}
use lib.ListN.{take}
use Rattle.rules.specs.RoomAndSoundLedger.{longest_name}
use Rattle.names.proofs.Words.{compared, by_lengths}
use Rattle.names.proofs.precedes.Goals as goal

pub returns-then-before-here : goal.returns-then-before-here
returns-then-before-here c =
    (compared _ _ c.requires.stored c.loop-k.k _ _ c.requires.bytes c.loop-k-test.true c.loop-k.invariant c.word-before.ensures c.word-here.ensures).less c.if-before-here.true

pub returns-then-here-before : goal.returns-then-here-before
returns-then-here-before c =
    (compared _ _ c.requires.stored c.loop-k.k _ _ c.requires.bytes c.loop-k-test.true c.loop-k.invariant c.word-before.ensures c.word-here.ensures).more c.if-here-before.true

pub loop-k-preserved : goal.loop-k-preserved
loop-k-preserved c =
    (compared _ _ c.requires.stored c.loop-k.k _ _ c.requires.bytes c.loop-k-test.true c.loop-k.invariant c.word-before.ensures c.word-here.ensures).same (omega arith)

pub returns : goal.returns
returns c =
    let e : 8 * c.loop-k.k ≡ longest_name = omega arith in
    by_lengths c.args.left c.args.right c.requires.stored (subst (λ n. take n c.args.left.bytes ≡ take n c.args.right.bytes) e c.loop-k.invariant)
