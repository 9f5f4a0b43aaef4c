-- `names::precedes` meets its contract: the invariant is that both names agree in the parts passed. The first part that differs decides by the order of its
-- big-endian number (Words), and where none does, the lengths decide.
use mathlib.Core.Path.{◌≡◌}
use Prim.Native.Nat.{◌*◌}
use lib.ListN.{take}
use Rattle.names.proofs.precedes.Given as goal

abbrev pub invariant-loop-k : goal.invariant-loop-k
invariant-loop-k l = take (8 * l.k) l.left.bytes ≡ take (8 * l.k) l.right.bytes
