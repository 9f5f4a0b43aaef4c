-- `soundness::is_clear` meets its contract: a number shifted by whole bytes is its quotient, which is 0 exactly where the number is below the divisor.
use Prim.Native.Nat.{◌*◌, ◌/◌, ◌^◌, ◌<◌}
use native.Mathlib.Nat.{lt_of_lt_of_le, one-mul, div-eq_of_lt, div-lt_iff_lt-mul}
use native.Mathlib.Omega.{arith}
use borrow.Author.Rules.{rules}
use borrow.Author.Tests.{le-leb}
use lib.Pow.{pow_pos, pow_mono}
use Rattle.soundness.proofs.Deciding.{accept, by_equal}
use Rattle.soundness.proofs.is_clear.Goals as goal

pub returns-then-from-ge8 : goal.returns-then-from-ge8
returns-then-from-ge8 c =
    let fits : c.args.word < 2 ^ 64 = search rules in
    rw (le-leb 8 c.args.from c.if-from-ge8.true) (accept (lt_of_lt_of_le fits (pow_mono {i = 64} (omega arith))))

pub returns-else-from-ge8 : goal.returns-else-from-ge8
returns-else-from-ge8 c =
    let a = c.args in
    by_equal (a.word / 2 ^ (8 * a.from)) 0
    (λ e. rw one-mul at ((div-lt_iff_lt-mul {k = 2 ^ (8 * a.from)} {x = a.word} {y = 1} (pow_pos (8 * a.from))).0 (omega (arith, e))))
    (λ h. div-eq_of_lt h)
