-- `digits::front_bytes`, by a loop whose invariant is `Underway`: the bytes of the pairs passed stand at the room's front. Decoding.antt says what a further
-- pair adds (`turn`), and what a wrong pair and the line's end come to (`wrong`, `finished`), and how the iterator takes the pairs (`pair-taken`).
use mathlib.Core.Path.{◌≡◌, ap, ◌∙◌}
use mathlib.Core.Logic.{inl, inr, ⊎_elim}
use native.Mathlib.Omega.{arith}
use borrow.Author.Rules.{rules}
use Rattle.std.specs.Iterator.Adapters.{enumerate_count}
use Rattle.rules.specs.Frames.{digit_of}
use Rattle.digits.proofs.Tables.{gives}
use Rattle.digits.proofs.Decoding.{begun, turn, wrong, finished, pair-taken, pairs-left, no-pair-left}
use Rattle.digits.proofs.front_bytes.Goals as goal

-- `gives`: the code's 256 entries are computed here, once, to be those of `digit_of`
pub loop-i-init : goal.loop-i-init
loop-i-init c =
    let none : enumerate_count c.into_iter-i-iterator.result ≡ 0 = ap enumerate_count c.into_iter-i-iterator.ensures.into_iter_gives ∙ c.enumerate-i-items.ensures.count in record {
      can = search rules;
      left = rw none record { two = search rules; rest = search rules; inside = omega arith };
      decoded = rw none (begun c.args.line.now c.args.bytes.now);
      table = gives digit_of 256;
    }

pub bounds-bytes-i : goal.bounds-bytes-i
bounds-bytes-i c =
    let s = c.in-Some.ensures.steps in
    let p = pair-taken c.loop-i.invariant.left _ _ s.0.1.0 s.0.1.1 c.digit-high.ensures c.digit-low.ensures in
    omega (arith, p.inside, s.1)

pub returns-then-high-gt15 : goal.returns-then-high-gt15
returns-then-high-gt15 c =
    let k = c.loop-i.invariant in
    let s = c.in-Some.ensures.steps in
    let p = pair-taken k.left _ _ s.0.1.0 s.0.1.1 c.digit-high.ensures c.digit-low.ensures in
    rw s.1 (wrong k.decoded p (⊎_elim inl (λ w. inr w.1) c.then-high-gt15.either) (omega (arith, p.inside)))

pub loop-i-preserved : goal.loop-i-preserved
loop-i-preserved c =
    let k = c.loop-i.invariant in
    let s = c.in-Some.ensures.steps in
    let p = pair-taken k.left _ _ s.0.1.0 s.0.1.1 c.digit-high.ensures c.digit-low.ensures in record {
      can = search rules;
      left = rw s.2 (pairs-left k.left _ _ s.0.1.0 s.0.1.1 s.0.0);
      decoded = rw (s.2, s.1) (turn k.decoded p c.join.result c.join.ensures (search rules) (search rules) (omega (arith, p.inside)));
      table = k.table;
    }

pub returns : goal.returns
returns c =
    let k = c.loop-i.invariant in
    let half = no-pair-left k.left c.in-None.ensures.steps.0.1.0 in
    rw half (finished k.decoded k.left.inside (omega (arith, half)) (omega (arith, half)))
