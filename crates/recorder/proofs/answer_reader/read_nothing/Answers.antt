-- `recorder::answer_reader::read_nothing`: the bytes have just the size that the kinds take (`other-size`, `fit`), and what was read is put in for the numbers that stand there.
use mathlib.Core.Path.{◌≡◌, refl, sym, ◌∙◌}
use mathlib.Core.List.{List, [], ◌∷◌}
use mathlib.Core.Option.{some, map}
use Prim.Native.Nat.{ℕ}
use native.Mathlib.Omega.{arith}
use borrow.Author.Tests.{eq-eqb}
use lib.ListN.{length}
use Rattle.recorder.specs.Shapes.{Kind}
use Rattle.recorder.specs.Reading.{filled}
use Rattle.recorder.proofs.Places.{values_at, carries, other-size, alike}
use Rattle.recorder.proofs.answer_reader.read_nothing.Goals as goal

abbrev kinds : List Kind
kinds = []

fit : (bs : List ℕ) → length bs ≡ 1 → map (filled 8) (values_at kinds 1 bs) ≡ some (0 ∷ 0 ∷ 0 ∷ 0 ∷ 0 ∷ 0 ∷ 0 ∷ 0 ∷ [])
unfolding values_at
fit bs e = rw (eq-eqb (length bs) 1 e)

pub returns-then-bytes-ne1 : goal.returns-then-bytes-ne1
returns-then-bytes-ne1 c = other-size c.args.bytes.now c.requires.0 kinds tt c.requires.1 (λ e. c.if-bytes-ne1.true e)

pub returns : goal.returns
returns c =
    carries c.args.bytes.now c.requires.0 kinds tt c.requires.1
    (c.up_to_three.ensures ∙ alike refl refl refl refl refl refl refl refl ∙ sym (fit c.args.bytes.now (omega arith)))
