-- `recorder::answer_reader::read_word`: the bytes have just the size that the kinds take (`other-size`, `fit`), and what was read is put in for the numbers that stand there.
use mathlib.Core.Path.{◌≡◌, refl, sym, ◌∙◌}
use mathlib.Core.List.{List, [], ◌∷◌}
use mathlib.Core.Option.{some, map}
use Prim.Native.Nat.{ℕ}
use native.Mathlib.Omega.{arith}
use borrow.Author.Tests.{eq-eqb}
use lib.ListN.{length, take, drop}
use Rattle.rules.specs.SnapshotsMigrationCertificates.{number_of}
use Rattle.recorder.specs.Shapes.{Kind, a_word}
use Rattle.recorder.specs.Reading.{filled}
use Rattle.recorder.proofs.Places.{values_at, carries, other-size, alike}
use Rattle.recorder.proofs.answer_reader.read_word.Goals as goal

abbrev kinds : List Kind
kinds = (a_word ∷ [])

fit : (bs : List ℕ) → length bs ≡ 9 → map (filled 8) (values_at kinds 1 bs) ≡ some (number_of (take 8 (drop 1 bs)) ∷ 0 ∷ 0 ∷ 0 ∷ 0 ∷ 0 ∷ 0 ∷ 0 ∷ [])
unfolding values_at
fit bs e = rw (eq-eqb (length bs) 9 e)

pub returns-then-bytes-ne-ONE_WORD : goal.returns-then-bytes-ne-ONE_WORD
returns-then-bytes-ne-ONE_WORD c = other-size c.args.bytes.now c.requires.0 kinds (tt, tt) c.requires.1 (λ e. c.if-bytes-ne-ONE_WORD.true e)

pub returns : goal.returns
returns c =
    carries c.args.bytes.now c.requires.0 kinds (tt, tt) c.requires.1
    (c.up_to_three.ensures ∙ alike c.word_at.ensures refl refl refl refl refl refl refl ∙ sym (fit c.args.bytes.now (omega arith)))
