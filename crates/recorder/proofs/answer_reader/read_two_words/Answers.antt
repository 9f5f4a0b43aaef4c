-- `recorder::answer_reader::read_two_words`: the bytes have just the size that the kinds take (`other-size`, `fit`), and what was read is put in for the numbers that stand there.
use mathlib.Core.Path.{◌≡◌, refl, sym, ◌∙◌}
use mathlib.Core.List.{List, [], ◌∷◌}
use mathlib.Core.Option.{some, map}
use Prim.Native.Nat.{ℕ}
use native.Mathlib.Omega.{arith}
use borrow.Author.Tests.{eq-eqb}
use lib.ListN.{length, take, drop}
use Rattle.rules.specs.SnapshotsMigrationCertificates.{number_of}
use Rattle.recorder.specs.Shapes.{Kind, a_word}
use Rattle.recorder.specs.Reading.{filled}
use Rattle.recorder.proofs.Places.{values_at, carries, other-size, alike}
use Rattle.recorder.proofs.answer_reader.read_two_words.Goals as goal

abbrev kinds : List Kind
kinds = (a_word ∷ a_word ∷ [])

fit : (bs : List ℕ) → length bs ≡ 17 → map (filled 8) (values_at kinds 1 bs) ≡ some (number_of (take 8 (drop 1 bs)) ∷ number_of (take 8 (drop 9 bs)) ∷ 0 ∷ 0 ∷ 0 ∷ 0 ∷ 0 ∷ 0 ∷ [])
unfolding values_at
fit bs e = rw (eq-eqb (length bs) 17 e)

pub returns-then-bytes-ne-TWO_WORDS : goal.returns-then-bytes-ne-TWO_WORDS
returns-then-bytes-ne-TWO_WORDS c = other-size c.args.bytes.now c.requires.0 kinds (tt, (tt, tt)) c.requires.1 (λ e. c.if-bytes-ne-TWO_WORDS.true e)

pub returns : goal.returns
returns c =
    carries c.args.bytes.now c.requires.0 kinds (tt, (tt, tt)) c.requires.1
    (c.up_to_three.ensures ∙ alike c.word_at.ensures c.word_at-2.ensures refl refl refl refl refl refl ∙ sym (fit c.args.bytes.now (omega arith)))
