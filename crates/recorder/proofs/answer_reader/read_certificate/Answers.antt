-- `recorder::answer_reader::read_certificate`: the bytes have just the size that the kinds take, and a flag that is neither 0 nor 1 is refused. What was read is put in for what stands
-- there.
use mathlib.Core.Path.{◌≡◌, sym, ◌∙◌}
use mathlib.Core.List.{List, [], ◌∷◌}
use mathlib.Core.Option.{none, some, map}
use Prim.Native.Nat.{ℕ, ◌≤◌, ◌<◌}
use native.Mathlib.Omega.{arith}
use borrow.Author.Tests.{eq-eqb, lt-ltb, le-ltb}
use lib.ListN.{length, take, drop, get_or}
use Rattle.rules.specs.SnapshotsMigrationCertificates.{number_of}
use Rattle.recorder.specs.Shapes.{Kind, a_word, a_flag}
use Rattle.recorder.specs.Reading.{filled}
use Rattle.recorder.proofs.Places.{values_at, carries, refuses, other-size, alike}
use Rattle.recorder.proofs.answer_reader.read_certificate.Goals as goal

abbrev kinds : List Kind
kinds = a_word ∷ a_word ∷ a_word ∷ a_flag ∷ a_word ∷ a_word ∷ a_flag ∷ a_word ∷ []

module _ (bs : List ℕ) where
  first-flag : 1 < get_or bs 25 0 → values_at kinds 1 bs ≡ none
  unfolding values_at
  first-flag h0 = rw (lt-ltb 1 (get_or bs 25 0) h0)

  second-flag : get_or bs 25 0 ≤ 1 → 1 < get_or bs 42 0 → values_at kinds 1 bs ≡ none
  unfolding values_at
  second-flag h0 h1 = rw (le-ltb 1 (get_or bs 25 0) h0, lt-ltb 1 (get_or bs 42 0) h1)

  fit : get_or bs 25 0 ≤ 1 → get_or bs 42 0 ≤ 1 → length bs ≡ 51 → map (filled 8) (values_at kinds 1 bs)
      ≡ some (number_of (take 8 (drop 1 bs)) ∷ number_of (take 8 (drop 9 bs)) ∷ number_of (take 8 (drop 17 bs)) ∷ get_or bs 25 0 ∷ number_of (take 8 (drop 26 bs)) ∷ number_of (take 8 (drop 34 bs)) ∷ get_or bs 42 0 ∷ number_of (take 8 (drop 43 bs)) ∷ [])
  unfolding values_at
  fit h0 h1 e = rw (le-ltb 1 (get_or bs 25 0) h0, le-ltb 1 (get_or bs 42 0) h1, eq-eqb (length bs) 51 e)

pub returns-then-bytes-ne-LONGEST_OTHER_ANSWER : goal.returns-then-bytes-ne-LONGEST_OTHER_ANSWER
returns-then-bytes-ne-LONGEST_OTHER_ANSWER c = other-size c.args.bytes.now c.requires.0 kinds (tt, (tt, (tt, (tt, (tt, (tt, (tt, (tt, tt)))))))) c.requires.1 (omega arith)

pub returns-then-balanced-gt-YES : goal.returns-then-balanced-gt-YES
returns-then-balanced-gt-YES c =
    let flag = c.byte_at-balanced.ensures in
    refuses c.args.bytes.now c.requires.0 kinds (tt, (tt, (tt, (tt, (tt, (tt, (tt, (tt, tt)))))))) c.requires.1 (first-flag c.args.bytes.now (omega arith))

pub returns-then-representable-gt-YES : goal.returns-then-representable-gt-YES
returns-then-representable-gt-YES c =
    let flag = c.byte_at-balanced.ensures in
    let flag2 = c.byte_at-representable.ensures in
    refuses c.args.bytes.now c.requires.0 kinds (tt, (tt, (tt, (tt, (tt, (tt, (tt, (tt, tt)))))))) c.requires.1 (second-flag c.args.bytes.now (omega arith) (omega arith))

pub returns : goal.returns
returns c =
    let bs = c.args.bytes.now in
    let flag = c.byte_at-balanced.ensures in
    let flag2 = c.byte_at-representable.ensures in
    carries bs c.requires.0 kinds (tt, (tt, (tt, (tt, (tt, (tt, (tt, (tt, tt)))))))) c.requires.1
    (alike c.word_at.ensures c.word_at-2.ensures c.word_at-3.ensures flag
    c.word_at-4.ensures c.word_at-5.ensures flag2 c.word_at-6.ensures
    ∙ sym (fit bs (omega arith) (omega arith) (omega arith)))
