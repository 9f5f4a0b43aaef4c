-- `recorder::answer_reader::read_proof`: the bytes have just the size that the kinds take, and a flag that is neither 0 nor 1 is refused. What was read is put in for what stands
-- there.
use mathlib.Core.Path.{◌≡◌, refl, sym, ◌∙◌}
use mathlib.Core.List.{List, [], ◌∷◌}
use mathlib.Core.Option.{none, some, map}
use Prim.Native.Nat.{ℕ, ◌≤◌, ◌<◌}
use native.Mathlib.Omega.{arith}
use borrow.Author.Tests.{eq-eqb, lt-ltb, le-ltb}
use lib.ListN.{length, take, drop, get_or}
use Rattle.rules.specs.SnapshotsMigrationCertificates.{number_of}
use Rattle.recorder.specs.Shapes.{Kind, a_word, a_flag}
use Rattle.recorder.specs.Reading.{filled}
use Rattle.recorder.proofs.Places.{values_at, carries, refuses, other-size, alike}
use Rattle.recorder.proofs.answer_reader.read_proof.Goals as goal

abbrev kinds : List Kind
kinds = a_word ∷ a_word ∷ a_word ∷ a_word ∷ a_word ∷ a_flag ∷ []

module _ (bs : List ℕ) where
  first-flag : 1 < get_or bs 41 0 → values_at kinds 1 bs ≡ none
  unfolding values_at
  first-flag h0 = rw (lt-ltb 1 (get_or bs 41 0) h0)

  fit : get_or bs 41 0 ≤ 1 → length bs ≡ 42 → map (filled 8) (values_at kinds 1 bs)
      ≡ some (number_of (take 8 (drop 1 bs)) ∷ number_of (take 8 (drop 9 bs)) ∷ number_of (take 8 (drop 17 bs)) ∷ number_of (take 8 (drop 25 bs)) ∷ number_of (take 8 (drop 33 bs)) ∷ get_or bs 41 0 ∷ 0 ∷ 0 ∷ [])
  unfolding values_at
  fit h0 e = rw (le-ltb 1 (get_or bs 41 0) h0, eq-eqb (length bs) 42 e)

pub returns-then-bytes-ne-PROOF_SIZE : goal.returns-then-bytes-ne-PROOF_SIZE
returns-then-bytes-ne-PROOF_SIZE c = other-size c.args.bytes.now c.requires.0 kinds (tt, (tt, (tt, (tt, (tt, (tt, tt)))))) c.requires.1 (omega arith)

pub returns-then-proved-gt-YES : goal.returns-then-proved-gt-YES
returns-then-proved-gt-YES c =
    let flag = c.byte_at-proved.ensures in
    refuses c.args.bytes.now c.requires.0 kinds (tt, (tt, (tt, (tt, (tt, (tt, tt)))))) c.requires.1 (first-flag c.args.bytes.now (omega arith))

pub returns : goal.returns
returns c =
    let bs = c.args.bytes.now in
    let flag = c.byte_at-proved.ensures in
    carries bs c.requires.0 kinds (tt, (tt, (tt, (tt, (tt, (tt, tt)))))) c.requires.1
    (alike c.word_at.ensures c.word_at-2.ensures c.word_at-3.ensures c.word_at-4.ensures c.word_at-5.ensures flag refl refl
    ∙ sym (fit bs (omega arith) (omega arith)))
