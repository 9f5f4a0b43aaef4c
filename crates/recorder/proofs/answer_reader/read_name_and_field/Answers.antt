-- `recorder::answer_reader::read_name_and_field`: `name_end` has told where the name ends, or that there is none (`nameless`); the bytes have just the size that the kinds take
-- (`other-size`, `fit`), and what was read is put in for what stands there.
use mathlib.Core.Path.{◌≡◌, refl, sym, ◌∙◌, ap}
use mathlib.Core.List.{List, [], ◌∷◌}
use mathlib.Core.Option.{some, map}
use Prim.Native.Nat.{ℕ, ◌+◌, ◌-◌, ◌≤◌}
use native.Mathlib.Omega.{arith}
use borrow.Author.Tests.{eq-eqb, le-ltb}
use lib.ListN.{length, take, drop, get_or}
use Rattle.rules.specs.RoomAndSoundLedger.{longest_name}
use Rattle.rules.specs.SnapshotsMigrationCertificates.{number_of}
use Rattle.recorder.specs.Shapes.{Kind, a_word, a_byte, a_name}
use Rattle.recorder.specs.Reading.{filled, values_in}
use Rattle.recorder.proofs.Places.{values_at, carries, nameless, other-size, alike}
use Rattle.recorder.proofs.answer_reader.read_name_and_field.Goals as goal

abbrev kinds : List Kind
kinds = a_name ∷ a_byte ∷ a_word ∷ []

fit : (bs : List ℕ) → get_or bs 1 0 ≤ longest_name → length bs ≡ 2 + get_or bs 1 0 + 1 + 8
    → map (filled 8) (values_at kinds 1 bs) ≡ some (get_or bs 1 0 ∷ get_or bs (2 + get_or bs 1 0) 0 ∷ number_of (take 8 (drop (2 + get_or bs 1 0 + 1) bs)) ∷ 0 ∷ 0 ∷ 0 ∷ 0 ∷ 0 ∷ [])
unfolding values_at
fit bs h e = rw (le-ltb longest_name (get_or bs 1 0) h, eq-eqb (length bs) (2 + get_or bs 1 0 + 1 + 8) e)

pub returns-in_err-end : goal.returns-in_err-end
returns-in_err-end c form same =
    ap values_in c.from_residual.ensures ∙ nameless c.args.bytes.now c.requires.0 (a_byte ∷ a_word ∷ []) (tt, (tt, tt)) c.requires.1 c.in_err-end.ensures form same

pub returns-then-bytes-end : goal.returns-then-bytes-end
returns-then-bytes-end c =
    let (e, l, h) = c.in_ok-end.ensures in
    other-size c.args.bytes.now c.requires.0 kinds (tt, (tt, (tt, tt))) c.requires.1 (omega arith)

pub returns : goal.returns
returns c =
    let bs = c.args.bytes.now in
    let (e, l, h) = c.in_ok-end.ensures in
    let size : c.in_ok-end.end - 2 ≡ get_or bs 1 0 = omega arith in
    carries bs c.requires.0 kinds (tt, (tt, (tt, tt))) c.requires.1 (c.up_to_three.ensures ∙ alike size (c.byte_at.ensures ∙ ap (λ n. get_or bs n 0) e) (c.word_at.ensures ∙ ap (λ n. number_of (take 8 (drop (n + 1) bs))) e) refl refl refl refl refl ∙ sym (fit bs h (omega arith)))
