-- `recorder::answer_reader::read_name`: `name_end` has told where the name ends, or that there is none (`nameless`); the bytes have just the size that the kinds take
-- (`other-size`, `fit`), and what was read is put in for what stands there.
use mathlib.Core.Path.{◌≡◌, refl, sym, ◌∙◌, ap}
use mathlib.Core.List.{List, [], ◌∷◌}
use mathlib.Core.Option.{some, map}
use Prim.Native.Nat.{ℕ, ◌+◌, ◌-◌, ◌≤◌}
use native.Mathlib.Omega.{arith}
use borrow.Author.Tests.{eq-eqb, le-ltb}
use lib.ListN.{length, get_or}
use Rattle.rules.specs.RoomAndSoundLedger.{longest_name}
use Rattle.recorder.specs.Shapes.{Kind, a_name}
use Rattle.recorder.specs.Reading.{filled, values_in}
use Rattle.recorder.proofs.Places.{values_at, carries, nameless, other-size, alike}
use Rattle.recorder.proofs.answer_reader.read_name.Goals as goal

abbrev kinds : List Kind
kinds = a_name ∷ []

fit : (bs : List ℕ) → get_or bs 1 0 ≤ longest_name → length bs ≡ 2 + get_or bs 1 0
    → map (filled 8) (values_at kinds 1 bs) ≡ some (get_or bs 1 0 ∷ 0 ∷ 0 ∷ 0 ∷ 0 ∷ 0 ∷ 0 ∷ 0 ∷ [])
unfolding values_at
fit bs h e = rw (le-ltb longest_name (get_or bs 1 0) h, eq-eqb (length bs) (2 + get_or bs 1 0) e)

pub returns-in_err-end : goal.returns-in_err-end
returns-in_err-end c form same =
    ap values_in c.from_residual.ensures ∙ nameless c.args.bytes.now c.requires.0 ([]) tt c.requires.1 c.in_err-end.ensures form same

pub returns-then-bytes-end : goal.returns-then-bytes-end
returns-then-bytes-end c =
    let (e, l, h) = c.in_ok-end.ensures in
    other-size c.args.bytes.now c.requires.0 kinds (tt, tt) c.requires.1 (omega arith)

pub returns : goal.returns
returns c =
    let bs = c.args.bytes.now in
    let (e, l, h) = c.in_ok-end.ensures in
    let size : c.in_ok-end.end - 2 ≡ get_or bs 1 0 = omega arith in
    carries bs c.requires.0 kinds (tt, tt) c.requires.1 (c.up_to_three.ensures ∙ alike size refl refl refl refl refl refl refl ∙ sym (fit bs h (omega arith)))
