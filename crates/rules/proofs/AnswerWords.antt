-- An answer in words, both ways: the words of an answer that an operation can get, with its name or snapshot as the part, come to that answer again, whatever stands behind
-- them. It goes value by value along the form.
use mathlib.Core.Path.{◌≡◌, refl, sym, ◌∙◌, ap}
use mathlib.Core.Bool.{true, false}
use mathlib.Core.List.{List, [], ◌∷◌, ◌++◌, map}
use mathlib.Core.Option
use mathlib.Core.Option.{some}
use Prim.Native.Nat.{ℕ}
use native.Mathlib.Omega.{arith}
use borrow.Author.Tests.{le-ltb}
use Rattle.rules.specs.Lists.{All}
use Rattle.rules.specs.AnswerNumbers.{Value, Amount, Identifier, Version, Fence, Count, Field, YesOrNo, TheName, SnapshotBytes, Reply, reply}
use Rattle.rules.specs.SnapshotsMigrationCertificates.{snapshot_bytes, snapshot_of_bytes}
use Rattle.rules.specs.Recorder.{form_of, Holds, HoldsAll, OfForm, CanAnswer, word_of, words_of, value_like, values_like, form_filled, answer_of_words}
use Rattle.rules.proofs.Tests.{by-option}
use Rattle.rules.proofs.Numbers.{signed-of-word}
use Rattle.rules.proofs.SnapshotBytes.{snapshot-reads-back}
use Rattle.rules.proofs.AnswerLines.{form-number}

-- a name or a snapshot is the part
abbrev pub IsPart : (part : List ℕ) → Value → Type 0
IsPart part (Amount z) = Unit {0}
IsPart part (Identifier n) = Unit {0}
IsPart part (Version n) = Unit {0}
IsPart part (Fence n) = Unit {0}
IsPart part (Count n) = Unit {0}
IsPart part (Field n) = Unit {0}
IsPart part (YesOrNo b) = Unit {0}
IsPart part (TheName a) = a ≡ part
IsPart part (SnapshotBytes bs) = bs ≡ part

value-back : (part : List ℕ) (v w : Value) → Holds v w → IsPart part w → value_like v (word_of w) part ≡ some w
value-back part (Amount y) w (z, e, h) is = rw (e, signed-of-word z h)
value-back part (Identifier m) w (n, e, h) is = rw e
value-back part (Version m) w (n, e, h) is = rw e
value-back part (Fence m) w (n, e, h) is = rw e
value-back part (Count m) w (n, e, h) is = rw e
value-back part (Field m) w (n, e, h) is = rw (e, le-ltb 255 n (omega arith))
value-back part (YesOrNo c) w (true, e) is = rw e
value-back part (YesOrNo c) w (false, e) is = rw e
value-back part (TheName b) w (a, e, bytes, short) is = rw e (ap (λ l. some (TheName l)) (sym (rw e at is)))
value-back part (SnapshotBytes bs) w (s, e, fits, short) is =
    rw e (ap (λ l. Option.map (λ t. SnapshotBytes (snapshot_bytes t)) (snapshot_of_bytes l)) (sym (rw e at is)) ∙ ap (Option.map (λ t. SnapshotBytes (snapshot_bytes t))) (snapshot-reads-back s fits))

values-back : (part : List ℕ) (vs ws : List Value) → HoldsAll vs ws → All (IsPart part) ws → (more : List ℕ) → values_like vs (map word_of ws ++ more) part ≡ some ws
unfolding values_like
values-back part [] [] h is more = refl
values-back part [] (w ∷ ws) h is more = absurd h
values-back part (v ∷ vs) [] h is more = absurd h
values-back part (v ∷ vs) (w ∷ ws) (h, k) (i, j) more = rw (value-back part v w h i, values-back part vs ws k j more)

pub words_back : (code : ℕ) (r : Reply) → CanAnswer code r → (part : List ℕ) → All (IsPart part) r.carried → (more : List ℕ) → answer_of_words code (words_of r ++ more) part ≡ some r
unfolding answer_of_words
words_back code r can part is more = by-option (λ o. form_of code r.number ≡ o → OfForm o r → form_filled o (map word_of r.carried ++ more) part ≡ some r) (form_of code r.number)
    (λ _ _ h. absurd h)
    (λ form _ e h. ap (Option.map (reply form.number)) (values-back part form.carried r.carried h is more) ∙ ap (λ n. some (reply n r.carried)) (sym (form-number code r.number form e)))
    refl can
