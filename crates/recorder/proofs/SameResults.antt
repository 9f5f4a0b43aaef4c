-- What the recorder's contracts leave open: nothing. Which result it is is read back from its answer; the room, the words and the lent bytes are those that the rules say, and of
-- a line that is no answer those of the digits at its front (`same-front` of digits).
use mathlib.Core.Path.{◌≡◌, sym, ◌∙◌}
use mathlib.Core.Logic.{⊎_elim}
use mathlib.Core.List.{List}
use mathlib.Core.Option.{Option, none, some}
use Prim.Native.Nat.{ℕ, ◌*◌}
use lib.ListN.{length}
use Rattle.std.specs.Prelude.{Result}
use Rattle.rules.specs.AnswerNumbers.{Reply}
use Rattle.rules.specs.Recorder.{Recording, answer_of_line}
use Rattle.rules.proofs.Tests.{less-or-not}
use Rattle.digits.proofs.Decoding.{same-front}
use Rattle.refusals.specs.declared.Refusal.{Refusal}
use Rattle.refusals.specs.Answers.{carries_count}
use Rattle.refusals.proofs.SameResult.{same-result, count-read}
use Rattle.recorder.specs.Recording.{Records}
use Rattle.recorder.specs.Reading.{ReadsAnswer, ReadsLine}

-- ── what is written ────────────────────────────────────────────────────────────────────────────

pub same-recorded : (rule : Recording) (after others : List ℕ) (r q : Result ℕ Refusal) → Records rule after r → Records rule others q → (r ≡ q) × (after ≡ others)
same-recorded rule after others r q one two = (same-result carries_count count-read r q (one.reply ∙ sym two.reply), one.room ∙ sym two.room)

-- ── what is read ───────────────────────────────────────────────────────────────────────────────

pub same_answer : (o : Option Reply) (before after others : List ℕ) (r q : Result (Unit {0}) Refusal) → ReadsAnswer o before after r → ReadsAnswer o before others q → (r ≡ q) × (after ≡ others)
same_answer none before after others r q one two = (one.answer ∙ sym two.answer, one.words ∙ sym two.words)
same_answer (some read) before after others r q one two = (one.answer ∙ sym two.answer, one.words ∙ sym two.words)

pub same_line : (code : ℕ) (line before after others words words-after words-others : List ℕ) (r q : Result (Unit {0}) Refusal)
    → ReadsLine code line before after words words-after r → ReadsLine code line before others words words-others q → (r ≡ q) × (after ≡ others) × (words-after ≡ words-others)
same_line code line before after others words words-after words-others r q one two =
    ⊎_elim
    (λ short. let a = one.too_short short in let b = two.too_short short in
    (a.answer ∙ sym b.answer, a.same_bytes ∙ sym b.same_bytes, a.same_words ∙ sym b.same_words))
    (λ long. let a = one.long_enough long in let b = two.long_enough long in
    let (result, kept) = same_answer (answer_of_line code line) words words-after words-others r q a.answer b.answer in
    (result, (same-front a.front b.front).1, kept))
    (less-or-not (2 * length before) (length line))
