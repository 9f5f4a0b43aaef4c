-- From the values of an answer to the answer: the rules read its number first and pick the form by it, and what they read along the form is the answer's (`answered`).
use mathlib.Core.Path.{◌≡◌, refl, sym, ◌∙◌, ap}
use mathlib.Core.Bool.{cond}
use mathlib.Core.List.{List, [], ◌∷◌, ◌++◌, map}
use mathlib.Core.Option
use mathlib.Core.Option.{Option, none, some}
use Prim.Native.Nat.{ℕ, suc, ◌-◌, ◌≤◌}
use native.Mathlib.Omega.{arith}
use lib.Dec.{eqb}
use lib.ListN.{length, drop, get_or, replicate}
use Rattle.std.specs.Prelude.{Option as Answer, Ok, Err}
use Rattle.rules.specs.AnswerNumbers.{Value, Reply, reply}
use Rattle.rules.specs.SnapshotsMigrationCertificates.{reads, go_on, whole, read_number, read_part}
use Rattle.rules.specs.Recorder.{form_of, read_likes, read_form, read_answer, answer_of_bytes, word_of, words_of}
use Rattle.rules.proofs.Tests.{by_bool, by-option}
use Rattle.rules.proofs.AnswerLines.{form-number}
use Rattle.snapshot_reader.proofs.RowBytes.{goes_on, number-takes, byte_at}
use Rattle.recorder.specs.Shapes.{Kind, kinds_in}
use Rattle.recorder.specs.Reading.{filled, most_words, values_in, Carries, ReadsAnswer}
use Rattle.refusals.specs.declared.Refusal.TheVariants.{BadFrame}

pub empty : (code : ℕ) (bs : List ℕ) → length bs ≡ 0 → answer_of_bytes code bs ≡ none
unfolding answer_of_bytes read_answer read_number read_part
empty code [] h = refl
empty code (b ∷ bs) h = absurd (omega arith)

-- ── the number, and the form ───────────────────────────────────────────────────────────────────

by_number : (code : ℕ) (bs : List ℕ) → 1 ≤ length bs → answer_of_bytes code bs ≡ whole (read_form (form_of code (get_or bs 0 0)) (drop 1 bs))
unfolding answer_of_bytes read_answer
by_number code bs h = ap whole (goes_on (λ n. read_form (form_of code n)) (number-takes bs 0 1 1 refl) h ∙ ap (λ n. read_form (form_of code n) (drop 1 bs)) (byte_at 0 bs))

by_values : (form : Reply) (bs : List ℕ) → whole (read_form (some form) bs) ≡ Option.map (reply form.number) (whole (read_likes form.carried bs))
by_values form bs = by-option (λ o. whole (go_on o (λ vs. reads (reply form.number vs))) ≡ Option.map (reply form.number) (whole o)) (read_likes form.carried bs)
    (λ _. refl)
    (λ r _. by_bool (λ b. cond b (some (reply form.number r.value)) none ≡ Option.map (reply form.number) (cond b (some r.value) none)) (eqb (length r.rest) 0)
    (λ _. refl)
    (λ _. refl))

-- ── the words ──────────────────────────────────────────────────────────────────────────────────

abbrev words_in : Option Reply → Option (List ℕ)
words_in o = Option.map (λ r. filled most_words (words_of r)) o

one_more : (number : ℕ) (words : List ℕ) → number ∷ filled 8 words ≡ filled most_words (number ∷ words)
one_more number words =
    let same : 8 - length words ≡ 9 - suc (length words) = omega arith in
    ap (λ n. number ∷ (words ++ replicate n 0)) same

with_number : (number : ℕ) (o : Option (List Value))
    → Option.map (λ ws. number ∷ ws) (Option.map (λ vs. filled 8 (map word_of vs)) o) ≡ words_in (Option.map (reply number) o)
with_number number none = refl
with_number number (some vs) = ap some (one_more number (map word_of vs))

module _ (code : ℕ) (bs : List ℕ) (h : 1 ≤ length bs) where
  abbrev number : ℕ
  number = get_or bs 0 0

  -- no form has this number
  pub formless : none ≡ kinds_in (form_of code number) → answer_of_bytes code bs ≡ none
  formless e = by_number code bs h ∙ by-option (λ o. none ≡ kinds_in o → whole (read_form o (drop 1 bs)) ≡ none) (form_of code number)
      (λ _ _. refl)
      (λ form _ f. absurd (let z : ◌≡◌ {A = ℕ} 0 1 = cc in omega arith))
      e

  pub answered : (kinds : List Kind) → some kinds ≡ kinds_in (form_of code number) → (r : Answer (List ℕ)) → Carries kinds bs r
      → Option.map (λ ws. number ∷ ws) (values_in r) ≡ words_in (answer_of_bytes code bs)
  answered kinds e r carries = by_form ∙ ap words_in (sym (by_number code bs h))
    where
      by_form : Option.map (λ ws. number ∷ ws) (values_in r) ≡ words_in (whole (read_form (form_of code number) (drop 1 bs)))
      by_form = by-option (λ o. form_of code number ≡ o → some kinds ≡ kinds_in o → Option.map (λ ws. number ∷ ws) (values_in r) ≡ words_in (whole (read_form o (drop 1 bs)))) (form_of code number)
          (λ _ _ same. absurd (let z : ◌≡◌ {A = ℕ} 0 1 = cc in omega arith))
          (λ form _ f same. ap (Option.map (λ ws. number ∷ ws)) (carries form.carried (cc))
          ∙ ap (λ n. Option.map (λ ws. n ∷ ws) (Option.map (λ vs. filled 8 (map word_of vs)) (whole (read_likes form.carried (drop 1 bs))))) (form-number code number form f)
          ∙ with_number form.number (whole (read_likes form.carried (drop 1 bs)))
          ∙ ap words_in (sym (by_values form (drop 1 bs))))
          refl e

pub absent : (o : Option Reply) (before : List ℕ) → o ≡ none → ReadsAnswer o before before (Err BadFrame)
absent o before e = rw e (record { answer = refl; words = refl })

pub no_answer : (o : Option Reply) (before : List ℕ) → none ≡ words_in o → ReadsAnswer o before before (Err BadFrame)
no_answer none before e = record { answer = refl; words = refl }
no_answer (some a) before e = absurd (let z : ◌≡◌ {A = ℕ} 0 1 = cc in omega arith)

pub an-answer : (o : Option Reply) (before after : List ℕ) {words : List ℕ} → some words ≡ words_in o → after ≡ words → ReadsAnswer o before after (Ok tt)
an-answer none before after e same = absurd (let z : ◌≡◌ {A = ℕ} 0 1 = cc in omega arith)
an-answer (some a) before after e same = record { answer = refl; words = cc }
