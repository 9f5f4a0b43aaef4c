-- The answers to the lines that a step hands on, behind those to all lines before: the rules' answers go line by line (`answers-append`), and so does the
-- ledger (`lent-append`).
use mathlib.Core.Path.{◌≡◌, refl, sym, subst, ap, ◌∙◌}
use mathlib.Core.Logic.{⊎_elim}
use mathlib.Core.Bool.{Bool, true, false}
use mathlib.Core.List.{List, [], ◌∷◌, ◌++◌, append-nil}
use mathlib.Core.Option.{Option}
use Prim.Native.Nat.{ℕ, ◌≤◌, ◌<◌}
use native.Mathlib.Omega.{arith}
use lib.ListN.{length, take, drop, length-append, take-append-drop}
use lib.Seq.{take_at, append_snoc}
use Rattle.rules.specs.AnswerNumbers.{Lent, sound, unsound}
use Rattle.rules.specs.Frames.{Operation, line_feed, answer_line, answer_or23, answer_to_line, operation_of_line, answers_to_lines, lent_after}
use Rattle.rules.proofs.EveryLine.{answers-append, lent-append}
use Rattle.rules.proofs.Tests.{less-or-not}
use Rattle.frames.specs.Answering.{IsLent, OfLent}
use Rattle.frames.proofs.Arms.{room-bounds}
use Rattle.lines.specs.Batching.{IsLine, line_room, with_feeds, AnswersLine, Batches}
use Rattle.lines.specs.declared.Progress.{Progress}
use Rattle.turns.specs.Turns.{longest_answer_line, Reads, Answers}
use Rattle.turns.proofs.Reading.{nothing_read, none-held, handed}

-- before anything is read
pub begins : (l : Lent) (capacity : ℕ) (memory : List ℕ) → IsLent memory l → Answers l capacity [] [] memory false []
unfolding answers_to_lines lent_after
begins l capacity memory is = record { handed_on = []; reads = nothing_read capacity; answered = refl; lent = is }

-- a bound that holds whatever the memory is lent as holds: were it broken, the memory would be no ledger's room, and so be lent as that
pub of-any : (memory : List ℕ) (m n : ℕ) → OfLent memory (λ l. m ≤ n) → m ≤ n
of-any memory m n bound =
    ⊎_elim (λ over. let no_room : IsLent memory unsound = λ L is. omega (arith, bound (sound L) is) in omega (arith, bound unsound no_room)) (λ within. within) (less-or-not n m)

-- ── one line ───────────────────────────────────────────────────────────────────────────────────

module _ (line : List ℕ) {before after output output-after : List ℕ} {l : Lent} {size : ℕ} (a : AnswersLine (operation_of_line line) l before after output output-after size) where
  pub line-written : take size output-after ≡ answers_to_lines l (line ∷ [])
  unfolding answers_to_lines answer_to_line
  line-written =
      let text = answer_line (answer_or23 l (operation_of_line line)).reply in
      ap (take size) (a.output ∙ sym (append_snoc text line_feed (drop size output)))
      ∙ take_at (text ++ (line_feed ∷ [])) (drop size output) size (omega (arith, length-append text (line_feed ∷ []), a.size))

  pub line-lent : IsLent after (lent_after l (line ∷ []))
  unfolding lent_after answer_to_line
  line-lent = a.lent

-- no answer line is longer
pub has_room : (o : Option Operation) → line_room o ≤ longest_answer_line
has_room o = omega (arith, room-bounds o)

-- ── a step ─────────────────────────────────────────────────────────────────────────────────────

module _ {l : Lent} {capacity : ℕ} {read written memory held : List ℕ} {passing : Bool} (a : Answers l capacity read written memory passing held) where
  -- lines handed on and answered
  pub further : (lines : List (List ℕ)) (passing-after : Bool) (held_after more after : List ℕ) → Reads capacity read (a.handed_on ++ lines) passing-after held_after
      → more ≡ answers_to_lines (lent_after l a.handed_on) lines → IsLent after (lent_after (lent_after l a.handed_on) lines)
      → Answers l capacity read (written ++ more) after passing-after held_after
  further lines passing-after held_after more after reads is lent = record {
    handed_on = a.handed_on ++ lines;
    reads = reads;
    answered = ap (λ front. front ++ more) a.answered ∙ ap (λ later. answers_to_lines l a.handed_on ++ later) is ∙ sym (answers-append l a.handed_on lines);
    lent = subst (IsLent after) (sym (lent-append l a.handed_on lines)) lent;
  }

  -- where something is held no line is passed over
  pub not-passing : 0 < length held → Answers l capacity read written memory false held
  not-passing some = go passing a
    where
      go : (passing : Bool) → Answers l capacity read written memory passing held → Answers l capacity read written memory false held
      go false a = a
      go true a = absurd (omega (arith, ap length (none-held a.reads)))

  -- nothing is written
  pub unwritten : Answers l capacity read (written ++ []) memory passing held
  unwritten = subst (λ text. Answers l capacity read text memory passing held) (sym (append-nil written)) a

-- a batch that uses nothing answers nothing, and what is lent stays lent
pub none-batched : {l : Lent} {input before after output output-after : List ℕ} {b : Progress} → longest_answer_line ≤ length output → b.used ≡ 0
    → Batches l input before after output output-after b → IsLent after l × IsLine input
unfolding with_feeds answers_to_lines lent_after
none-batched {l} {input} {after = after} {output = output} {b = b} enough unused batch = go batch.lines batch.used batch.written batch.lent
  where
    go : (lines : List (List ℕ)) → b.used ≡ length (with_feeds lines) → b.written ≡ length (answers_to_lines l lines) → IsLent after (lent_after l lines) → IsLent after l × IsLine input
    go [] used written lent = (
      lent,
      ⊎_elim (λ line. subst (λ n. IsLine (drop n input)) unused line) (λ next. absurd (omega (arith, next.short, has_room (operation_of_line next.line), written)))
          batch.stopped,
    )
    go (line ∷ lines) used written lent = absurd (omega (arith, used, length-append line (line_feed ∷ with_feeds lines)))

module _ {l : Lent} {capacity : ℕ} {read written memory held : List ℕ} (a : Answers l capacity read written memory false held) where
  -- other memory that is lent as the same
  pub lent-as : (after : List ℕ) → IsLent after (lent_after l a.handed_on) → Answers l capacity read written after false held
  lent-as after is = record { handed_on = a.handed_on; reads = a.reads; answered = a.answered; lent = is }

  -- what a batch answered
  pub batched : {after output output-after : List ℕ} {b : Progress} → length held ≤ capacity
      → Batches (lent_after l a.handed_on) held memory after output output-after b
      → Answers l capacity read (written ++ take b.written output-after) after false (drop b.used held)
  batched {after} {output} {output-after} {b} short batch =
      let lent = lent_after l a.handed_on in
      let stands : held ≡ with_feeds batch.lines ++ drop b.used held = sym (take-append-drop b.used held) ∙ ap (λ front. front ++ drop b.used held) batch.input_used in
      let text : take b.written output-after ≡ answers_to_lines lent batch.lines =
      ap (take b.written) batch.output ∙ take_at (answers_to_lines lent batch.lines) (drop b.written output) b.written (sym batch.written) in
      further a batch.lines false (drop b.used held) (take b.written output-after) after
      (handed batch.lines (drop b.used held) batch.are_lines stands short a.reads) text batch.lent
