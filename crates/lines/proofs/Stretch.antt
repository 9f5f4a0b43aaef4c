-- A stretch of lines, for the loop of `answer_lines`. `Underway` is `Batches` without its end; `turn` adds one line at the end of each of its lists, by
-- equations on `++`, and `stop` closes it with the reason why no further line is answered.
use mathlib.Core.Path.{◌≡◌, refl, sym, subst, ap, ◌∙◌}
use mathlib.Core.Logic.{◌⊎◌, inl}
use mathlib.Core.List.{List, [], ◌∷◌, ◌++◌, append_assoc}
use mathlib.Core.Option.{Option}
use Prim.Native.Nat.{ℕ, ◌+◌, ◌-◌, ◌≤◌}
use native.Mathlib.Omega.{arith}
use borrow.Rule.Slice.PartMut.{put_same}
use lib.ListN.{length, take, drop, length-append, length-drop, drop_of_length-le}
use lib.Seq.{take_all, take-add, drop_at, drop-drop, length-take-le}
use Rattle.rules.specs.Lists.{All}
use Rattle.rules.specs.AnswerNumbers.{Lent, unsound}
use Rattle.rules.specs.Frames.{Operation, lent_after, line_feed, answer_line, answer_or23, answer_to_line, operation_of_line, answers_to_lines}
use Rattle.rules.proofs.EveryLine.{answers-append, lent-append}
use Rattle.rules.proofs.Lists.{all_more}
use Rattle.records.specs.Rows.{row, put}
use Rattle.records.proofs.Rows.{two-halves}
use Rattle.frames.specs.Answering.{IsLent}
use Rattle.lines.specs.Batching.{line_room, IsLine, FirstLine, with_feeds, AnswersLine, HadRoom, NextTooLong, PromisesLine, PromisesNext, Batches}
use Rattle.std.specs.Prelude.{Some, None}
use Rattle.lines.proofs.LineFound.{feed-behind}
use Rattle.lines.proofs.StaysKnown.{unsound-after}

-- ── a line answered behind others ──────────────────────────────────────────────────────────────

pub record Underway (l : Lent) (input before after output-before output-after : List ℕ) (used written : ℕ) : Type 0 where
  pub lines : List (List ℕ)
  pub are_lines : All IsLine lines
  pub input_used : take used input ≡ with_feeds lines
  pub are_used : used ≡ length (with_feeds lines)
  pub are_written : written ≡ length (answers_to_lines l lines)
  pub output : output-after ≡ answers_to_lines l lines ++ drop written output-before
  pub lent : IsLent after (lent_after l lines)
  pub untouched : l ≡ unsound → after ≡ before
  pub had_room : HadRoom l (length output-before) lines

pub begun : (l : Lent) (input before output : List ℕ) → IsLent before l → Underway l input before before output output 0 0
unfolding with_feeds answers_to_lines lent_after
begun l input before output is = record { lines = []; are_lines = tt; input_used = refl; are_used = refl; are_written = refl; output = refl; lent = is; untouched = λ _. refl; had_room = tt }

pub feeds-append : (lines later : List (List ℕ)) → with_feeds (lines ++ later) ≡ with_feeds lines ++ with_feeds later
unfolding with_feeds
feeds-append [] later = refl
feeds-append (line ∷ lines) later = rw (feeds-append lines later, append_assoc)

pub feeds-end : (lines : List (List ℕ)) (line : List ℕ) → with_feeds (lines ++ (line ∷ [])) ≡ with_feeds lines ++ (line ++ (line_feed ∷ []))
feeds-end lines line = feeds-append lines (line ∷ []) ∙ ap (λ more. with_feeds lines ++ more) (unfold with_feeds in refl)

lent-end : (l : Lent) (lines : List (List ℕ)) (line : List ℕ) → lent_after l (lines ++ (line ∷ [])) ≡ (answer_to_line (lent_after l lines) line).lent
lent-end l lines line = lent-append l lines (line ∷ []) ∙ (unfold lent_after in refl)

answers-end : (l : Lent) (lines : List (List ℕ)) (line : List ℕ)
    → answers_to_lines l (lines ++ (line ∷ [])) ≡ answers_to_lines l lines ++ (answer_line (answer_to_line (lent_after l lines) line).reply ++ (line_feed ∷ []))
answers-end l lines line = answers-append l lines (line ∷ []) ∙ ap (λ answers. answers_to_lines l lines ++ answers) (unfold answers_to_lines in refl)

end-length : (front text : List ℕ) → length (front ++ (text ++ (line_feed ∷ []))) ≡ length front + (length text + 1)
end-length front text = length-append front (text ++ (line_feed ∷ [])) ∙ ap (λ n. length front + n) (length-append text (line_feed ∷ []))

feeds-length : (lines : List (List ℕ)) (line : List ℕ) → length (with_feeds (lines ++ (line ∷ []))) ≡ length (with_feeds lines) + (length line + 1)
feeds-length lines line = ap length (feeds-end lines line) ∙ end-length (with_feeds lines) line

answers-length : (l : Lent) (lines : List (List ℕ)) (line : List ℕ)
    → length (answers_to_lines l (lines ++ (line ∷ []))) ≡ length (answers_to_lines l lines) + (length (answer_line (answer_to_line (lent_after l lines) line).reply) + 1)
answers-length l lines line = ap length (answers-end l lines line) ∙ end-length (answers_to_lines l lines) (answer_line (answer_to_line (lent_after l lines) line).reply)

room-end : (l : Lent) (left : ℕ) (lines : List (List ℕ)) (line : List ℕ) → HadRoom l left lines → line_room (operation_of_line line) ≤ left - length (answers_to_lines l lines) → HadRoom l left (lines ++ (line ∷ []))
unfolding answers_to_lines
room-end l left [] line h enough = (omega arith, tt)
room-end l left (other ∷ lines) line (h, k) enough =
    let text = answer_line (answer_to_line l other).reply in
    let later = answers_to_lines (answer_to_line l other).lent lines in
    (h, room-end (answer_to_line l other).lent (left - (length text + 1)) lines line k (omega (arith, length-append text (line_feed ∷ later))))

-- the part of the output that is lent for a line's answer, and of the input for its next line
abbrev pub part_from : ℕ → List ℕ → List ℕ
part_from from output = row (length output - from) from output

pub part_length : (from : ℕ) (output : List ℕ) → length (part_from from output) ≡ length output - from
part_length from output = length-take-le (length output - from) (drop from output) (omega (arith, length-drop from output))

rest-is : (from : ℕ) (input : List ℕ) → part_from from input ≡ drop from input
rest-is from input = take_all (length input - from) (drop from input) (omega (arith, length-drop from input))

part_left : {l : Lent} {input before room output₀ output : List ℕ} {used written : ℕ} → Underway l input before room output₀ output used written → part_from written output ≡ drop written output₀
part_left {l} {output₀ = output₀} {output = output} {written = written} u =
    rest-is written output ∙ ap (λ o. drop written o) u.output ∙ drop_at (answers_to_lines l u.lines) (drop written output₀) written (sym u.are_written)

pub turn : {l : Lent} {input before room output₀ output : List ℕ} {used written : ℕ} (room-after part-after : List ℕ) (end size : ℕ)
    → Underway l input before room output₀ output used written → FirstLine (part_from used input) end
    → PromisesLine (operation_of_line (take end (part_from used input))) room room-after (part_from written output) part-after (Some size)
    → Underway l input before room-after output₀ (put written (length output - written) output part-after) (used + (end + 1)) (written + size)
unfolding answer_to_line
turn {l} {input} {before} {room} {output₀} {output} {used} {written} room-after part-after end size u found answered =
    let f : FirstLine (drop used input) end = subst (λ rest. FirstLine rest end) (rest-is used input) found in
    let line = take end (drop used input) in
    let promise : PromisesLine (operation_of_line line) room room-after (part_from written output) part-after (Some size) =
    subst (λ rest. PromisesLine (operation_of_line (take end rest)) room room-after (part_from written output) part-after (Some size)) (rest-is used input) answered in
    let lent = lent_after l u.lines in
    let answers = answers_to_lines l u.lines in
    let a = (promise lent u.lent).1 in
    let text = answer_line (answer_or23 lent (operation_of_line line)).reply in
    let line-size : length line ≡ end = length-take-le end (drop used input) (omega (arith, f.inside)) in
    let rest = drop (written + size) output₀ in
    record {
      lines = u.lines ++ (line ∷ []);
      are_lines = all_more IsLine u.lines line u.are_lines f.is_line;
      input_used =
          take-add used (end + 1) input ∙ ap (λ front. front ++ take (end + 1) (drop used input)) u.input_used
          ∙ ap (λ more. with_feeds u.lines ++ more) (feed-behind (drop used input) f) ∙ sym (feeds-end u.lines line);
      are_used = omega (arith, feeds-length u.lines line, line-size, u.are_used);
      are_written = omega (arith, answers-length l u.lines line, u.are_written, a.size);
      output =
          ap (λ whole. put written (length whole - written) whole part-after) u.output ∙ two-halves written output₀ answers part-after (sym u.are_written)
          ∙ ap (λ part. answers ++ part) (a.output ∙ ap (λ part. text ++ (line_feed ∷ drop size part)) (part_left u) ∙ ap (λ later. text ++ (line_feed ∷ later)) (drop-drop size written output₀))
          ∙ sym (ap (λ front. front ++ rest) (answers-end l u.lines line) ∙ append_assoc answers (text ++ (line_feed ∷ [])) rest ∙ ap (λ more. answers ++ more) (append_assoc text (line_feed ∷ []) rest));
      lent = subst (λ k. IsLent room-after k) (sym (lent-end l u.lines line)) a.lent;
      untouched = λ e. a.untouched (unsound-after l u.lines e) ∙ u.untouched e;
      had_room = room-end l (length output₀) u.lines line u.had_room (omega (arith, (promise lent u.lent).0, ap length (part_left u), length-drop written output₀, u.are_written));
    }

-- the lent part keeps its length, so that what was written stands within the output
pub written-within : {o : Option Operation} {l : Lent} {before after part part-after : List ℕ} {size : ℕ} → AnswersLine o l before after part part-after size → length part-after ≡ length part → size ≤ length part
written-within {o} {l} {part = part} {size = size} a e =
    let text = answer_line (answer_or23 l o).reply in
    omega (arith, a.size, e, ap length a.output, length-append text (line_feed ∷ drop size part), length-drop size part)

-- ── why a batch ends ───────────────────────────────────────────────────────────────────────────

pub stop : {l : Lent} {input before after output₀ output : List ℕ} {used written : ℕ} → Underway l input before after output₀ output used written
    → IsLine (drop used input) ⊎ NextTooLong (drop used input) (length output₀ - written) → Batches l input before after output₀ output (record { used = used; written = written })
stop u why = record {
  lines = u.lines;
  are_lines = u.are_lines;
  input_used = u.input_used;
  used = u.are_used;
  written = u.are_written;
  output = u.output;
  lent = u.lent;
  untouched = u.untouched;
  had_room = u.had_room;
  stopped = why;
}

pub at-the-end : {l : Lent} {input before after output₀ output : List ℕ} {used written : ℕ} → Underway l input before after output₀ output used written → length input ≤ used
    → Batches l input before after output₀ output (record { used = used; written = written })
at-the-end {input = input} u h = stop u (inl (subst IsLine (sym (drop_of_length-le input h)) tt))

pub stopped : {l : Lent} {input before room output₀ output : List ℕ} {used written : ℕ} (room-after part-after : List ℕ)
    → Underway l input before room output₀ output used written → length output ≡ length output₀
    → PromisesNext (part_from used input) room room-after (part_from written output) part-after None
    → Batches l input before room-after output₀ (put written (length output - written) output part-after) (record { used = used; written = written })
stopped {l} {input} {before} {room} {output₀} {output} {used} {written} room-after part-after u same promise =
    let (room-same, part-same, given) = promise (lent_after l u.lines) u.lent in
    let why : IsLine (drop used input) ⊎ NextTooLong (drop used input) (length (part_from written output)) = subst (λ rest. IsLine rest ⊎ NextTooLong rest (length (part_from written output))) (rest-is used input) given in
    let k = length output - written in
    let unchanged : put written k output part-after ≡ output = ap (λ part. put written k output part) part-same ∙ put_same written k output in
    let left : length (part_from written output) ≡ length output₀ - written = part_length written output ∙ ap (λ n. n - written) same in
    subst (λ m. Batches l input before m output₀ (put written k output part-after) (record { used = used; written = written })) (sym room-same)
    (subst (λ o. Batches l input before room output₀ o (record { used = used; written = written })) (sym unchanged)
    (stop u (subst (λ n. IsLine (drop used input) ⊎ NextTooLong (drop used input) n) left why)))
