-- What the contracts of a line and of a batch leave open: nothing. One ledger has one room (`canonical`), and the rules fix the output. Of a batch the lines
-- are fixed too: by induction, two fronts of one input that both stop for cause have the same first line, and so on (`same_lines`). Whether memory is a room
-- need not be decided: whether results and bytes are the same can be told (`by-lent`).
use mathlib.Core.Path.{◌≡◌, refl, sym, subst, ap, ◌∙◌}
use mathlib.Core.Logic.{◌⊎◌, inl, inr}
use mathlib.Core.List.{List, [], ◌∷◌, ◌++◌, append_assoc, head-eq_of_cons-eq, tail-eq_of_cons-eq}
use mathlib.Core.Option.{Option}
use Prim.Native.Nat.{ℕ, zero, suc, ◌+◌, ◌-◌, ◌≤◌}
use native.Mathlib.Omega.{arith}
use lib.ListN.{length, drop, length-append, take-append-drop}
use Rattle.rules.specs.Lists.{All}
use Rattle.rules.specs.RoomAndSoundLedger.{IsByte}
use Rattle.rules.specs.AnswerNumbers.{Lent, sound, unsound}
use Rattle.rules.specs.Frames.{Operation, line_feed, answer_line, answer_or23, answer_to_line, operation_of_line, answers_to_lines, lent_after}
use Rattle.rules.proofs.Tests.{equal_or_not}
use Rattle.rules.proofs.Values.{Told, both_told, as-told, bytes-told}
use Rattle.room.proofs.Decoding.{canonical}
use Rattle.room.proofs.SameAnswers.{by-room}
use Rattle.frames.specs.Answering.{IsLent, OfLent}
use Rattle.std.specs.Prelude.{Option as Found, Some, None}
use Rattle.lines.specs.declared.Progress.{Progress}
use Rattle.lines.specs.Batching.{line_room, IsLine, with_feeds, LineAnswered, PromisesLine, HadRoom, NextTooLong, Batches, PromisesBatch}
use Rattle.lines.proofs.StaysKnown.{unsound-before-answer, unsound-before-lines}

-- two results and what they leave of the lent memory and of the output
pub record Same (R : Type 0) (r s : R) (after others output-after output-others : List ℕ) : Type 0 where
  pub answer : r ≡ s
  pub memory : after ≡ others
  pub output : output-after ≡ output-others

-- ── the memory ─────────────────────────────────────────────────────────────────────────────────

-- one ledger has one room, and memory that is no room keeps its bytes
same_memory : (l : Lent) (before after others : List ℕ) → All IsByte after → All IsByte others → IsLent after l → IsLent others l
    → (l ≡ unsound → after ≡ before) → (l ≡ unsound → others ≡ before) → after ≡ others
same_memory (sound L) before after others bytes other-bytes one two kept also_kept = canonical after others L bytes other-bytes one two
same_memory unsound before after others bytes other-bytes one two kept also_kept = kept refl ∙ sym (also_kept refl)

pub same_after : (o : Option Operation) (l : Lent) (before after others : List ℕ) → All IsByte after → All IsByte others
    → IsLent after (answer_or23 l o).lent → IsLent others (answer_or23 l o).lent → (l ≡ unsound → after ≡ before) → (l ≡ unsound → others ≡ before) → after ≡ others
same_after o l before after others bytes other-bytes one two kept also_kept =
    same_memory (answer_or23 l o).lent before after others bytes other-bytes one two (λ e. kept (unsound-before-answer l o e)) (λ e. also_kept (unsound-before-answer l o e))

-- ── a line ─────────────────────────────────────────────────────────────────────────────────────

module _ (o : Option Operation) (l : Lent) (before after others output output-after output-others : List ℕ)
    (bytes : All IsByte after) (other-bytes : All IsByte others) where
  pub same_line : (r s : Found ℕ) → LineAnswered o l before after output output-after r → LineAnswered o l before others output output-others s
      → Same (Found ℕ) r s after others output-after output-others
  same_line (Some size) (Some other) (_, one) (_, two) =
      let sizes : size ≡ other = one.size ∙ sym two.size in
      let text = answer_line (answer_or23 l o).reply in
      record {
        answer = ap Some sizes;
        memory = same_after o l before after others bytes other-bytes one.lent two.lent one.untouched two.untouched;
        output = one.output ∙ ap (λ n. text ++ (line_feed ∷ drop n output)) sizes ∙ sym two.output;
      }
  same_line (Some size) None (enough, _) (short, _, _) = absurd (omega arith)
  same_line None (Some other) (short, _, _) (enough, _) = absurd (omega arith)
  same_line None None (_, one, one-output) (_, two, two-output) =
      record { answer = refl; memory = one ∙ sym two; output = one-output ∙ sym two-output }

-- ── the lines at the front of an input ─────────────────────────────────────────────────────────

-- the first line feed ends the first line
first-line : (one two one_later two-later : List ℕ) → IsLine one → IsLine two
    → one ++ (line_feed ∷ one_later) ≡ two ++ (line_feed ∷ two-later) → (one ≡ two) × (one_later ≡ two-later)
first-line [] [] one_later two-later h k e = (refl, tail-eq_of_cons-eq e)
first-line [] (c ∷ two) one_later two-later h (k, _) e = absurd (k (sym (head-eq_of_cons-eq e)))
first-line (c ∷ one) [] one_later two-later (h, _) k e = absurd (h (head-eq_of_cons-eq e))
first-line (c ∷ one) (d ∷ two) one_later two-later (_, h) (_, k) e =
    let same = first-line one two one_later two-later h k (tail-eq_of_cons-eq e) in
    let heads = head-eq_of_cons-eq e in
    (λ i. heads i ∷ same.0 i, same.1)

no-feed : (line later : List ℕ) → IsLine (line ++ (line_feed ∷ later)) → ⊥
no-feed [] later (h, _) = h refl
no-feed (c ∷ line) later (_, h) = no-feed line later h

abbrev Stopped : (rest : List ℕ) (left : ℕ) → Type 0
Stopped rest left = IsLine rest ⊎ NextTooLong rest left

-- a batch does not stop in front of a whole line whose answer has room
goes_on : (line later : List ℕ) (left : ℕ) → IsLine line → line_room (operation_of_line line) ≤ left → Stopped (line ++ (line_feed ∷ later)) left → ⊥
goes_on line later left is_line enough (inl none) = no-feed line later none
goes_on line later left is_line enough (inr next) =
    let same = first-line line next.line later next.later is_line next.is_line next.stands in
    omega (arith, next.short, ap (λ text. line_room (operation_of_line text)) same.0)

-- lines at the front of an input, each answered with room, and why no further one is
record Front (l : Lent) (left : ℕ) (input : List ℕ) (lines : List (List ℕ)) : Type 0 where
  are_lines : All IsLine lines
  had_room : HadRoom l left lines
  rest : List ℕ
  stands : input ≡ with_feeds lines ++ rest
  stopped : Stopped rest (left - length (answers_to_lines l lines))

module _ {l : Lent} {left : ℕ} {input : List ℕ} where
  first-stands : {line : List ℕ} {lines : List (List ℕ)} (front : Front l left input (line ∷ lines))
      → input ≡ line ++ (line_feed ∷ (with_feeds lines ++ front.rest))
  unfolding with_feeds
  first-stands {line} {lines} front = front.stands ∙ append_assoc line (line_feed ∷ with_feeds lines) front.rest

  not-before-first : {line : List ℕ} {lines : List (List ℕ)} → Front l left input [] → Front l left input (line ∷ lines) → ⊥
  unfolding with_feeds answers_to_lines
  not-before-first {line} {lines} none some =
      let whole = left - length (answers_to_lines l []) in
      goes_on line (with_feeds lines ++ some.rest) whole some.are_lines.0 (omega (arith, some.had_room.0))
      (subst (λ text. Stopped text whole) (sym none.stands ∙ first-stands some) none.stopped)

  behind-first : {line later : List ℕ} {lines : List (List ℕ)} → input ≡ line ++ (line_feed ∷ later) → Front l left input (line ∷ lines)
      → Front (answer_to_line l line).lent (left - (length (answer_line (answer_to_line l line).reply) + 1)) later lines
  unfolding answers_to_lines
  behind-first {line} {later} {lines} is front =
      let is_line = front.are_lines.0 in
      let text = answer_line (answer_to_line l line).reply in
      let answers = answers_to_lines (answer_to_line l line).lent lines in
      let less : left - length (text ++ (line_feed ∷ answers)) ≡ (left - (length text + 1)) - length answers =
      omega (arith, length-append text (line_feed ∷ answers)) in
      record {
        are_lines = front.are_lines.1;
        had_room = front.had_room.1;
        rest = front.rest;
        stands = (first-line line line later (with_feeds lines ++ front.rest) is_line is_line (sym is ∙ first-stands front)).1;
        stopped = subst (λ n. Stopped front.rest n) less front.stopped;
      }

same_lines : (l : Lent) (left : ℕ) (input : List ℕ) (one two : List (List ℕ)) → Front l left input one → Front l left input two → one ≡ two
same_lines l left input [] [] a b = refl
same_lines l left input [] (line ∷ lines) a b = absurd (not-before-first a b)
same_lines l left input (line ∷ lines) [] a b = absurd (not-before-first b a)
same_lines l left input (line ∷ lines) (other ∷ others) a b =
    let later = with_feeds lines ++ a.rest in
    let same = (first-line line other later (with_feeds others ++ b.rest) a.are_lines.0 b.are_lines.0 (sym (first-stands a) ∙ first-stands b)).0 in
    let b-same : Front l left input (line ∷ others) = subst (λ text. Front l left input (text ∷ others)) (sym same) b in
    let further =
    same_lines (answer_to_line l line).lent (left - (length (answer_line (answer_to_line l line).reply) + 1)) later lines others
    (behind-first (first-stands a) a) (behind-first (first-stands a) b-same) in
    λ i. same i ∷ further i

-- ── a batch ────────────────────────────────────────────────────────────────────────────────────

front_of : {l : Lent} {input before after output output-after : List ℕ} {b : Progress} (batch : Batches l input before after output output-after b)
    → Front l (length output) input batch.lines
front_of {input = input} {output = output} {b = b} batch = record {
  are_lines = batch.are_lines;
  had_room = batch.had_room;
  rest = drop b.used input;
  stands = sym (take-append-drop b.used input) ∙ ap (λ front. front ++ drop b.used input) batch.input_used;
  stopped = subst (λ n. Stopped (drop b.used input) (length output - n)) batch.written batch.stopped;
}

module _ (l : Lent) (input before after others output output-after output-others : List ℕ)
    (bytes : All IsByte after) (other-bytes : All IsByte others) (b c : Progress) where
  pub same-batch : Batches l input before after output output-after b → Batches l input before others output output-others c
      → Same Progress b c after others output-after output-others
  same-batch one two =
      let same : one.lines ≡ two.lines = same_lines l (length output) input one.lines two.lines (front_of one) (front_of two) in
      let all-used : b.used ≡ c.used = one.used ∙ ap (λ lines. length (with_feeds lines)) same ∙ sym two.used in
      let all-written : b.written ≡ c.written = one.written ∙ ap (λ lines. length (answers_to_lines l lines)) same ∙ sym two.written in
      let also-lent : IsLent others (lent_after l one.lines) = subst (λ lines. IsLent others (lent_after l lines)) (sym same) two.lent in
      record {
        answer = λ i. record { used = all-used i; written = all-written i };
        memory =
            same_memory (lent_after l one.lines) before after others bytes other-bytes one.lent also-lent
            (λ e. one.untouched (unsound-before-lines l one.lines e)) (λ e. two.untouched (unsound-before-lines l one.lines e));
        output = one.output ∙ (λ i. answers_to_lines l (same i) ++ drop (all-written i) output) ∙ sym two.output;
      }

-- ── the whole contracts ────────────────────────────────────────────────────────────────────────

-- what can be told, and holds whatever the memory is lent as, holds
pub by-lent : (memory : List ℕ) {P : Type 0} → Told P → OfLent memory (λ l. P) → P
by-lent memory told holds = by-room memory told (λ L room. holds (sound L) room) (λ none. holds unsound none)

pub same-told : {R : Type 0} {r s : R} {after others output-after output-others : List ℕ} → Told (r ≡ s) → Told (Same R r s after others output-after output-others)
same-told {after = after} {others = others} {output-after = output-after} {output-others = output-others} told =
    as-told (λ same. record { answer = same.0; memory = same.1.0; output = same.1.1 }) (λ same. (same.answer, (same.memory, same.output)))
    (both_told told (both_told (bytes-told after others) (bytes-told output-after output-others)))

-- an answer to a line by its size, 0 where there is none
abbrev size_of : Found ℕ → ℕ
size_of (Some size) = suc size
size_of None = 0

abbrev answer_of : ℕ → Found ℕ
answer_of zero = None
answer_of (suc size) = Some size

answer_back : (r : Found ℕ) → answer_of (size_of r) ≡ r
answer_back (Some size) = refl
answer_back None = refl

line-told : (r s : Found ℕ) → Told (r ≡ s)
line-told r s = as-told (λ e. sym (answer_back r) ∙ ap answer_of e ∙ answer_back s) (ap size_of) (equal_or_not (size_of r) (size_of s))

progress-told : (b c : Progress) → Told (b ≡ c)
progress-told b c =
    as-told (λ same i. record { used = same.0 i; written = same.1 i }) (λ e. (λ i. (e i).used, λ i. (e i).written))
    (both_told (equal_or_not b.used c.used) (equal_or_not b.written c.written))

-- of `lines::answer` and `lines::batch`, for any memory
module _ (before after others output output-after output-others : List ℕ) (bytes : All IsByte after) (other-bytes : All IsByte others) where
  pub one_answer : (o : Option Operation) (r s : Found ℕ)
      → PromisesLine o before after output output-after r
      → PromisesLine o before others output output-others s
      → Same (Found ℕ) r s after others output-after output-others
  one_answer o r s one two =
      by-lent before (same-told (line-told r s))
      (λ l is_lent. same_line o l before after others output output-after output-others bytes other-bytes r s (one l is_lent) (two l is_lent))

  pub one_batch : (input : List ℕ) (b c : Progress)
      → PromisesBatch input before after output output-after b
      → PromisesBatch input before others output output-others c
      → Same Progress b c after others output-after output-others
  one_batch input b c one two =
      by-lent before (same-told (progress-told b c))
      (λ l is_lent. same-batch l input before after others output output-after output-others bytes other-bytes b c (one l is_lent) (two l is_lent))
