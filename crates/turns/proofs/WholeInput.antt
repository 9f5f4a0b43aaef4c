-- At the end of the input. Lines with their line feeds and a rest are just the lines that the rules count (`lines_are`), and a line cut short is answered as
-- the whole of it is, where as much is left of it as no frame has (`answers-cut`); so what was written is the definition's whole output (`ends`).
use mathlib.Core.Path.{◌≡◌, refl, sym, subst, ap, ◌∙◌}
use mathlib.Core.Logic.{⊎_elim}
use mathlib.Core.Bool.{Bool, true, false}
use mathlib.Core.List.{List, [], ◌∷◌, ◌++◌, map, map-append, append_assoc, append-nil}
use Prim.Native.Nat.{ℕ, ◌≤◌, ◌<◌}
use native.Mathlib.Omega.{arith}
use borrow.Author.Tests.{ne_eqb}
use lib.ListN.{length, take}
use lib.Seq.{take_all, length-take-le}
use Rattle.rules.specs.Lists.{All}
use Rattle.rules.specs.AnswerNumbers.{Lent, Answered}
use Rattle.rules.specs.Frames.{line_feed, longest_line, operation_of_line, answer_line, answer_or23, answer_to_line, answers_to_lines, lent_after, pieces, counted, lines_of}
use Rattle.rules.proofs.EveryLine.{answers-append, lent-append, first_piece, counted-more}
use Rattle.rules.proofs.Tests.{less-or-not}
use Rattle.frames.specs.Answering.{IsLent}
use Rattle.lines.specs.Batching.{IsLine, with_feeds, AnswersLine}
use Rattle.lines.proofs.Decoded.{too_long}
use Rattle.turns.specs.Turns.{passed_over, Reads, Answers, Ends}
use Rattle.turns.proofs.Answering.{line-written, line-lent}

-- ── the lines of the whole input ───────────────────────────────────────────────────────────────

only-piece : (rest : List ℕ) → IsLine rest → pieces rest ≡ rest ∷ []
unfolding pieces
only-piece [] h = refl
only-piece (c ∷ cs) (h, k) = rw (ne_eqb c line_feed h, only-piece cs k)

lines_are : (lines : List (List ℕ)) (rest : List ℕ) → All IsLine lines → IsLine rest → lines_of (with_feeds lines ++ rest) ≡ lines ++ counted (rest ∷ [])
unfolding lines_of with_feeds
lines_are [] rest h k = ap counted (only-piece rest k)
lines_are (line ∷ lines) rest (h, hs) k =
    let later = with_feeds lines ++ rest in
    ap counted (ap pieces (append_assoc line (line_feed ∷ with_feeds lines) rest) ∙ first_piece line later h)
    ∙ counted-more line later ∙ ap (λ further. line ∷ further) (lines_are lines rest hs k)

-- a rest that is something is a line
counts : (rest : List ℕ) → 0 < length rest → counted (rest ∷ []) ≡ rest ∷ []
unfolding counted
counts [] h = absurd (omega arith)
counts (c ∷ cs) h = refl

module _ (capacity : ℕ) where
  whole-rest : (rest : List ℕ) → length rest ≤ capacity → map (take capacity) (counted (rest ∷ [])) ≡ counted (rest ∷ [])
  unfolding counted
  whole-rest [] h = refl
  whole-rest (c ∷ cs) h = ap (λ line. line ∷ []) (take_all capacity (c ∷ cs) h)

  -- what was handed on, and what is held, are the lines of all that was read
  pub all-handed : {read : List ℕ} {handed_on : List (List ℕ)} (passing : Bool) {held : List ℕ} → 0 < capacity → length held ≤ capacity → IsLine held
      → Reads capacity read handed_on passing held → handed_on ++ counted (held ∷ []) ≡ map (take capacity) (lines_of read)
  all-handed false {held} some short is_line r =
      let last = counted (r.rest ∷ []) in
      let same : map (take capacity) last ≡ last = whole-rest r.rest (omega (arith, ap length r.holds)) in
      ap (λ front. front ++ counted (held ∷ [])) (r.are_handed_on ∙ ap (map (take capacity)) (append-nil r.lines))
      ∙ ap (λ rest. map (take capacity) r.lines ++ counted (rest ∷ [])) r.holds
      ∙ ap (λ more. map (take capacity) r.lines ++ more) (sym same)
      ∙ sym (map-append (take capacity) r.lines last)
      ∙ ap (map (take capacity)) (sym (lines_are r.lines r.rest r.are_lines (subst IsLine r.holds is_line)))
      ∙ ap (λ text. map (take capacity) (lines_of text)) (sym r.read_are)
  all-handed {read} {handed_on} true {held} some short is_line r =
      let (nothing, rest-line, full) = r.holds in
      let none : counted (held ∷ []) ≡ [] = ap (λ text. counted (text ∷ [])) nothing ∙ (unfold counted in refl) in
      ap (λ more. handed_on ++ more) none ∙ append-nil handed_on ∙ r.are_handed_on
      ∙ ap (λ more. map (take capacity) (r.lines ++ more)) (sym (counts r.rest (omega arith)))
      ∙ ap (map (take capacity)) (sym (lines_are r.lines r.rest r.are_lines rest-line))
      ∙ ap (λ text. map (take capacity) (lines_of text)) (sym r.read_are)

-- ── a line cut short ───────────────────────────────────────────────────────────────────────────

module _ (capacity : ℕ) (long : longest_line < capacity) where
  operation-cut : (line : List ℕ) → operation_of_line (take capacity line) ≡ operation_of_line line
  operation-cut line =
      ⊎_elim (λ over. too_long (take capacity line) (omega (arith, length-take-le capacity line (omega arith))) ∙ sym (too_long line (omega arith)))
      (λ short. ap operation_of_line (take_all capacity line short)) (less-or-not capacity (length line))

  answer-cut : (l : Lent) (line : List ℕ) → answer_to_line l (take capacity line) ≡ answer_to_line l line
  unfolding answer_to_line
  answer-cut l line = ap (answer_or23 l) (operation-cut line)

  answers-cut : (l : Lent) (lines : List (List ℕ)) → answers_to_lines l (map (take capacity) lines) ≡ answers_to_lines l lines
  unfolding answers_to_lines
  answers-cut l [] = refl
  answers-cut l (line ∷ lines) =
      let a : Answered = answer_to_line l line in
      ap (λ (b : Answered). answer_line b.reply ++ (line_feed ∷ answers_to_lines b.lent (map (take capacity) lines))) (answer-cut l line)
      ∙ ap (λ further. answer_line a.reply ++ (line_feed ∷ further)) (answers-cut a.lent lines)

  lent_cut : (l : Lent) (lines : List (List ℕ)) → lent_after l (map (take capacity) lines) ≡ lent_after l lines
  unfolding lent_after
  lent_cut l [] = refl
  lent_cut l (line ∷ lines) =
      ap (λ (b : Answered). lent_after b.lent (map (take capacity) lines)) (answer-cut l line) ∙ lent_cut (answer_to_line l line).lent lines

  -- so far: the answers to the whole lines of all that was read, and to the one that is passed over
  pub so_far : {l : Lent} {read written memory held : List ℕ} {passing : Bool} (a : Answers l capacity read written memory passing held)
      → written ≡ answers_to_lines l (a.reads.lines ++ passed_over passing a.reads.rest)
  so_far {l} {passing = passing} a = a.answered ∙ ap (answers_to_lines l) a.reads.are_handed_on ∙ answers-cut l (a.reads.lines ++ passed_over passing a.reads.rest)

  -- ── the whole output ─────────────────────────────────────────────────────────────────────────

  pub ends : {l : Lent} {read written memory held later after : List ℕ} {passing : Bool} (a : Answers l capacity read written memory passing held)
      → length held ≤ capacity → IsLine held → later ≡ answers_to_lines (lent_after l a.handed_on) (counted (held ∷ []))
      → IsLent after (lent_after (lent_after l a.handed_on) (counted (held ∷ []))) → Ends l read (written ++ later) after
  ends {l} {read} {written} {held = held} {later = later} {after = after} {passing = passing} a short is_line is lent =
      let given = a.handed_on in
      let last = counted (held ∷ []) in
      let all = all-handed capacity passing (omega arith) short is_line a.reads in
      record {
        answered =
            ap (λ front. front ++ later) a.answered ∙ ap (λ more. answers_to_lines l given ++ more) is ∙ sym (answers-append l given last)
            ∙ ap (answers_to_lines l) all ∙ answers-cut l (lines_of read);
        lent = subst (IsLent after) (sym (lent-append l given last) ∙ ap (lent_after l) all ∙ lent_cut l (lines_of read)) lent;
      }

  module _ {l : Lent} {read written memory held : List ℕ} {passing : Bool} (short : length held ≤ capacity) (is_line : IsLine held)
      (a : Answers l capacity read written memory passing held) where
    -- nothing is held
    pub ends-at-feed : held ≡ [] → Ends l read (written ++ []) memory
    unfolding answers_to_lines lent_after
    ends-at-feed nothing =
        let none : counted (held ∷ []) ≡ [] = ap (λ text. counted (text ∷ [])) nothing ∙ (unfold counted in refl) in
        let lent = lent_after l a.handed_on in
        ends a short is_line (ap (answers_to_lines lent) (sym none)) (subst (λ lines. IsLent memory (lent_after lent lines)) (sym none) a.lent)

    -- what is held is the last line
    pub ends-in-line : {after output output-after : List ℕ} {size : ℕ} → 0 < length held
        → AnswersLine (operation_of_line held) (lent_after l a.handed_on) memory after output output-after size → Ends l read (written ++ take size output-after) after
    ends-in-line {after} some answer =
        let lent = lent_after l a.handed_on in
        ends a short is_line (line-written held answer ∙ ap (answers_to_lines lent) (sym (counts held some)))
        (subst (λ lines. IsLent after (lent_after lent lines)) (sym (counts held some)) (line-lent held answer))
