-- A reader of lines, step by step: each law takes what the lent input stands for before a step to what it stands for after it, by equations on `++`. A line
-- that has filled the lent input is handed on cut short, and what is read of it later is cut off (`grown`); a line that stands in the input is not cut (`uncut`).
use mathlib.Core.Path.{◌≡◌, refl, sym, subst, ap, ◌∙◌}
use mathlib.Core.Logic.{◌≢◌}
use mathlib.Core.Bool.{true, false}
use mathlib.Core.List.{List, [], ◌∷◌, ◌++◌, map, map-append, append_assoc, append-nil}
use Prim.Native.Nat.{ℕ, ◌-◌, ◌≤◌}
use native.Mathlib.Omega.{arith}
use lib.ListN.{length, take, length-append}
use lib.Seq.{take_all, take-append-le}
use Rattle.rules.specs.Lists.{All}
use Rattle.rules.specs.Frames.{line_feed}
use Rattle.rules.proofs.Lists.{all_more}
use Rattle.rules.proofs.Lists.{all_join}
use Rattle.lines.specs.Batching.{IsLine, with_feeds}
use Rattle.lines.proofs.Stretch.{feeds-append, feeds-end}
use Rattle.turns.specs.Turns.{Reads, MakesRoom}

pub nothing_read : (capacity : ℕ) → Reads capacity [] [] false []
unfolding with_feeds
nothing_read capacity = record { lines = []; rest = []; are_lines = tt; read_are = refl; holds = refl; are_handed_on = refl }

-- ── handed on ──────────────────────────────────────────────────────────────────────────────────

module _ (capacity : ℕ) where
  uncut : (lines : List (List ℕ)) → length (with_feeds lines) ≤ capacity → map (take capacity) lines ≡ lines
  unfolding with_feeds
  uncut [] h = refl
  uncut (line ∷ lines) h =
      let both = length-append line (line_feed ∷ with_feeds lines) in
      let first = take_all capacity line (omega (arith, both)) in
      let further = uncut lines (omega (arith, both)) in
      λ i. first i ∷ further i

  grown : (lines : List (List ℕ)) (line more : List ℕ) → capacity ≤ length line → map (take capacity) (lines ++ (line ∷ [])) ≡ map (take capacity) (lines ++ ((line ++ more) ∷ []))
  grown lines line more full =
      map-append (take capacity) lines (line ∷ [])
      ∙ ap (λ front. map (take capacity) lines ++ (front ∷ [])) (sym (take-append-le capacity line more full))
      ∙ sym (map-append (take capacity) lines ((line ++ more) ∷ []))

-- ── a step ─────────────────────────────────────────────────────────────────────────────────────

module _ {capacity : ℕ} {read held : List ℕ} {handed_on : List (List ℕ)} where
  -- more is read of what is held
  pub read-on : (more : List ℕ) → Reads capacity read handed_on false held → Reads capacity (read ++ more) handed_on false (held ++ more)
  read-on more r = record {
    lines = r.lines;
    rest = r.rest ++ more;
    are_lines = r.are_lines;
    read_are = ap (λ xs. xs ++ more) r.read_are ∙ append_assoc (with_feeds r.lines) r.rest more;
    holds = ap (λ xs. xs ++ more) r.holds;
    are_handed_on = r.are_handed_on;
  }

  -- while a line is passed over nothing is held
  pub none-held : Reads capacity read handed_on true held → held ≡ []
  none-held r = r.holds.0

  -- more is read of a line that is passed over
  pub pass_on : (more : List ℕ) → IsLine more → Reads capacity read handed_on true held → Reads capacity (read ++ more) handed_on true []
  pass_on more is_line r =
      let (_, rest-line, full) = r.holds in
      record {
        lines = r.lines;
        rest = r.rest ++ more;
        are_lines = r.are_lines;
        read_are = ap (λ xs. xs ++ more) r.read_are ∙ append_assoc (with_feeds r.lines) r.rest more;
        holds = (refl, all_join (λ c. c ≢ line_feed) r.rest more rest-line is_line, omega (arith, length-append r.rest more));
        are_handed_on = r.are_handed_on ∙ grown capacity r.lines r.rest more full;
      }

  -- its line feed is read, and what stands behind it is held
  pub passed : (part later : List ℕ) → IsLine part → Reads capacity read handed_on true held → Reads capacity (read ++ (part ++ (line_feed ∷ later))) handed_on false later
  passed part later is_line r =
      let (_, rest-line, full) = r.holds in
      let line = r.rest ++ part in
      record {
        lines = r.lines ++ (line ∷ []);
        rest = later;
        are_lines = all_more IsLine r.lines line r.are_lines (all_join (λ c. c ≢ line_feed) r.rest part rest-line is_line);
        read_are = ap (λ xs. xs ++ (part ++ (line_feed ∷ later))) r.read_are ∙ rw (feeds-end r.lines line) (simp append_assoc);
        holds = refl;
        are_handed_on = r.are_handed_on ∙ grown capacity r.lines r.rest part full ∙ ap (map (take capacity)) (sym (append-nil (r.lines ++ (line ∷ []))));
      }

  -- whole lines at the front of what is held are handed on
  pub handed : (lines : List (List ℕ)) (later : List ℕ) → All IsLine lines → held ≡ with_feeds lines ++ later → length held ≤ capacity
      → Reads capacity read handed_on false held → Reads capacity read (handed_on ++ lines) false later
  handed lines later are_lines stands short r =
      let whole = uncut capacity lines (omega (arith, ap length stands, length-append (with_feeds lines) later)) in
      record {
        lines = r.lines ++ lines;
        rest = later;
        are_lines = all_join IsLine r.lines lines r.are_lines are_lines;
        read_are =
            r.read_are ∙ ap (λ xs. with_feeds r.lines ++ xs) (sym r.holds ∙ stands)
            ∙ sym (append_assoc (with_feeds r.lines) (with_feeds lines) later) ∙ ap (λ xs. xs ++ later) (sym (feeds-append r.lines lines));
        holds = refl;
        are_handed_on =
            ap (λ front. front ++ lines) (r.are_handed_on ∙ ap (map (take capacity)) (append-nil r.lines))
            ∙ ap (λ more. map (take capacity) r.lines ++ more) (sym whole)
            ∙ sym (map-append (take capacity) r.lines lines) ∙ ap (map (take capacity)) (sym (append-nil (r.lines ++ lines)));
      }

  -- the beginning of a line that fills the lent input is handed on for the line
  pub filled : IsLine held → length held ≡ capacity → Reads capacity read handed_on false held → Reads capacity read (handed_on ++ (held ∷ [])) true []
  filled is_line full r =
      let uncut-held : held ≡ take capacity r.rest = sym (take_all capacity held (omega arith)) ∙ ap (take capacity) r.holds in
      record {
        lines = r.lines;
        rest = r.rest;
        are_lines = r.are_lines;
        read_are = r.read_are;
        holds = (refl, subst IsLine r.holds is_line, omega (arith, ap length r.holds));
        are_handed_on =
            ap (λ front. front ++ (held ∷ [])) (r.are_handed_on ∙ ap (map (take capacity)) (append-nil r.lines))
            ∙ ap (λ line. map (take capacity) r.lines ++ (line ∷ [])) uncut-held
            ∙ sym (map-append (take capacity) r.lines (r.rest ∷ []));
      }

-- ── room made ──────────────────────────────────────────────────────────────────────────────────

module _ (held input : List ℕ) (size : ℕ) (front : take size input ≡ held) where
  pub stays-held : MakesRoom held input (record { from = 0; end = size; passing = false })
  stays-held read handed_on is_line r =
      let whole : size - 0 ≡ size = omega arith in
      let same : take (size - 0) input ≡ held = ap (λ n. take n input) whole ∙ front in (
        subst (λ given. Reads (length input) read given false (take (size - 0) input)) (sym (append-nil handed_on)) (subst (Reads (length input) read handed_on false) (sym same) r),
        subst IsLine (sym same) is_line,
      )

  pub too-long-to-hold : length input ≤ size → MakesRoom held input (record { from = 0; end = 0; passing = true })
  too-long-to-hold full read handed_on is_line r =
      let all : held ≡ input = sym front ∙ take_all size input full in
      (subst (λ line. Reads (length input) read (handed_on ++ (line ∷ [])) true []) all (filled is_line (ap length all) r), tt)
