-- The input's first line, its front decoded. A line feed is no digit, so what decodes holds none (`no-feed`); hence the first line feed behind the digits ends
-- the line, and a line that goes on behind them decodes nowhere (`no_frame`).
use mathlib.Core.Path.{◌≡◌, refl, sym, subst, ap, ◌∙◌}
use mathlib.Core.Logic.{◌≢◌, inl, inr, ⊎_elim}
use mathlib.Core.List.{List, [], ◌∷◌, ◌++◌}
use mathlib.Core.Option.{Option, none, some}
use Prim.Native.Nat.{ℕ, suc, ◌+◌, ◌-◌, ◌≤◌, ◌<◌}
use native.Mathlib.Omega.{arith}
use lib.ListN.{length, take, drop, take-append-drop}
use lib.Seq.{take-add, take-take, length-take-le}
use Rattle.rules.specs.Frames.{Operation, longest_line, line_feed, digit_of, byte_before, bytes_of_line, operation_of_frame, operation_of_line}
use Rattle.rules.proofs.FrameBytes.{line-as-frame, no-bytes-no-frame}
use Rattle.rules.proofs.Lists.{all_join}
use Rattle.rules.proofs.Tests.{less-or-not}
use Rattle.digits.specs.Decoding.{FrontDecoded}
use Rattle.digits.proofs.Decoding.{wrong-pair}
use Rattle.lines.specs.Batching.{line_room, IsLine, FirstFeed, FirstLine, PromisesLine, PromisesNext}
use Rattle.std.specs.Prelude.{Option as Found, Some, None}
use Rattle.lines.specs.declared.Answered.{Answered}
use Rattle.lines.proofs.Decoded.{too_long}
use Rattle.lines.proofs.LineFound.{line-stands}

-- a line feed is no digit
no-feed : (xs : List ℕ) → (bytes_of_line xs ≡ none → ⊥) → IsLine xs
unfolding bytes_of_line
no-feed [] made = tt
no-feed (c ∷ []) made = absurd (made refl)
no-feed (c ∷ d ∷ cs) made =
    let wrong = wrong-pair (digit_of c) (digit_of d) (bytes_of_line cs) in
    let no_digit : 15 < digit_of line_feed = omega arith in (
      λ e. made (wrong (inl (subst (λ k. 15 < digit_of k) (sym e) no_digit))),
      (λ e. made (wrong (inr (subst (λ k. 15 < digit_of k) (sym e) no_digit))), no-feed cs (λ e. made (ap (byte_before (digit_of c) (digit_of d)) e))),
    )

-- ── the line feed looked for behind characters that are none ───────────────────────────────────

module _ (input : List ℕ) (from : ℕ) (front : IsLine (take from input)) where
  pub first-line : (end : ℕ) → FirstFeed input from (Some end) → FirstLine input end
  first-line end (behind, within, feed, is_line) =
      let end_is : end ≡ from + (end - from) = omega arith in
      let whole : take end input ≡ take from input ++ take (end - from) (drop from input) = ap (λ n. take n input) end_is ∙ take-add from (end - from) input in
      record { inside = within; feed = feed; is_line = subst IsLine (sym whole) (all_join (λ c. c ≢ line_feed) (take from input) (take (end - from) (drop from input)) front is_line) }

  pub no_line : FirstFeed input from None → IsLine input
  no_line is_line = subst IsLine (take-append-drop from input) (all_join (λ c. c ≢ line_feed) (take from input) (drop from input) front is_line)

-- ── the front decoded ──────────────────────────────────────────────────────────────────────────

module _ (input : List ℕ) (limit : ℕ) (within : limit ≤ length input) {before after : List ℕ} {size : ℕ} (f : FrontDecoded (take limit input) before after size) where
  long : length (take limit input) ≡ limit
  long = length-take-le limit input within

  front_bytes : bytes_of_line (take (size + size) input) ≡ some (take size after)
  front_bytes = ap bytes_of_line (sym (take-take (size + size) limit input (omega (arith, f.within, long)))) ∙ f.bytes

  pub front-line : IsLine (take (size + size) input)
  front-line = no-feed (take (size + size) input) (λ e. let z : ◌≡◌ {A = ℕ} 0 1 = cc (e, front_bytes) in omega arith)

  pub is-frame : operation_of_line (take (size + size) input) ≡ operation_of_frame (take size after)
  is-frame = line-as-frame (take (size + size) input) (take size after) front_bytes

  pub no_frame : ((end : ℕ) → end ≤ length input → end ≤ longest_line → end ≤ limit) → (end : ℕ) → size + size < end → end ≤ length input → operation_of_line (take end input) ≡ none
  no_frame reaches end behind inside =
      let line-length : length (take end input) ≡ end = length-take-le end input inside in
      ⊎_elim (λ over. too_long (take end input) (omega (arith, line-length)))
      (λ short. no-bytes-no-frame (take end input)
      (ap bytes_of_line (sym (take-take end limit input (reaches end inside short))) ∙ f.no_frame end behind (omega (arith, long, reaches end inside short))))
      (less-or-not longest_line end)

-- ── its answer ─────────────────────────────────────────────────────────────────────────────────

module _ (input before after output-before output-after : List ℕ) {end : ℕ} (f : FirstLine input end) {o : Option Operation} (operation : operation_of_line (take end input) ≡ o) where
  pub told-answered : {size : ℕ} → PromisesLine o before after output-before output-after (Some size) → PromisesLine (operation_of_line (take end input)) before after output-before output-after (Some size)
  told-answered {size} promise = subst (λ p. PromisesLine p before after output-before output-after (Some size)) (sym operation) promise

  pub told-stopped : {r : Found Answered} → r ≡ None → PromisesLine o before after output-before output-after None → PromisesNext input before after output-before output-after r
  told-stopped is promise =
      subst (PromisesNext input before after output-before output-after) (sym is)
      (λ l lent. let (short, same, output-same) = promise l lent in (
        same,
        output-same,
        inr record { line = take end input; later = drop (suc end) input; is_line = f.is_line; stands = line-stands input f; short = subst (λ p. length output-before < line_room p) (sym operation) short },
      ))
