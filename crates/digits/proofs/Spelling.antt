-- Spelling in place, for `spell`: `Underway` is kept from the last byte back to the first. A byte's two characters land where nothing unread stands, since i +
-- i is not below i. And spelling into other room, for `spell_part`: `PartUnderway` is kept from the first byte on.
use mathlib.Core.Path.{◌≡◌, refl, sym, ap, ◌∙◌}
use mathlib.Core.List.{List, ◌∷◌, ◌++◌, append_assoc, append-nil}
use Prim.Native.Nat.{ℕ, suc, ◌+◌, ◌*◌, ◌/◌, ◌%◌, ◌≤◌, ◌<◌}
use native.Mathlib.Nat.{add-zero}
use native.Mathlib.Numerals.{add-one}
use native.Mathlib.Omega.{arith}
use lib.ListN.{length, get_or, take, drop, set, take-append-drop}
use lib.Seq.{drop-cons, drop-drop, drop-length, drop-set-add, get_or-take, slice, slice_empty, slice-cons, take-add, take-set-le, take-take}
use Rattle.rules.specs.Frames.{character_of, line_of_bytes}

-- under way: the first i bytes are as they were, and from i + i on stands the line of the others, with what was behind it
pub record Underway (before : List ℕ) (size : ℕ) (after : List ℕ) (i : ℕ) : Type 0 where
  pub unread : take i after ≡ take i before
  pub line : drop (i + i) after ≡ line_of_bytes (slice i size before) ++ drop (size + size) before

-- two characters stored at a place
stored : (xs : List ℕ) (at high low : ℕ) → at + 1 < length xs → drop at (set (set xs (at + 1) low) at high) ≡ high ∷ low ∷ drop (at + 2) xs
stored xs at high low h =
    let two : at + 2 ≡ suc (suc at) = omega arith in
    ap (λ n. drop at (set (set xs (at + 1) low) n high)) (sym (add-zero at))
    ∙ drop-set-add at (set xs (at + 1) low) 0 high
    ∙ ap (λ ys. set ys 0 high) (drop-set-add at xs 1 low)
    ∙ rw (two, drop-cons xs at 0 (omega arith), drop-cons xs (suc at) 0 (omega arith))

module _ (before : List ℕ) (size : ℕ) where
  pub begun : Underway before size before size
  unfolding line_of_bytes
  begun = record { unread = refl; line = rw (slice_empty size before) }

  pub turn : (after : List ℕ) (i high low : ℕ) → i < size → size ≤ length before → 2 * i + 1 < length after → Underway before size after (suc i)
      → high ≡ character_of (get_or after i 0 / 16) → low ≡ character_of (get_or after i 0 % 16) → Underway before size (set (set after (2 * i + 1) low) (2 * i) high) i
  unfolding line_of_bytes
  turn after i high low less fits room w is_high is_low =
      let at : 2 * i ≡ i + i = omega arith in
      let same : get_or after i 0 ≡ get_or before i 0 = sym (get_or-take (suc i) after i 0 (omega arith)) ∙ ap (λ xs. get_or xs i 0) w.unread ∙ get_or-take (suc i) before i 0 (omega arith) in
      let two : i + i + 2 ≡ suc i + suc i = omega arith in
      let pair : drop (i + i) (set (set after (2 * i + 1) low) (2 * i) high) ≡ high ∷ low ∷ drop (i + i + 2) after = rw at (stored after (i + i) high low (omega arith)) in
      record {
        unread = take-set-le i (set after (2 * i + 1) low) (2 * i) high (omega arith)
            ∙ take-set-le i after (2 * i + 1) low (omega arith)
            ∙ sym (take-take i (suc i) after (omega arith))
            ∙ ap (take i) w.unread
            ∙ take-take i (suc i) before (omega arith);
        line = pair ∙ rw (two, w.line, slice-cons i size before 0 less fits, is_high, is_low, same);
      }

-- under way, in other room: its first i + i characters are the front of the bytes' line, and behind them it is as it was
pub record PartUnderway (bytes before after : List ℕ) (i : ℕ) : Type 0 where
  pub line : take (i + i) after ++ line_of_bytes (drop i bytes) ≡ line_of_bytes bytes
  pub behind : drop (i + i) after ≡ drop (i + i) before

module _ (bytes before : List ℕ) where
  pub part-begun : PartUnderway bytes before before 0
  part-begun = record { line = refl; behind = refl }

  pub part-turn : (after : List ℕ) (i high low : ℕ) → i < length bytes → 2 * i + 1 < length after → PartUnderway bytes before after i
      → high ≡ character_of (get_or bytes i 0 / 16) → low ≡ character_of (get_or bytes i 0 % 16) → PartUnderway bytes before (set (set after (2 * i + 1) low) (2 * i) high) (i + 1)
  unfolding line_of_bytes
  part-turn after i high low less room w is_high is_low =
      let two : i + 1 + (i + 1) ≡ i + i + 2 = omega arith in
      let at : 2 * i ≡ i + i = omega arith in
      let next = set (set after (2 * i + 1) low) (2 * i) high in
      let kept = take-set-le (i + i) (set after (2 * i + 1) low) (2 * i) high (omega arith) ∙ take-set-le (i + i) after (2 * i + 1) low (omega arith) in
      let pair : drop (i + i) next ≡ high ∷ low ∷ drop (i + i + 2) after = rw at (stored after (i + i) high low (omega arith)) in
      let rest = line_of_bytes (drop (i + 1) bytes) in
      record {
        line = ap (λ n. take n next ++ rest) two
            ∙ ap (λ xs. xs ++ rest) (take-add (i + i) 2 next)
            ∙ append_assoc (take (i + i) next) (take 2 (drop (i + i) next)) rest
            ∙ rw (kept, pair, is_high, is_low, add-one) (ap (λ xs. take (i + i) after ++ line_of_bytes xs) (sym (drop-cons bytes i 0 less)) ∙ w.line);
        behind = ap (λ n. drop n next) two
            ∙ sym (drop-drop 2 (i + i) next)
            ∙ ap (drop 2) pair
            ∙ sym (drop-drop 2 (i + i) after)
            ∙ ap (drop 2) w.behind
            ∙ drop-drop 2 (i + i) before
            ∙ ap (λ n. drop n before) (sym two);
      }

  pub part-finished : (after : List ℕ) → PartUnderway bytes before after (length bytes) → after ≡ line_of_bytes bytes ++ drop (length bytes + length bytes) before
  unfolding line_of_bytes
  part-finished after w =
      let size = length bytes + length bytes in
      sym (take-append-drop size after)
      ∙ ap (λ xs. take size after ++ xs) w.behind
      ∙ ap (λ xs. xs ++ drop size before) (sym (append-nil (take size after)) ∙ ap (λ xs. take size after ++ line_of_bytes xs) (sym (drop-length bytes)) ∙ w.line)
