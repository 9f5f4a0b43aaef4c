-- What the decoding of a line promises of the lent room: the frame's bytes at its front, or no frame.
use Rattle.std.specs.Prelude.{◌≡◌, List, ◌++◌, ℕ, ◌+◌, ◌≤◌, ◌<◌, length, take, drop, Option as Found, Some, None}
use Rattle.std.proofs.Math.Option.{Option, none, some}
use Rattle.rules.specs.Frames.{bytes_of_line}

pub record HasBytes (bs before after : List ℕ) (r : Found ℕ) : Type 0 where
  pub answer : r ≡ Some (length bs)
  pub room : after ≡ bs ++ drop (length bs) before

pub record NoBytes (before after : List ℕ) (r : Found ℕ) : Type 0 where
  pub answer : r ≡ None
  pub size : length after ≡ length before

abbrev pub Decodes : Option (List ℕ) → (before after : List ℕ) → Found ℕ → Type 0
Decodes none before after r = NoBytes before after r
Decodes (some bs) before after r = HasBytes bs before after r

-- the pairs of digits at the line's front: their bytes stand at the room's front, with what was behind them; no longer part of the line is a frame
pub record FrontDecoded (line before after : List ℕ) (size : ℕ) : Type 0 where
  pub within : size + size ≤ length line
  pub fits : size ≤ length after
  pub bytes : bytes_of_line (take (size + size) line) ≡ some (take size after)
  pub room : drop size after ≡ drop size before
  pub no_frame : (end : ℕ) → size + size < end → end ≤ length line → bytes_of_line (take end line) ≡ none
