-- The operation of a line by what `bytes_of_line` answers: its contract goes by cases on the rules' bytes, so the answer tells which case it is.
use mathlib.Core.Path.{◌≡◌, refl, sym, ap, ◌∙◌}
use mathlib.Core.List.{List}
use mathlib.Core.Option.{Option, none, some}
use Prim.Native.Nat.{ℕ, ◌≤◌, ◌<◌}
use native.Mathlib.Omega.{arith}
use borrow.Author.Tests.{lt-ltb}
use lib.ListN.{length, take, drop, length-append}
use lib.Seq.{take_at}
use Rattle.rules.specs.Frames.{longest_line, operation_of_line}
use Rattle.std.specs.Prelude.{Option as Found, Some, None}
use Rattle.digits.specs.Decoding.{Decodes}

-- so many bytes were read, and they stand at the room's front
pub record FrontHas (bytes : Option (List ℕ)) (room : List ℕ) (size : ℕ) : Type 0 where
  pub within : size ≤ length room
  pub are : bytes ≡ some (take size room)

module _ (before after : List ℕ) {r : Found ℕ} where
  pub front-has : {size : ℕ} (bytes : Option (List ℕ)) → Decodes bytes before after r → r ≡ Some size → FrontHas bytes after size
  front-has none d e = absurd (let z : ◌≡◌ {A = ℕ} 0 1 = cc in omega arith)
  front-has {size} (some bs) d e =
      let long : length bs ≡ size = cc in
      record {
        within = omega (arith, long, ap length d.room, length-append bs (drop (length bs) before));
        are = ap some (sym (ap (take size) d.room ∙ take_at bs (drop (length bs) before) size long));
      }

  pub has-none : (bytes : Option (List ℕ)) → Decodes bytes before after r → r ≡ None → bytes ≡ none
  has-none none d e = refl
  has-none (some bs) d e = absurd (let z : ◌≡◌ {A = ℕ} 0 1 = cc in omega arith)

module _ (line : List ℕ) where
  pub too_long : longest_line < length line → operation_of_line line ≡ none
  unfolding operation_of_line
  too_long long = rw (lt-ltb longest_line (length line) long)
