-- A text put into lent room: what does not fit leaves it, and two parts put one behind the other stand there as one.
use mathlib.Core.Path.{◌≡◌, refl, sym, ◌∙◌, ap}
use mathlib.Core.List.{List, ◌++◌, append_assoc}
use Prim.Native.Nat.{ℕ, ◌+◌, ◌-◌, ◌≤◌, ◌<◌}
use native.Mathlib.Omega.{arith}
use borrow.Author.Tests.{lt-ltb, le-ltb}
use lib.ListN.{length, take, drop, length-append, length-drop}
use lib.Seq.{take_all, drop_at, drop-drop}
use Rattle.std.specs.Prelude.{Ok, Err}
use Rattle.rules.specs.Recorder.{fitting}
use Rattle.records.specs.Rows.{put}
use Rattle.records.proofs.Rows.{two-halves}
use Rattle.recorder.specs.Recording.{Records}
use Rattle.refusals.specs.declared.Refusal.TheVariants.{OutputTooShort}

module _ (text room : List ℕ) (size : ℕ) (is : length text ≡ size) where
  pub too_short : length room < size → Records (fitting text room) room (Err OutputTooShort)
  unfolding fitting
  too_short h = rw (lt-ltb (length room) (length text) (omega (arith, is))) (record { reply = refl; room = refl })

  pub fits : {after : List ℕ} → size ≤ length room → after ≡ text ++ drop size room → Records (fitting text room) after (Ok size)
  unfolding fitting
  fits h e = rw (le-ltb (length room) (length text) (omega (arith, is)), is) (record { reply = refl; room = e })

-- one part over the front of the room, another over all that follows it
pub two-parts : (head tail room first second : List ℕ) (m n : ℕ) → length head ≡ m → length tail ≡ n → m + n ≤ length room
    → first ≡ head ++ drop m room → second ≡ tail ++ drop n (take (length first - m) (drop m first)) → put m (length first - m) first second ≡ (head ++ tail) ++ drop (m + n) room
two-parts head tail room first second m n a b h e f =
    let behind : drop m first ≡ drop m room = ap (drop m) e ∙ drop_at head (drop m room) m a in
    let size : length first ≡ length room = ap length e ∙ length-append head (drop m room) ∙ omega (arith, length-drop m room) in
    let all : take (length first - m) (drop m first) ≡ drop m room = ap (take (length first - m)) behind ∙ take_all (length first - m) (drop m room) (omega (arith, length-drop m room)) in
    ap (λ l. put m (length l - m) l second) e ∙ two-halves m room head second a
    ∙ ap (λ l. head ++ l) (f ∙ ap (λ l. tail ++ drop n l) all ∙ ap (λ l. tail ++ l) (drop-drop n m room))
    ∙ sym (append_assoc head tail (drop (m + n) room))
