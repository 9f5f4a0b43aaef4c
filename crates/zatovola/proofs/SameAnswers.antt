-- What the contracts leave open: nothing, refusals included. One ledger has one room, and memory that is no room stays; an answer and a batch are fixed as
-- those of crate lines are (`by-lent`).
use mathlib.Core.Path.{◌≡◌, sym, ◌∙◌}
use mathlib.Core.Logic.{⊎_elim}
use mathlib.Core.List.{List}
use mathlib.Core.Option.{Option}
use Prim.Native.Nat.{ℕ}
use lib.ListN.{length}
use Rattle.rules.specs.Lists.{All}
use Rattle.rules.specs.RoomAndSoundLedger.{IsByte, made}
use Rattle.rules.specs.AnswerNumbers.{Lent}
use Rattle.rules.specs.Frames.{Operation}
use Rattle.rules.proofs.Tests.{equal_or_not, less-or-not}
use Rattle.frames.specs.Answering.{IsLent, room_for}
use Rattle.lines.proofs.SameAnswers.{same_after, Same, by-lent, same-told, one_batch}
use Rattle.zatovola.specs.Interface.{bytes_of_room, PromisesFrame, progress}
use Rattle.lines.specs.declared.Progress.{Progress}
use Rattle.lines.specs.Batching.{PromisesBatch}

-- of `zatovola_room_size`
pub same_size : (names reservations m n : ℕ) → m ≡ bytes_of_room (made names reservations) → n ≡ bytes_of_room (made names reservations) → m ≡ n
same_size names reservations m n one two = one ∙ sym two

-- ── an answer ──────────────────────────────────────────────────────────────────────────────────

module _ (before after others output output-after output-others : List ℕ) (bytes : All IsByte after) (other-bytes : All IsByte others) (m n : ℕ) where
  module _ (o : Option Operation) (one : PromisesFrame o before after output output-after m) (two : PromisesFrame o before others output output-others n) where
    agree : (l : Lent) → IsLent before l → Same ℕ m n after others output-after output-others
    agree l is_lent =
        let a = one l is_lent in
        let b = two l is_lent in
        ⊎_elim
        (λ short. let (i, j, k) = a.too_short short in let (p, q, r) = b.too_short short in record { answer = i ∙ sym p; memory = j ∙ sym q; output = k ∙ sym r })
        (λ room.
        let x = a.answered room in
        let y = b.answered room in
        record {
          answer = x.writes.size ∙ sym y.writes.size;
          memory = same_after o l before after others bytes other-bytes x.lent y.lent x.untouched y.untouched;
          output = x.writes.output ∙ sym y.writes.output;
        })
        (less-or-not (length output) (room_for o))

    -- of `zatovola_answer`
    pub same_answer : Same ℕ m n after others output-after output-others
    same_answer = by-lent before (same-told (equal_or_not m n)) agree

  -- of `zatovola_batch`
  pub same-batch : (input : List ℕ) (used also-used : ℕ)
      → PromisesBatch input before after output output-after (progress used m)
      → PromisesBatch input before others output output-others (progress also-used n)
      → Same Progress (progress used m) (progress also-used n) after others output-after output-others
  same-batch input used also-used = one_batch before after others output output-after output-others bytes other-bytes input (progress used m) (progress also-used n)
