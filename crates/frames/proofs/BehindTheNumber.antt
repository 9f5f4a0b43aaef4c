-- A snapshot handed out: written into the part behind the number, then the number. With `put` for both writes the output is the number, the bytes, and what
-- stood behind them (`number-before`).
use mathlib.Core.Path.{◌≡◌, sym, ap, ◌∙◌}
use mathlib.Core.List.{List, [], ◌∷◌, ◌++◌, append-nil}
use Prim.Native.Nat.{ℕ, suc, ◌+◌, ◌-◌, ◌≤◌}
use native.Mathlib.Omega.{arith}
use borrow.Rule.Slice.PartMut.{put_same}
use lib.ListN.{length, take, drop, length-drop, drop_of_length-le}
use lib.Seq.{take_all, drop_at, drop-drop, length-take-le}
use Rattle.rules.specs.AnswerNumbers.{SnapshotBytes, Refusal, done, reply_of}
use Rattle.rules.specs.SnapshotsMigrationCertificates.{bytes_of, output_after}
use Rattle.rules.specs.Frames.{value_bytes, reply_bytes}
use Rattle.records.specs.Rows.{row, put}
use Rattle.rules.proofs.Lists.{flat_map-one}
use Rattle.rules.proofs.Refusals.{refusal-hands-out-nothing}
use Rattle.answer_bytes.specs.Writing.{WritesReply}

reply-is : (bs : List ℕ) → reply_bytes (done (SnapshotBytes bs ∷ [])) ≡ 0 ∷ bs
unfolding reply_bytes bytes_of
reply-is bs = ap (λ l. 0 ∷ l) (flat_map-one value_bytes (SnapshotBytes bs))

module _ (output : List ℕ) where
  abbrev pub part : List ℕ
  part = row (length output - 1) 1 output

  abbrev pub with_part : List ℕ → List ℕ
  with_part after = put 1 (length output - 1) output after

  pub part-back : {after : List ℕ} → after ≡ part → with_part after ≡ output
  part-back is = ap with_part is ∙ put_same 1 (length output - 1) output

  module _ (room : 1 ≤ length output) where
    pub part_length : length part ≡ length output - 1
    part_length = length-take-le (length output - 1) (drop 1 output) (omega (arith, length-drop 1 output))

    behind : (after : List ℕ) → drop 1 (with_part after) ≡ after
    behind after =
        drop_at (take 1 output) (after ++ drop (length output - 1) (drop 1 output)) 1 (length-take-le 1 output room)
        ∙ ap (λ l. after ++ l) (drop_of_length-le (drop 1 output) {i = length output - 1} (omega (arith, length-drop 1 output)))
        ∙ append-nil after

    kept : (n : ℕ) → drop n part ≡ drop (suc n) output
    kept n =
        let next : 1 + n ≡ suc n = omega arith in
        ap (drop n) (take_all (length output - 1) (drop 1 output) (omega (arith, length-drop 1 output))) ∙ drop-drop n 1 output ∙ ap (λ m. drop m output) next

    pub number-before : (bs : List ℕ) {size : ℕ} → length bs ≡ size → {after w : List ℕ} → after ≡ bs ++ drop (length bs) part → w ≡ 0 ∷ drop 1 (with_part after)
        → WritesReply (done (SnapshotBytes bs ∷ [])) output w (1 + size)
    number-before bs long {after} {w} is written = record {
      size = omega (arith, ap length (reply-is bs));
      output =
          written ∙ ap (λ l. 0 ∷ l) (behind after ∙ is ∙ ap (λ l. bs ++ l) (kept (length bs)))
          ∙ sym (ap (λ l. l ++ drop (length l) output) (reply-is bs));
    }

    -- a snapshot handed out has its size, and is written so
    pub handed-out : (size : ℕ) (after : List ℕ) {w : List ℕ} → size ≤ length after → after ≡ output_after (done (SnapshotBytes (take size after) ∷ [])) part
        → w ≡ 0 ∷ drop 1 (with_part after) → WritesReply (done (SnapshotBytes (take size after) ∷ [])) output w (1 + size)
    handed-out size after fits kept written = number-before (take size after) (length-take-le size after fits) kept written

  -- a refusal leaves the output as it was
  pub refusal-leaves : (e : Refusal) {after : List ℕ} → after ≡ output_after (reply_of e) part → with_part after ≡ output
  refusal-leaves e kept = part-back (kept ∙ ap (λ l. l ++ drop (length l) part) (refusal-hands-out-nothing e))
