-- An answer part by part. `WritesReply` of some values, and the next one's bytes put where they end, is `WritesReply` of one value more (`part-behind`): the
-- rules' bytes of a longer list are those of the shorter with the value's behind them.
use mathlib.Core.Path.{◌≡◌, refl, sym, ap, ap₂, ◌∙◌}
use mathlib.Core.List.{List, [], ◌∷◌, ◌++◌, flat_map, append_assoc}
use Prim.Native.Nat.{ℕ, ◌+◌, ◌-◌, ◌≤◌}
use native.Mathlib.Omega.{arith}
use lib.ListN.{length, drop, length-append}
use lib.Seq.{length-take-le}
use Rattle.rules.specs.RoomAndSoundLedger.{longest_name}
use Rattle.rules.specs.AnswerNumbers.{Value, TheName, reply}
use Rattle.rules.specs.SnapshotsMigrationCertificates.{bytes_of, name_bytes}
use Rattle.rules.specs.Frames.{value_bytes, reply_bytes}
use Rattle.rules.proofs.Lists.{flat_map-append, flat_map-one}
use Rattle.rules.proofs.Numbers.{bytes-length}
use Rattle.names.specs.declared.Name.{Name}
use Rattle.names.specs.Names.{spelled}
use Rattle.numbers.specs.LittleEndian.{little_bytes}
use Rattle.records.specs.Rows.{put}
use Rattle.records.proofs.Rows.{put-behind}
use Rattle.answer_bytes.specs.Writing.{WritesReply}

-- a single byte is the same from either end
pub byte-is : (n : ℕ) → little_bytes 1 n ≡ bytes_of 1 n
unfolding little_bytes bytes_of
byte-is n = refl

pub number-written : {n : ℕ} {before w : List ℕ} → w ≡ little_bytes 1 n → WritesReply (reply n []) before (put 0 1 before w) 1
unfolding reply_bytes flat_map little_bytes bytes_of
number-written {n} {before} {w} is = record { size = refl; output = ap (λ u. u ++ drop 1 before) is }

reply-more : (n : ℕ) (vs : List Value) (v : Value) → reply_bytes (reply n (vs ++ v ∷ [])) ≡ reply_bytes (reply n vs) ++ value_bytes v
unfolding reply_bytes
reply-more n vs v = rw (flat_map-append value_bytes vs (v ∷ []), flat_map-one value_bytes v, append_assoc)

module _ {n : ℕ} {vs : List Value} {before after w : List ℕ} {from : ℕ} (so_far : WritesReply (reply n vs) before after from) where
  -- one value more, in the part between where the others end and an end of its own
  part-behind : (v : Value) (end : ℕ) → w ≡ value_bytes v → from + length w ≡ end → WritesReply (reply n (vs ++ v ∷ [])) before (put from (end - from) after w) end
  part-behind v end is ends =
      let front = reply_bytes (reply n vs) in
      let start : length front ≡ from = sym so_far.size in
      let width : end - from ≡ length w = omega arith in
      let more : front ++ w ≡ reply_bytes (reply n (vs ++ v ∷ [])) = ap (λ u. front ++ u) is ∙ sym (reply-more n vs v) in
      let size : end ≡ length (reply_bytes (reply n (vs ++ v ∷ []))) = rw (← more, length-append) (omega arith) in
      record {
        size = size;
        output =
            ap₂ (λ k xs. put from k xs w) width (so_far.output ∙ ap (λ m. front ++ drop m before) start)
            ∙ put-behind from (length w) before front w start
            ∙ ap₂ (λ all m. all ++ drop m before) more (ends ∙ size);
      }

  -- a value that is written in k bytes
  pub value-behind : (k x : ℕ) (v : Value) → value_bytes v ≡ bytes_of k x → w ≡ bytes_of k x → WritesReply (reply n (vs ++ v ∷ [])) before (put from (from + k - from) after w) (from + k)
  value-behind k x v is-written is = part-behind v (from + k) (is ∙ sym is-written) (ap (λ m. from + m) (ap length is ∙ bytes-length k x))

-- a name comes right behind the number
pub name-written : {n : ℕ} {before after w : List ℕ} (name : Name) → length name.bytes ≡ longest_name → name.length ≤ longest_name → WritesReply (reply n []) before after 1 → w ≡ name_bytes (spelled name)
    → WritesReply (reply n (TheName (spelled name) ∷ [])) before (put 1 (2 + name.length - 1) after w) (2 + name.length)
name-written name held short so_far is =
    let size : length (spelled name) ≡ name.length = length-take-le name.length name.bytes (omega arith) in
    part-behind so_far (TheName (spelled name)) (2 + name.length) is (ap (λ u. 1 + length u) is ∙ omega (arith, size))
