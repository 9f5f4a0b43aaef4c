-- What `snapshot` answers on the room of a sound ledger is what the rules answer, and the bytes that it leaves are theirs: one law for each way that the rule
-- goes, and that header, rows and old content together are the snapshot before the old content.
use Rattle.std.specs.Prelude.{Result, Ok, Err}
use mathlib.Core.Path.{◌≡◌, refl, sym, ◌∙◌, ap, ap₂, subst}
use mathlib.Core.Bool.{true, false, not}
use mathlib.Core.List.{List, [], ◌∷◌, ◌++◌, flat_map, append_assoc}
use Prim.Native.Nat.{ℕ, ◌+◌, ◌*◌, ◌≤◌}
use native.Mathlib.Omega.{arith}
use borrow.Author.Tests.{ltb-true, ltb-false, le-ltb, le-leb, lt-leb}
use lib.Dec.{leb, ltb}
use lib.ListN.{length, take, drop}
use lib.Seq.{take_at, drop_at, length-take-le}
use Rattle.rules.specs.RoomAndSoundLedger.{Ledger, Sound}
use Rattle.rules.specs.AnswerNumbers.{SnapshotBytes, Reply, AllocatorExhausted, OutputTooShort, done, reply_of, Outcome, outcome, refused, sound, on_lent}
use Rattle.rules.specs.AccountRules.{next_id_is_m}
use Rattle.rules.specs.SnapshotsMigrationCertificates.{Snapshot, row_bytes, snapshot_bytes, account_rows, after_snapshot, snapshot_of, taking_snapshot, too_short_for, output_after, snapshot}
use Rattle.rules.specs.Frames.{take_snapshot, longest_snapshot, answer}
use Rattle.rules.proofs.Tests.{by-test, by_bool}
use Rattle.rules.proofs.SnapshotSoundness.{answer-sound}
use Rattle.rules.proofs.EveryLine.{own-snapshot-has-room}
use Rattle.big_endian.specs.Layout.{snapshot_header, longest_row}
use Rattle.records.specs.Records.{head_of, sizes_of}
use Rattle.records.specs.declared.Head.{Head}
use Rattle.records.specs.declared.Sizes.{Sizes}
use Rattle.heads.specs.Heads.{stamped_head}
use Rattle.refusals.specs.declared.Refusal.{Refusal}
use Rattle.refusals.specs.Answers.{answer_of, carries_snapshot}
use Rattle.snapshot_writer.specs.Rows.{header_bytes, WritesRows, account_bytes}
use Rattle.snapshot_writer.specs.declared.Extent.{Extent}
use Rattle.room.specs.Contents.{contents_of, with_head}
use Rattle.room.specs.Room.{head_in, contents_in, IsRoom, Performed}
use Rattle.room.proofs.SoundRoom.{head-is, sizes-are}
use Rattle.snapshot_writer.proofs.PlaceRows.{snapshot-size, rows-most}

-- ── whether the output has room ────────────────────────────────────────────────────────────────

at_most : (m n : ℕ) → leb m n ≡ not (ltb n m)
at_most m n = by_bool (λ b. ltb n m ≡ b → leb m n ≡ not b) (ltb n m) (λ _ e. lt-leb m n (ltb-true n m e)) (λ _ e. le-leb m n (ltb-false n m e)) refl

module _ (L : Ledger) (size : ℕ) where
  -- the rows measured
  pub measured : (n : ℕ) → n ≡ length (account_bytes L) → leb (snapshot_header + n) size ≡ not (too_short_for size (snapshot_of L))
  measured n e =
      let all : snapshot_header + n ≡ length (snapshot_bytes (snapshot_of L)) = omega (arith, snapshot-size (snapshot_of L)) in
      ap (λ m. leb m size) all ∙ at_most (length (snapshot_bytes (snapshot_of L))) size

  -- room for the longest names
  pub plenty : (xs : List ℕ) → IsRoom xs L → snapshot_header + longest_row * (sizes_of xs).used ≤ size → true ≡ not (too_short_for size (snapshot_of L))
  plenty xs room h = sym (ap not (le-ltb size (length (snapshot_bytes (snapshot_of L))) (omega (arith, snapshot-size (snapshot_of L), rows-most xs L room))))

  -- where it is not too short, the rows fit behind the header
  pub roomy : too_short_for size (snapshot_of L) ≡ false → snapshot_header + length (account_bytes L) ≤ size
  roomy e = omega (arith, snapshot-size (snapshot_of L), ltb-false size (length (snapshot_bytes (snapshot_of L))) e)

  -- ── the outcomes of the rules ────────────────────────────────────────────────────────────────

  exhausts : next_id_is_m L ≡ true → snapshot size L ≡ refused AllocatorExhausted L
  unfolding snapshot taking_snapshot
  exhausts e = rw e

  is-short : next_id_is_m L ≡ false → too_short_for size (snapshot_of L) ≡ true → snapshot size L ≡ refused OutputTooShort L
  unfolding snapshot taking_snapshot
  is-short e f = rw (e, f)

  writes : next_id_is_m L ≡ false → too_short_for size (snapshot_of L) ≡ false → snapshot size L ≡ outcome (done (SnapshotBytes (snapshot_bytes (snapshot_of L)) ∷ [])) (after_snapshot L)
  unfolding snapshot taking_snapshot
  writes e f = rw (e, f)

-- the ledger after a snapshot is sound, whatever the output
after-sound : (L : Ledger) → Sound L → next_id_is_m L ≡ false → Sound (after_snapshot L)
unfolding answer on_lent
after-sound L known e = subst (λ (o : Outcome). Sound o.ledger) (writes L longest_snapshot e (own-snapshot-has-room L known)) (answer-sound (sound L) known take_snapshot tt)

-- ── the head ───────────────────────────────────────────────────────────────────────────────────

module _ (L : Ledger) where
  stamp-exhausts : (e : Refusal) → stamped_head (head_in L) ≡ Err e → next_id_is_m L ≡ true
  stamp-exhausts e = by-test (λ r. r ≡ Err e → next_id_is_m L ≡ true) (next_id_is_m L) (λ last _. last) (λ _ q. cc)

  stamp-draws : (h : Head) → stamped_head (head_in L) ≡ Ok h → (next_id_is_m L ≡ false) × (h ≡ head_in (after_snapshot L))
  stamp-draws h = by-test (λ r. r ≡ Ok h → (next_id_is_m L ≡ false) × (h ≡ head_in (after_snapshot L))) (next_id_is_m L) (λ _ q. cc) (λ e q. (e, cc))

  stamped-contents : with_head (head_in (after_snapshot L)) (contents_in L) ≡ contents_in (after_snapshot L)
  unfolding contents_in
  stamped-contents = refl

-- ── the bytes ──────────────────────────────────────────────────────────────────────────────────

-- the snapshot stands at the front of the output, and what stood past it stands there still
abbrev pub WrittenInto : (before after : List ℕ) (end : ℕ) → Snapshot → Type 0
WrittenInto before after end s = (take end after ≡ snapshot_bytes s) × (after ≡ output_after (answer_of (carries_snapshot after) (Ok end)) before)

module _ (s : Snapshot) (before rows after : List ℕ) (e : Extent) (room : snapshot_header ≤ length before) (written : WritesRows s.rows before rows e)
    (header : after ≡ header_bytes s.version s.active e.rows ++ drop snapshot_header rows) where
  end_is : length (snapshot_bytes s) ≡ e.end
  end_is = omega (arith, snapshot-size s, written.end)

  output-is : after ≡ snapshot_bytes s ++ drop e.end before
  unfolding snapshot_bytes
  output-is =
      let rest = flat_map row_bytes s.rows ++ drop e.end before in
      let behind : drop snapshot_header rows ≡ rest = ap (drop snapshot_header) (written.output ∙ append_assoc (take snapshot_header before) _ _) ∙ drop_at (take snapshot_header before) rest snapshot_header (length-take-le snapshot_header before room) in
      header ∙ ap₂ (λ n r. header_bytes s.version s.active n ++ r) written.rows behind ∙ sym (append_assoc (header_bytes s.version s.active (length s.rows)) _ _)

  pub written_out : WrittenInto before after e.end s
  written_out =
      let front = ap (take e.end) output-is ∙ take_at (snapshot_bytes s) (drop e.end before) e.end end_is in
      (front, output-is ∙ (λ i. sym front i ++ drop (sym (ap length front ∙ end_is) i) before))

-- ── the promise ────────────────────────────────────────────────────────────────────────────────

promise : (size : ℕ) (L : Ledger) (o : Outcome) (r : Reply) (ys : List ℕ) → snapshot size L ≡ o → r ≡ o.reply → IsRoom ys o.ledger → Performed (snapshot size) L r ys
promise size L o r ys e q k = record { answer = q ∙ sym (ap (λ o. o.reply) e); room = subst (λ (o : Outcome). IsRoom ys o.ledger) (sym e) k }

module _ (xs : List ℕ) (L : Ledger) (room : IsRoom xs L) where
  module _ (size : ℕ) {h : Head} (loaded : h ≡ head_of xs) where
    stamped-here : {r : Result Head Refusal} → r ≡ stamped_head h → stamped_head (head_in L) ≡ r
    stamped-here is = sym (is ∙ ap stamped_head (loaded ∙ head-is xs L room))

    pub answers-exhausted : {e : Refusal} → Err e ≡ stamped_head h → Performed (snapshot size) L (reply_of AllocatorExhausted) xs
    answers-exhausted is = promise size L (refused AllocatorExhausted L) _ xs (exhausts L size (stamp-exhausts L _ (stamped-here is))) refl room

    module _ {next : Head} (stamped : Ok next ≡ stamped_head h) where
      drawn : (next_id_is_m L ≡ false) × (next ≡ head_in (after_snapshot L))
      drawn = stamp-draws L next (stamped-here stamped)

      pub answers-short : too_short_for size (snapshot_of L) ≡ true → Performed (snapshot size) L (reply_of OutputTooShort) xs
      answers-short e = promise size L (refused OutputTooShort L) _ xs (is-short L size drawn.0 e) refl room

      -- the snapshot of the stamped head and of the room's own counts is the ledger's
      pub answers-written : too_short_for size (snapshot_of L) ≡ false → (s : Sizes) → s ≡ sizes_of xs
          → (bs ys : List ℕ) → bs ≡ snapshot_bytes (record { version = next.last_version; active = s.live; rows = account_rows L.places })
          → (length ys ≡ length xs) × (contents_of ys ≡ with_head next (contents_of xs)) → Performed (snapshot size) L (done (SnapshotBytes bs ∷ [])) ys
      answers-written e s sizes bs ys written stored =
          let own = written ∙ (λ i. snapshot_bytes (record { version = (drawn.1 i).last_version; active = ((sizes ∙ sizes-are xs L room) i).live; rows = account_rows L.places })) in
          promise size L _ _ ys (writes L size drawn.0 e) (ap (λ bs. done (SnapshotBytes bs ∷ [])) own)
          (record { size = omega (arith, room.size, stored.0); holds = stored.1 ∙ ap₂ with_head drawn.1 room.holds ∙ stamped-contents L; sound = after-sound L room.sound drawn.0 })
