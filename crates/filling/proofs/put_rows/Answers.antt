-- `filling::put_rows` meets its contract. The invariant: the room holds the rows passed, and the baseline is their committed total or M; a turn is one row
-- more (Putting), said for whichever ledger and snapshot the caller speaks of.
use mathlib.Core.Path.{◌≡◌, refl, sym, ◌∙◌, ap, subst}
use Prim.Native.Nat.{◌+◌, ◌-◌, ◌≤◌, min}
use native.Mathlib.Omega.{arith}
use lib.ListN.{length, take, drop}
use Rattle.rules.specs.RoomAndSoundLedger.{M, Ledger}
use Rattle.rules.specs.AccountRules.{natural}
use Rattle.rules.specs.SnapshotsMigrationCertificates.{Snapshot, is_negative}
use Rattle.big_endian.specs.Layout.{row_amounts}
use Rattle.numbers.proofs.Bytes.{all-bytes}
use Rattle.snapshot_reader.specs.Standing.{Passed, ReadsRow}
use Rattle.snapshot_reader.proofs.Header.{header}
use Rattle.snapshot_reader.proofs.Rows.{part-is-name, AtRow, start, at_row, stands, advance, finished}
use Rattle.filling.specs.Filling.{NoneNegative, seat_of_row}
use Rattle.filling.proofs.Putting.{passes, Put, none-put, row-natural, row-asks, row_put}
use Rattle.filling.proofs.put_rows.Lts as place
use Rattle.filling.proofs.put_rows.Tie as tie
use Rattle.filling.proofs.put_rows.Goals as goal

abbrev Start : Type 0
Start = place.Start tie.the-claims tie.handed_pre tie.handed_post goal.the-invariant-loop-at goal.the-decreases-loop-at

abbrev In-loop-at : Type 0
In-loop-at = place.In-loop tie.the-claims tie.handed_pre tie.handed_post goal.the-invariant-loop-at goal.the-decreases-loop-at

abbrev After-read_row-row : Type 0
After-read_row-row = place.After-read_row tie.the-claims tie.handed_pre tie.handed_post goal.the-invariant-loop-at goal.the-decreases-loop-at

abbrev After-seat_of : Type 0
After-seat_of = place.After-seat_of tie.the-claims tie.handed_pre tie.handed_post goal.the-invariant-loop-at goal.the-decreases-loop-at

pub loop-at-init : goal.loop-at-init
loop-at-init c =
    let bytes = c.args.bytes.now in
    let known = (c.requires.1 c.requires.0.ledger c.requires.0.is_room).1 in (
      refl,
      (header bytes known.snapshot known.is_read).long,
      λ L is_room snapshot e.
          let (empty, takes) = c.requires.1 L is_room in
          start (header bytes snapshot e).from (none-put c.args.room.now L is_room empty snapshot.rows (passes L.T bytes (all-bytes bytes c.shared_slice_known-1.given) takes snapshot e)),
    )

-- ── the pass at a row, for the ledger and the snapshot that the caller speaks of ───────────────

abbrev entry : (c : In-loop-at) → Start
entry c = c.before.before.before.before

abbrev RowAt : (c : In-loop-at) → Ledger → Snapshot → Type 0
RowAt c L s = let l = c.loop-at in AtRow (entry c).args.bytes.now s.rows l.at (Put L.T L.R l.room l.baseline)

abbrev ledger : (c : In-loop-at) → Ledger
ledger c = (entry c).requires.0.ledger

abbrev snapshot : (c : In-loop-at) → Snapshot
snapshot c = let s = entry c in (s.requires.1 s.requires.0.ledger s.requires.0.is_room).1.snapshot

passed : (c : In-loop-at) → let l = c.loop-at in Passed (entry c).args.bytes.now (snapshot c).rows l.at (Put (ledger c).T (ledger c).R l.room l.baseline)
passed c = let s = entry c in c.loop-at.invariant.2 (ledger c) s.requires.0.is_room (snapshot c) (s.requires.1 s.requires.0.ledger s.requires.0.is_room).1.is_read

row : (c : In-loop-at) → RowAt c (ledger c) (snapshot c)
row c = at_row (passed c) c.loop-at-test.true

pub read_row-row-requires : goal.read_row-row-requires
read_row-row-requires c = stands (passed c.before) c.loop-at-test.true

-- ── what the reader says of the row ────────────────────────────────────────────────────────────

module _ (c : After-read_row-row) (L : Ledger) (s : Snapshot) (n : RowAt c.before L s) where
  read : ReadsRow (entry c.before).args.bytes.now c.loop-at.at n.row n.later c.read_row-row.result
  read = c.read_row-row.ensures n.row n.later n.from

  is_name : let at = c.loop-at.at in take (c.read_row-row.result.name_end - (at + 1)) (drop (at + 1) (entry c.before).args.bytes.now) ≡ n.row.name
  is_name = part-is-name read.ends_name

is-seat : (c : After-seat_of) (L : Ledger) (s : Snapshot) (n : RowAt c.before.before.before.before L s) → c.seat_of.result ≡ seat_of_row n.row
is-seat c L s n = let r = read c.before.before.before L s n in c.seat_of.ensures n.row r.initial r.remaining r.committed

ends : (c : After-read_row-row) →
    let r = c.read_row-row.result in
    (c.loop-at.at + 1 ≤ r.name_end) × (r.end ≡ r.name_end + row_amounts) × (r.end ≤ length (entry c.before).args.bytes.now)
ends c = let r = read c (ledger c.before) (snapshot c.before) (row c.before) in (omega (arith, r.ends_name.size), r.end, omega (arith, r.end, r.ends_name.within))

naturals : (c : After-read_row-row) → NoneNegative c.read_row-row.result
naturals c =
    let n = row c.before in
    let h = row-natural n.so_far in
    let r = read c (ledger c.before) (snapshot c.before) n in
    (ap is_negative r.initial ∙ h.0, ap is_negative r.remaining ∙ h.1, ap is_negative r.committed ∙ h.2)

pub put_row-requires : goal.put_row-requires
put_row-requires c =
    let L = ledger c.before.before.before.before.before in
    let s = snapshot c.before.before.before.before.before in
    let n = row c.before.before.before.before.before in
    row-asks n.so_far (is_name c.before.before.before.before L s n) (is-seat c.before L s n)

pub capped-baseline-requires : goal.capped-baseline-requires
capped-baseline-requires c = omega (arith, (row c.before.before.before.before.before.before.before.before.before.before).so_far.puts.total)

-- ── the turn ───────────────────────────────────────────────────────────────────────────────────

pub loop-at-smaller : goal.loop-at-smaller
loop-at-smaller c = omega (arith, ends c.before.before.before.before.before.before.before.before.before.before, c.loop-at-test.true)

pub loop-at-preserved : goal.loop-at-preserved
loop-at-preserved c =
    let l = c.loop-at in
    let bytes = (entry c.before.before.before.before.before.before.before.before.before.before.before).args.bytes.now in (
      c.put_row.auto.room ∙ l.invariant.0,
      (ends c.before.before.before.before.before.before.before.before.before.before).2,
      λ L is_room s e.
          subst (λ at. Passed bytes s.rows at (Put L.T L.R c.put_row.new.room c.capped-baseline.result)) (sym (ends c.before.before.before.before.before.before.before.before.before.before).1)
          (advance (l.invariant.2 L is_room s e) c.loop-at-test.true (λ row later from. (c.read_row-row.ensures row later from).ends_name)
          (λ n. row_put n.so_far (is_name c.before.before.before.before.before.before.before.before.before.before L s n) (is-seat c.before.before.before.before.before.before.before L s n) c.put_row.new.room c.capped-baseline.result c.put_row.ensures
          (c.capped-baseline.ensures ∙ ap (λ k. min (l.baseline + k) M) (c.natural.ensures ∙ ap natural (read c.before.before.before.before.before.before.before.before.before.before L s n).committed)))),
    )

pub returns : goal.returns
returns c L is_room s e = (finished (c.loop-at.invariant.2 L is_room s e) c.loop-at-test.false).puts

pub slice_bounds-put_row-count : goal.slice_bounds-put_row-count
slice_bounds-put_row-count c = (ends c.before.before).0

pub slice_bounds-put_row-start : goal.slice_bounds-put_row-start
slice_bounds-put_row-start c = omega (arith, ends c.before.before)

pub slice_bounds-put_row-end : goal.slice_bounds-put_row-end
slice_bounds-put_row-end c = omega (arith, ends c.before.before)

pub seat_of-requires : goal.seat_of-requires
seat_of-requires c = naturals c.before.before.before

pub natural-requires : goal.natural-requires
natural-requires c = (naturals c.before.before.before.before.before.before.before.before).2
