-- Rows where they stand: what the first byte of a row tells of it, how far the rows reach, and a pass over them, row by row. A loop's proof takes `start`,
-- `advance` and `finished` from here, and brings only what it says of the rows passed.
use mathlib.Core.Path.{◌≡◌, refl, sym, ap, ◌∙◌, subst}
use mathlib.Core.Bool.{false}
use mathlib.Core.List.{List, [], ◌∷◌, ◌++◌, append-nil}
use mathlib.Core.Option.{Option, some}
use Prim.Native.Nat.{ℕ, suc, ◌+◌, ◌-◌, ◌≤◌, ◌<◌}
use native.Mathlib.Omega.{arith}
use borrow.Author.Tests.{ltb-false, ltb-true}
use lib.Dec.{ltb}
use lib.ListN.{length, get_or, take, drop, length-drop}
use lib.Seq.{drop-drop, append_snoc}
use Rattle.rules.specs.Lists.{sum}
use Rattle.rules.specs.SnapshotsMigrationCertificates.{Row, Reading, go_on, reads, read_row, read_rows, number_of, signed, has_long_name}
use Rattle.rules.proofs.Tests.{by_bool, by-option, none-some}
use Rattle.rules.proofs.Lists.{none_any, all-parts}
use Rattle.rules.proofs.Reading.{after}
use Rattle.rules.proofs.SnapshotBytes.{row_length}
use Rattle.rules.specs.RoomAndSoundLedger.{longest_name}
use Rattle.big_endian.specs.Layout.{row_amounts, shortest_row}
use Rattle.snapshot_reader.specs.Standing.{RowsFrom, RowStands, OfRow, ShortNames, RowOf, Passed, EndsName}
use Rattle.snapshot_reader.proofs.RowBytes.{amount_at, row_at_front, row-short, row-long, name-size, front-byte}

-- ── the row that starts at a byte ──────────────────────────────────────────────────────────────

-- rows read to the last byte
abbrev to_the_end : List Row → Option (Reading (List Row))
to_the_end rows = some (after rows [])

-- the first row is read, and then the others
record Parted (bs : List ℕ) (row : Row) (later : List Row) : Type 0 where
  rest : List ℕ
  first : read_row bs ≡ some (after row rest)
  others : read_rows (length later) rest ≡ to_the_end later

parted : (bs : List ℕ) (row : Row) (later : List Row) → read_rows (suc (length later)) bs ≡ to_the_end (row ∷ later) → Parted bs row later
unfolding read_rows
parted bs row later = by-option (λ o. go_on o (λ r rest. go_on (read_rows (length later) rest) (λ rs. reads (r ∷ rs))) ≡ to_the_end (row ∷ later) → Parted bs row later) (read_row bs)
    (λ _ e. none-some e)
    (λ x first. by-option (λ o. go_on o (λ rs. reads (x.value ∷ rs)) ≡ to_the_end (row ∷ later) → Parted bs row later) (read_rows (length later) x.rest)
    (λ _ e. none-some e)
    (λ y others e.
    let both : after (x.value ∷ y.value) y.rest ≡ after (row ∷ later) [] = cc in
    let rows : x.value ∷ y.value ≡ row ∷ later = ap (λ r. r.value) both in
    let value : x.value ≡ row = cc in
    let values : y.value ≡ later = cc in
    record {
      rest = x.rest;
      first = first ∙ ap (λ v. some (after v x.rest)) value;
      others = others ∙ λ i. some (after (values i) (both i).rest);
    }))

has_room : (bs : List ℕ) (row : Row) (later : List Row) → Parted bs row later → shortest_row + get_or bs 0 0 ≤ length bs
has_room bs row later p = by_bool (λ _. shortest_row + get_or bs 0 0 ≤ length bs) (ltb (length bs) (shortest_row + get_or bs 0 0))
    (λ short. none-some (sym (row-short bs (ltb-true (length bs) (shortest_row + get_or bs 0 0) short)) ∙ p.first))
    (λ long. ltb-false (length bs) (shortest_row + get_or bs 0 0) long)

-- the first byte is the length of its name
pub record FirstRow (bs : List ℕ) (at : ℕ) (row : Row) (later : List Row) : Type 0 where
  pub starts : at < length bs
  pub size : get_or bs at 0 ≡ length row.name
  pub within : at + shortest_row + length row.name ≤ length bs
  pub is : row ≡ row_at_front (drop at bs)
  pub next : RowsFrom bs (at + shortest_row + length row.name) later

pub first-row : {bs : List ℕ} {at : ℕ} {row : Row} {later : List Row} → RowsFrom bs at (row ∷ later) → FirstRow bs at row later
first-row {bs} {at} {row} {later} h =
    let part : List ℕ = drop at bs in
    let p : Parted part row later = parted part row later h.read in
    let room : shortest_row + get_or part 0 0 ≤ length part = has_room part row later p in
    let left : length part ≡ length bs - at = length-drop at bs in
    let both : after (row_at_front part) (drop (shortest_row + get_or part 0 0) part) ≡ after row p.rest = cc (sym (row-long part room) ∙ p.first) in
    let name : (row_at_front part).name ≡ row.name = ap (λ r. r.value.name) both in
    let size : get_or part 0 0 ≡ length row.name = sym (name-size part room) ∙ ap length name in
    let further : at + (shortest_row + get_or part 0 0) ≡ at + shortest_row + length row.name = omega arith in
    let rest : drop (at + shortest_row + length row.name) bs ≡ p.rest = ap (λ k. drop k bs) (sym further) ∙ sym (drop-drop (shortest_row + get_or part 0 0) at bs) ∙ ap (λ r. r.rest) both in
    record {
      starts = omega arith;
      size = sym (front-byte at bs) ∙ size;
      within = omega arith;
      is = sym (ap (λ r. r.value) both);
      next = record { within = omega arith; read = ap (read_rows (length later)) rest ∙ p.others };
    }

-- the part of the bytes that is its name
pub part-is-name : {bs : List ℕ} {at : ℕ} {row : Row} {later : List Row} {end : ℕ} → EndsName bs at row later end → take (end - (at + 1)) (drop (at + 1) bs) ≡ row.name
part-is-name {bs} {at} {row} {later} {end} ends =
    let size : end - (at + 1) ≡ length row.name = omega (arith, ends.size) in
    ap (λ n. take n (drop (at + 1) bs)) size ∙ ends.name

-- where its amounts stand
pub record AmountsFrom (bs : List ℕ) (end : ℕ) (row : Row) : Type 0 where
  pub initial : amount_at end bs ≡ row.initial
  pub remaining : amount_at (end + 8) bs ≡ row.remaining
  pub reserved : amount_at (end + 16) bs ≡ row.reserved
  pub committed : amount_at (end + 24) bs ≡ row.committed

module _ {bs : List ℕ} {at : ℕ} {row : Row} {later : List Row} (h : RowsFrom bs at (row ∷ later)) where
  pub ends_name : EndsName bs at row later (at + 1 + get_or bs at 0)
  ends_name =
      let f = first-row h in
      let size : get_or bs at 0 ≡ length row.name = f.size in
      let byte : get_or (drop at bs) 0 0 ≡ length row.name = front-byte at bs ∙ size in
      record {
        size = omega arith;
        name = (λ i. take (sym byte i) (sym (drop-drop 1 at bs) i)) ∙ ap (λ r. r.name) (sym f.is);
        within = omega (arith, f.within);
        next = subst (λ k. RowsFrom bs k later) (omega arith) f.next;
      }

  -- an amount's place in the row and its place in the bytes
  amount-there : (k : ℕ) (there : ℕ) → there ≡ at + k + get_or bs at 0 → amount_at there bs ≡ amount_at (k + get_or (drop at bs) 0 0) (drop at bs)
  amount-there k there e =
      let same : there ≡ at + (k + get_or (drop at bs) 0 0) = omega (arith, front-byte at bs) in
      ap (λ l. signed (number_of (take 8 l))) (ap (λ j. drop j bs) same ∙ sym (drop-drop (k + get_or (drop at bs) 0 0) at bs))

  pub amounts : {end : ℕ} → EndsName bs at row later end → AmountsFrom bs end row
  amounts {end} e =
      let f = first-row h in
      let size : end ≡ at + 1 + get_or bs at 0 = omega (arith, f.size, e.size) in
      record {
        initial = amount-there 1 end (omega arith) ∙ ap (λ r. r.initial) (sym f.is);
        remaining = amount-there 9 (end + 8) (omega arith) ∙ ap (λ r. r.remaining) (sym f.is);
        reserved = amount-there 17 (end + 16) (omega arith) ∙ ap (λ r. r.reserved) (sym f.is);
        committed = amount-there 25 (end + 24) (omega arith) ∙ ap (λ r. r.committed) (sym f.is);
      }

-- ── how far the rows reach ─────────────────────────────────────────────────────────────────────

pub rows_end : {bs : List ℕ} {at : ℕ} → RowsFrom bs at [] → at ≡ length bs
unfolding read_rows
rows_end {bs} {at} h =
    let read : after {A = List Row} [] (drop at bs) ≡ after [] [] = cc h.read in
    omega (arith, h.within, length-drop at bs, ap (λ r. length r.rest) read)

module _ {bs : List ℕ} where
  -- the rows are at an end just where the bytes are
  pub by_rows : (P : List Row → Type 0) {at : ℕ} (rows : List Row) → RowsFrom bs at rows
      → (at ≡ length bs → P []) → ((row : Row) (later : List Row) → FirstRow bs at row later → P (row ∷ later)) → P rows
  by_rows P [] h end more = end (rows_end h)
  by_rows P (row ∷ later) h end more = more row later (first-row h)

  -- so that a place in the bytes tells which rows stand before it
  pub rows-length : {at : ℕ} (rows : List Row) → RowsFrom bs at rows → length bs ≡ at + sum row_length rows
  unfolding sum
  rows-length [] h = omega (arith, rows_end h)
  rows-length {at} (row ∷ later) h = omega (arith, rows-length {at = at + shortest_row + length row.name} later (first-row h).next)

  -- from one byte on there is one list of rows
  pub rows_apart : {at : ℕ} (rows others : List Row) → RowsFrom bs at rows → RowsFrom bs at others → rows ≡ others
  rows_apart [] [] h k = refl
  rows_apart [] (other ∷ others) h k = absurd (omega (arith, rows_end h, (first-row k).starts))
  rows_apart (row ∷ rows) [] h k = absurd (omega (arith, rows_end k, (first-row h).starts))
  rows_apart {at} (row ∷ rows) (other ∷ others) h k =
      let first : row ≡ other = (first-row h).is ∙ sym (first-row k).is in
      let next = subst (λ r. RowsFrom bs (at + shortest_row + length r.name) others) (sym first) (first-row k).next in
      λ i. first i ∷ rows_apart {at = at + shortest_row + length row.name} rows others (first-row h).next next i

-- ── a pass over the rows ───────────────────────────────────────────────────────────────────────

-- a pass that has come to a row
pub record AtRow (bs : List ℕ) (all : List Row) (at : ℕ) (So-far : (earlier later : List Row) → Type 0) : Type 0 where
  pub earlier : List Row
  pub row : Row
  pub later : List Row
  pub rows : all ≡ earlier ++ row ∷ later
  pub from : RowsFrom bs at (row ∷ later)
  pub so_far : So-far earlier (row ∷ later)

-- what the function that finds the end of a name answers, whatever row stands here
abbrev pub Ends : List ℕ → ℕ → ℕ → Type 0
Ends bs at end = OfRow bs at (λ row later. EndsName bs at row later end)

module _ {bs : List ℕ} {all : List Row} {at : ℕ} {So-far : (earlier later : List Row) → Type 0} where
  pub start : RowsFrom bs at all → So-far [] all → Passed bs all at So-far
  start from so_far = record { earlier = []; later = all; rows = refl; from = from; so_far = so_far }

  pub at_row : Passed bs all at So-far → at < length bs → AtRow bs all at So-far
  at_row p h = by_rows (λ later. all ≡ p.earlier ++ later → RowsFrom bs at later → So-far p.earlier later → AtRow bs all at So-far) p.later p.from
      (λ end. absurd (omega arith))
      (λ row later _ rows from so_far. record { earlier = p.earlier; row = row; later = later; rows = rows; from = from; so_far = so_far })
      p.rows p.from p.so_far

  pub stands : Passed bs all at So-far → at < length bs → RowStands bs at
  stands p h = let a = at_row p h in record { row = a.row; later = a.later; from = a.from }

  -- a turn: the row is passed, and the next one starts after its four amounts
  pub advance : {After : (earlier later : List Row) → Type 0} {end : ℕ} → Passed bs all at So-far → at < length bs → Ends bs at end
      → ((a : AtRow bs all at So-far) → After (a.earlier ++ a.row ∷ []) a.later) → Passed bs all (end + row_amounts) After
  advance p h ends turn =
      let a = at_row p h in
      record {
        earlier = a.earlier ++ a.row ∷ [];
        later = a.later;
        rows = a.rows ∙ sym (append_snoc a.earlier a.row a.later);
        from = (ends a.row a.later a.from).next;
        so_far = turn a;
      }

  -- the end: every row is passed
  pub finished : Passed bs all at So-far → length bs ≤ at → So-far all []
  finished p h = by_rows (λ later. all ≡ p.earlier ++ later → So-far p.earlier later → So-far all []) p.later p.from
      (λ _ rows so_far. subst (λ passed. So-far passed []) (sym (rows ∙ append-nil p.earlier)) so_far)
      (λ row later first. absurd (omega arith))
      p.rows p.so_far

-- where the name of a row that stands here ends
pub ends_there : {bs : List ℕ} {at end : ℕ} (s : RowStands bs at) → Ends bs at end → EndsName bs at s.row s.later end
ends_there s ends = ends s.row s.later s.from

-- the next row starts further on, and not past the end
abbrev pub Further : (bs : List ℕ) (at end : ℕ) → Type 0
Further bs at end = (at < end + row_amounts) × (end + row_amounts ≤ length bs)

pub forward : {bs : List ℕ} {at end : ℕ} → RowStands bs at → Ends bs at end → Further bs at end
forward s ends = let e = ends_there s ends in (omega (arith, e.size), e.within)

-- ── short names ────────────────────────────────────────────────────────────────────────────────

pub short_row : {all : List Row} (earlier : List Row) (row : Row) (later : List Row) → has_long_name all ≡ false → all ≡ earlier ++ row ∷ later → length row.name ≤ longest_name
unfolding has_long_name
short_row earlier row later short rows =
    let names = all-parts _ earlier (row ∷ later) (none_any _ (earlier ++ row ∷ later) (ap has_long_name (sym rows) ∙ short)) in
    ltb-false longest_name (length row.name) names.1.0

module _ {bs : List ℕ} {at : ℕ} {So-far : (earlier later : List Row) → Type 0} (names : ShortNames bs) where
  abbrev pub row_here : AtRow bs names.snapshot.rows at So-far → RowOf bs at
  row_here a = record {
    snapshot = names.snapshot;
    is_read = names.is_read;
    short = names.short;
    earlier = a.earlier;
    row = a.row;
    later = a.later;
    rows = a.rows;
    from = a.from;
  }

  pub row_of : Passed bs names.snapshot.rows at So-far → at < length bs → RowOf bs at
  row_of p h = row_here (at_row p h)
