-- The head of a snapshot's bytes: what it says by its places, when it is refused, and that just its count of rows follows. The rules' reader is followed step
-- by step, from what each of its parts takes (RowBytes).
use mathlib.Core.Path.{◌≡◌, refl, sym, ◌∙◌, ap, subst}
use mathlib.Core.List.{List, [], ◌∷◌}
use mathlib.Core.Bool.{cond}
use mathlib.Core.Option.{Option, none, some}
use Prim.Native.Nat.{ℕ, zero, suc, ◌≤◌, ◌<◌}
use native.Mathlib.Omega.{arith}
use borrow.Author.Tests.{ltb-true, ltb-false, lt-ltb, le-ltb, eqb-true}
use lib.Dec.{ltb, eqb}
use lib.ListN.{length, take, drop, drop_of_length-le}
use Rattle.rules.specs.SnapshotsMigrationCertificates.{Row, Snapshot, Reading, Reader, reads, go_on, whole, number_of, read_row, read_rows, read_count, read_snapshot, snapshot_of_bytes, most_rows}
use Rattle.rules.proofs.Tests.{by_bool, by-test, none-some}
use Rattle.rules.proofs.Reading.{after}
use Rattle.big_endian.specs.Layout.{active_start, count_start, snapshot_header}
use Rattle.snapshot_reader.specs.Standing.{IsSnapshot, OfSnapshot, RowsFrom}
use Rattle.snapshot_reader.proofs.RowBytes.{goes_on, gives_none, number-takes}

-- ── the head by its places ─────────────────────────────────────────────────────────────────────

abbrev pub count_in : List ℕ → ℕ
count_in bs = number_of (take 2 (drop count_start bs))

-- the snapshot that bytes are with these rows after the head
abbrev pub with_rows : List ℕ → List Row → Snapshot
with_rows bs rs = record { version = number_of (take 8 bs); active = number_of (take 8 (drop active_start bs)); rows = rs }

abbrev pub rows_after : List ℕ → Option (Reading (List Row))
rows_after bs = read_rows (count_in bs) (drop snapshot_header bs)

-- what follows the number of rows, as `read_count` has it
abbrev unless_too_many : ℕ → Reader ℕ
unless_too_many count bs = cond (ltb most_rows count) none (reads count bs)

module _ (bs : List ℕ) where
  count-read : snapshot_header ≤ length bs → count_in bs ≤ most_rows → read_count (drop count_start bs) ≡ some (after (count_in bs) (drop snapshot_header bs))
  unfolding read_count
  count-read h few = goes_on unless_too_many (number-takes bs count_start snapshot_header 2 refl) h ∙ rw (le-ltb most_rows (count_in bs) few)

  count-refused : count_start ≤ length bs → (snapshot_header ≤ length bs → most_rows < count_in bs) → read_count (drop count_start bs) ≡ none
  unfolding read_count
  count-refused k many = gives_none unless_too_many (number-takes bs count_start snapshot_header 2 refl) k (λ h. rw (lt-ltb most_rows (count_in bs) (many h)))

  pub head_read : snapshot_header ≤ length bs → count_in bs ≤ most_rows → read_snapshot bs ≡ go_on (rows_after bs) (λ rs. reads (with_rows bs rs))
  unfolding read_snapshot
  head_read h few =
      goes_on _ (number-takes bs 0 active_start 8 refl) (omega arith)
      ∙ goes_on _ (number-takes bs active_start count_start 8 refl) (omega arith)
      ∙ rw (count-read h few)

  -- too short for a head, or more than 256 rows
  pub head-refused : (snapshot_header ≤ length bs → most_rows < count_in bs) → read_snapshot bs ≡ none
  unfolding read_snapshot
  head-refused many =
      gives_none _ (number-takes bs 0 active_start 8 refl) (omega arith) λ j.
      gives_none _ (number-takes bs active_start count_start 8 refl) j λ k.
      rw (count-refused k many)

-- ── what is a snapshot ─────────────────────────────────────────────────────────────────────────

-- a reading that went on: what was read first
record WentOn {A B : Type 0} (o : Option (Reading A)) (f : A → Reader B) (r : Reading B) : Type 0 where
  pub between : Reading A
  pub first : o ≡ some between
  pub then : f between.value between.rest ≡ some r

went_on : {A B : Type 0} (o : Option (Reading A)) (f : A → Reader B) (r : Reading B) → go_on o f ≡ some r → WentOn o f r
went_on none f r e = none-some e
went_on (some x) f r e = record { between = x; first = refl; then = e }

-- nothing is left over
is_whole : {A : Type 0} (o : Option (Reading A)) (x : A) → whole o ≡ some x → o ≡ some (after x [])
is_whole none x e = none-some e
is_whole (some r) x e = by-test (λ o. o ≡ some x → some r ≡ some (after x [])) (eqb (length r.rest) 0)
    (λ t q. let value : r.value ≡ x = cc in
    let rest : r.rest ≡ [] = drop_of_length-le r.rest {i = 0} (omega (arith, eqb-true (length r.rest) 0 t)) in
    ap some (ap (after r.value) rest ∙ ap (λ y. after y []) value))
    (λ t q. none-some q) e

pub rows-count : (count : ℕ) (bs : List ℕ) (r : Reading (List Row)) → read_rows count bs ≡ some r → length r.value ≡ count
unfolding read_rows
rows-count zero bs r e = let q : after [] bs ≡ r = cc in subst (λ t. length t.value ≡ 0) q refl
rows-count (suc count) bs r e =
    let row = went_on (read_row bs) _ r e in
    let rows = went_on (read_rows count row.between.rest) _ r row.then in
    let q : after (row.between.value ∷ rows.between.value) rows.between.rest ≡ r = cc rows.then in
    subst (λ t. length t.value ≡ suc count) q (ap suc (rows-count count row.between.rest rows.between rows.first))

pub record Header (bs : List ℕ) (s : Snapshot) : Type 0 where
  pub long : snapshot_header ≤ length bs
  pub version : s.version ≡ number_of (take 8 bs)
  pub active : s.active ≡ number_of (take 8 (drop active_start bs))
  pub count : length s.rows ≡ number_of (take 2 (drop count_start bs))
  pub few : length s.rows ≤ most_rows
  pub from : RowsFrom bs snapshot_header s.rows

module _ (bs : List ℕ) where
  behind_header : snapshot_header ≤ length bs → count_in bs ≤ most_rows → (r : Reading (List Row)) → rows_after bs ≡ some r → r.rest ≡ [] → Header bs (with_rows bs r.value)
  behind_header long few r e rest =
      let count : length r.value ≡ count_in bs = rows-count (count_in bs) (drop snapshot_header bs) r e in
      let whole-read : rows_after bs ≡ some (after r.value []) = e ∙ ap (λ l. some (after r.value l)) rest in
      let rows : RowsFrom bs snapshot_header r.value = record { within = long; read = ap (λ n. read_rows n (drop snapshot_header bs)) count ∙ whole-read } in
      record { long = long; version = refl; active = refl; count = count; few = omega arith; from = rows }

  pub header : OfSnapshot bs (Header bs)
  unfolding snapshot_of_bytes
  header s e = by_bool (λ b. ltb (length bs) snapshot_header ≡ b → Header bs s) (ltb (length bs) snapshot_header)
      (λ _ t. let l : length bs < snapshot_header = ltb-true (length bs) snapshot_header t in
      none-some (sym (head-refused bs (λ h. absurd (omega arith))) ∙ read))
      (λ _ t. let long : snapshot_header ≤ length bs = ltb-false (length bs) snapshot_header t in
      by_bool (λ b. ltb most_rows (count_in bs) ≡ b → Header bs s) (ltb most_rows (count_in bs))
      (λ _ t. none-some (sym (head-refused bs (λ _. ltb-true most_rows (count_in bs) t)) ∙ read))
      (λ _ t. let few : count_in bs ≤ most_rows = ltb-false most_rows (count_in bs) t in
      let rows = went_on (rows_after bs) (λ rs. reads (with_rows bs rs)) (after s []) (sym (head_read bs long few) ∙ read) in
      let same : after (with_rows bs rows.between.value) rows.between.rest ≡ after s [] = cc rows.then in
      subst (Header bs) (ap (λ r. r.value) same) (behind_header long few rows.between rows.first (ap (λ r. r.rest) same)))
      refl)
      refl
    where
      read : read_snapshot bs ≡ some (after s [])
      read = is_whole (read_snapshot bs) s e

  pub is-long : IsSnapshot bs → snapshot_header ≤ length bs
  is-long read = (header read.snapshot read.is_read).long
