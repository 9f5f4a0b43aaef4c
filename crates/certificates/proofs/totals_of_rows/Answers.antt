-- `certificates::totals_of_rows` meets its contract. The invariant: each total is that of the rows passed (Adding). So few amounts leave the high word far
-- from its ends, which is what `plus` asks.
use mathlib.Core.Path.{◌≡◌, sym, ◌∙◌, ap₂, subst}
use Prim.Native.Nat.{ℕ, ◌+◌}
use native.Mathlib.Omega.{arith}
use Rattle.big_endian.specs.Layout.{row_amounts}
use Rattle.snapshot_reader.specs.Standing.{Passed}
use Rattle.snapshot_reader.proofs.Header.{header}
use Rattle.snapshot_reader.proofs.Rows.{start, stands, forward, advance, finished}
use Rattle.certificates.specs.Certified.{both_fitted}
use Rattle.certificates.proofs.Adding.{may_add, rows_none, rows_next, few-passed}
use Rattle.certificates.proofs.totals_of_rows.Invariants.{BothAdded}
use Rattle.certificates.proofs.totals_of_rows.Goals as goal

pub loop-at-init : goal.loop-at-init
loop-at-init c s e = start (header _ s e).from (rows_none (λ r. r.initial) c.nothing-initial.result (c.nothing-initial.ensures.value, c.nothing-initial.ensures.moved), rows_none (λ r. r.committed) c.nothing-committed.result (c.nothing-committed.ensures.value, c.nothing-committed.ensures.moved))

-- ── a turn ─────────────────────────────────────────────────────────────────────────────────────

pub read_row-row-requires : goal.read_row-row-requires
read_row-row-requires c = stands (c.loop-at.invariant c.requires.snapshot c.requires.is_read) c.loop-at-test.true

pub plus-initial-requires : goal.plus-initial-requires
plus-initial-requires c =
    let passed = c.loop-at.invariant c.requires.snapshot c.requires.is_read in
    may_add _ _ c.loop-at.initial' passed.so_far.0 (few-passed c.requires.is_read passed)

pub plus-committed-requires : goal.plus-committed-requires
plus-committed-requires c =
    let passed = c.loop-at.invariant c.requires.snapshot c.requires.is_read in
    may_add _ _ c.loop-at.committed passed.so_far.1 (few-passed c.requires.is_read passed)

pub loop-at-smaller : goal.loop-at-smaller
loop-at-smaller c =
    let here = stands (c.loop-at.invariant c.requires.snapshot c.requires.is_read) c.loop-at-test.true in
    let read = c.read_row-row.ensures here.row here.later here.from in
    omega (arith, read.end, forward here (λ row later from. (c.read_row-row.ensures row later from).ends_name))

pub loop-at-preserved : goal.loop-at-preserved
loop-at-preserved c s e =
    let l = c.loop-at in
    let row = c.read_row-row.result in
    let here = stands (l.invariant s e) c.loop-at-test.true in
    let end_is : row.end ≡ row.name_end + row_amounts = (c.read_row-row.ensures here.row here.later here.from).end in
    subst (λ (at : ℕ). Passed c.args.bytes.now s.rows at (BothAdded c.plus-initial.result c.plus-committed.result)) (sym end_is)
    (advance (l.invariant s e) c.loop-at-test.true (λ row later from. (c.read_row-row.ensures row later from).ends_name)
    (λ a. let read = c.read_row-row.ensures a.row a.later a.from in (
      rows_next (λ r. r.initial) a.earlier a.row l.initial' a.so_far.0 row.initial c.plus-initial.result read.initial (c.plus-initial.ensures.value, c.plus-initial.ensures.moved),
      rows_next (λ r. r.committed) a.earlier a.row l.committed a.so_far.1 row.committed c.plus-committed.result read.committed (c.plus-committed.ensures.value, c.plus-committed.ensures.moved),
    )))

-- ── after the last row ─────────────────────────────────────────────────────────────────────────

pub returns : goal.returns
returns c s e =
    let all = finished (c.loop-at.invariant s e) c.loop-at-test.false in
    c.fit_both.ensures ∙ ap₂ both_fitted all.0.0 all.1.0
