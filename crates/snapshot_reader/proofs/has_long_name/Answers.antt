-- `snapshot_reader::has_long_name` meets its contract. The invariant: the rows to come decide; a row's first byte is its name's length, so it decides a turn.
use mathlib.Core.Path.{◌≡◌, refl, sym, ◌∙◌}
use mathlib.Core.Bool.{true, false}
use native.Mathlib.Omega.{arith}
use borrow.Author.Tests.{lt-ltb, le-ltb}
use lib.ListN.{length}
use Rattle.rules.specs.Lists.{any}
use Rattle.rules.specs.AccountRules.{is_too_long}
use Rattle.rules.specs.SnapshotsMigrationCertificates.{has_long_name}
use Rattle.rules.specs.RoomAndSoundLedger.{longest_name}
use Rattle.snapshot_reader.specs.Standing.{RowStands}
use Rattle.snapshot_reader.proofs.Rows.{first-row, start, at_row, stands, Further, forward, advance, finished}
use Rattle.snapshot_reader.proofs.Header.{header}
use Rattle.snapshot_reader.proofs.has_long_name.Lts as place
use Rattle.snapshot_reader.proofs.has_long_name.Tie as tie
use Rattle.snapshot_reader.proofs.has_long_name.Goals as goal

abbrev Start : Type 0
Start = place.Start tie.the-claims tie.handed_pre tie.handed_post goal.the-invariant-loop-at goal.the-decreases-loop-at

abbrev At-loop-at : Type 0
At-loop-at = place.At-loop tie.the-claims tie.handed_pre tie.handed_post goal.the-invariant-loop-at goal.the-decreases-loop-at

abbrev In-loop-at : Type 0
In-loop-at = place.In-loop tie.the-claims tie.handed_pre tie.handed_post goal.the-invariant-loop-at goal.the-decreases-loop-at

abbrev After-name_end-at : Type 0
After-name_end-at = place.After-name_end tie.the-claims tie.handed_pre tie.handed_post goal.the-invariant-loop-at goal.the-decreases-loop-at

abbrev entry : At-loop-at → Start
entry l = l.before.before

here : (c : In-loop-at) → RowStands (entry c.before).args.bytes.now c.loop-at.at
here c = let is = (entry c.before).requires in stands (c.loop-at.invariant is.snapshot is.is_read) c.loop-at-test.true

further : (c : After-name_end-at) → Further (entry c.before.before.before.before).args.bytes.now c.loop-at.at c.name_end-at.result
further c = forward (here c.before.before.before) c.name_end-at.ensures

pub loop-at-init : goal.loop-at-init
loop-at-init c s e = start (header _ s e).from refl

pub returns-then-bytes-at-gt-LONGEST_NAME : goal.returns-then-bytes-at-gt-LONGEST_NAME
unfolding has_long_name any
returns-then-bytes-at-gt-LONGEST_NAME c s e =
    let a = at_row (c.loop-at.invariant s e) c.loop-at-test.true in
    let long : is_too_long a.row.name ≡ true = lt-ltb longest_name (length a.row.name) (omega (arith, c.if-bytes-at-gt-LONGEST_NAME.true, (first-row a.from).size)) in
    sym (a.so_far ∙ rw long)

pub loop-at-preserved : goal.loop-at-preserved
unfolding has_long_name any
loop-at-preserved c s e =
    advance (c.loop-at.invariant s e) c.loop-at-test.true c.name_end-at.ensures
    (λ a. let short : is_too_long a.row.name ≡ false = le-ltb longest_name (length a.row.name) (omega (arith, c.if-bytes-at-gt-LONGEST_NAME.false, (first-row a.from).size)) in
    a.so_far ∙ rw short)

pub returns : goal.returns
unfolding has_long_name any
returns c s e = sym (finished (c.loop-at.invariant s e) c.loop-at-test.false)

pub name_end-at-requires : goal.name_end-at-requires
name_end-at-requires c = here c.before.before.before

pub overflow_add-at : goal.overflow_add-at
overflow_add-at c = omega (arith, further c.before)

pub loop-at-smaller : goal.loop-at-smaller
loop-at-smaller c = omega (arith, further c.before)
