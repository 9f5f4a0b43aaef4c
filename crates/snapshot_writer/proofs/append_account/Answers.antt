-- `snapshot_writer::append_account` meets its contract: with an account the row is `append_row`'s.
use borrow.Author.Tests.{ne_eqb}
use Rattle.snapshot_writer.proofs.append_account.Goals as goal

pub returns : goal.returns
returns c before rs h =
    rw (ne_eqb c.args.place.account 0 c.if-place-eq0.false) (c.append_row.ensures before rs h)
