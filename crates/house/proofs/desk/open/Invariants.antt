-- `house::desk::open`, by a loop whose invariant is that there is room to read into, as each turn promises.
use lib.ListN.{length}
use Rattle.house.specs.Desk.{ReadyToRead}
use Rattle.house.proofs.desk.open.Given as goal

abbrev pub invariant-loop : goal.invariant-loop
invariant-loop l = ReadyToRead (length l.input) l.held
