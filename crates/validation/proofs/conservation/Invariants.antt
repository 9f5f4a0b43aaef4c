-- `validation::conservation` passes over the rows with the conservation of each (Passing).
use Rattle.validation.proofs.Passing.{conserving}
use Rattle.validation.proofs.conservation.Given as goal

abbrev pub ghost-each_row : goal.ghost-each_row
ghost-each_row a = conserving
