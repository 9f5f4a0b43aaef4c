-- `validation::rows_validation` passes over the rows with the validation of each (Passing).
use Rattle.validation.proofs.Passing.{validating}
use Rattle.validation.proofs.rows_validation.Given as goal

abbrev pub ghost-each_row : goal.ghost-each_row
ghost-each_row a = validating
