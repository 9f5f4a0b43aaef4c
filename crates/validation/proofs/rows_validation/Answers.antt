-- `validation::rows_validation` meets its contract: before the first row no name is seen.
use Rattle.validation.specs.Judgement.{seen_in}
use Rattle.validation.proofs.rows_validation.Goals as goal

pub returns : goal.returns
unfolding seen_in
returns c = c.each_row.ensures
