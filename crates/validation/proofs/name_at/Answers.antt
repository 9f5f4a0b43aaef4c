-- `validation::name_at` meets its contract: the part between the length and the amounts is the name.
use native.Mathlib.Omega.{arith}
use Rattle.snapshot_reader.proofs.Rows.{part-is-name, ends_there}
use Rattle.validation.proofs.name_at.Goals as goal

pub returns : goal.returns
returns c row later from = part-is-name (c.name_end-end.ensures row later from)

pub slice_bounds-result-count : goal.slice_bounds-result-count
slice_bounds-result-count c = omega (arith, ends_there c.requires c.name_end-end.ensures)

pub slice_bounds-result-start : goal.slice_bounds-result-start
slice_bounds-result-start c = omega (arith, ends_there c.requires c.name_end-end.ensures)

pub slice_bounds-result-end : goal.slice_bounds-result-end
slice_bounds-result-end c = omega (arith, ends_there c.requires c.name_end-end.ensures)
