-- `write_terms::values::put_term_sort` meets its contract.
-- Assumes nothing.
use Rattle.write_terms.proofs.ValueLaws.{term_sort}
use Rattle.write_terms.proofs.values.put_term_sort.Goals as goal

pub returns : goal.returns
returns c = term_sort c.get.ensures c.put_sort.ensures
