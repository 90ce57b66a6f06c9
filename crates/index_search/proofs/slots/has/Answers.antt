-- The code, compared.
-- Assumes nothing.
use lib.Dec.{eqb}
use Rattle.index_search.proofs.slots.has.Goals as goal

pub returns : goal.returns
returns c = λ i. eqb (c.from.ensures i) (c.code_of.ensures i)
