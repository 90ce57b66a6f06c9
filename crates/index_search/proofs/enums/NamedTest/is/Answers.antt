-- The name, compared.
-- Assumes nothing.
use Rattle.index_search.proofs.Naming.{named_at}
use Rattle.index_search.proofs.enums.NamedTest.is.Goals as goal

pub returns : goal.returns
returns c = named_at c.get-offset.ensures c.name_at.ensures c.eq.ensures
