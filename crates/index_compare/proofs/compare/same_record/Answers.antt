-- `index_compare::compare::same_record` meets its contract: by the bodies where these are bytes alone, or by two walks.
-- Assumes nothing.
use Rattle.index_compare.proofs.Compared.{same_bare}
use Rattle.index_compare.proofs.compare.same_record.Goals as goal

pub returns : goal.returns
returns c = same_bare _ _ c.eq.ensures c.in-Some.ensures c.in-Some-bare_at.ensures
