-- `index_entry::numbered_terms::term_at` meets its contract.
-- Assumes nothing.
use Rattle.index_entry.proofs.numbered_terms.term_at.Goals as goal

pub returns : goal.returns
returns c = rw (← c.get.ensures) c.term_at.ensures
