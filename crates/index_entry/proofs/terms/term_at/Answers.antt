-- `index_entry::terms::term_at` meets its contract: the mark and the body of the record.
-- Assumes nothing.
use Rattle.index_entry.proofs.TermEntries.{term_at_lem}
use Rattle.index_entry.proofs.terms.term_at.Goals as goal

pub returns-clause-is : goal.returns-clause-is
returns-clause-is c = term_at_lem c.letter_at-letter.ensures c.body_at.ensures c.term_of.ensures.is
