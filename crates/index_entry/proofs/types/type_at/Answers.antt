-- `index_entry::types::type_at` meets its contract: the mark and the body of the record.
-- Assumes nothing.
use Rattle.index_entry.proofs.TypeEntries.{type_at_lem}
use Rattle.index_entry.proofs.types.type_at.Goals as goal

pub returns : goal.returns
returns c = type_at_lem c.letter_at-letter.ensures c.body_at.ensures c.type_of.ensures
