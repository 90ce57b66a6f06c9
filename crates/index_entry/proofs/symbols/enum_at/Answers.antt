-- `index_entry::symbols::enum_at` meets its contract.
-- Assumes nothing.
use Rattle.index_entry.proofs.SymbolEntries.{enum_is}
use Rattle.index_entry.proofs.symbols.enum_at.Goals as goal

pub returns : goal.returns
returns c = enum_is c.body_at-body.ensures c.number_at-left.result c.past-from.result c.past_text-end.ensures c.number_at-left.ensures c.past-from.ensures
