-- `index_entry::symbols::fun_at` meets its contract.
-- Assumes nothing.
use Rattle.index_entry.proofs.SymbolEntries.{fun_is}
use Rattle.index_entry.proofs.symbols.fun_at.Goals as goal

pub returns : goal.returns
returns c = fun_is c.body_at-body.result c.body_at-body.ensures c.past-next.result c.past_text-end.ensures c.number_at-argument.ensures c.past-next.ensures c.number_at-result.ensures
