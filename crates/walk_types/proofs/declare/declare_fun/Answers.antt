-- `walk_types::declare::declare_fun` meets its contract: a name, and a line after it.
-- Assumes nothing.
use Rattle.walk_types.proofs.Entering.{declares_fun}
use Rattle.walk_names.proofs.Spelling.{spells_lent}
use Rattle.walk_types.proofs.declare.declare_fun.Goals as goal

pub returns : goal.returns
returns c = declares_fun {q = c.view.result} c.enter.ensures c.view.ensures (spells_lent c.lend.ensures)
