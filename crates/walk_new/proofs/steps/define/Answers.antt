-- `walk_new::steps::define` meets its contract: the name is in memory, and then the definition is written.
-- Assumes nothing.
use Rattle.walk_new.proofs.Introducing.{defines}
use Rattle.walk_new.proofs.steps.define.Goals as goal

pub returns : goal.returns
returns c = defines _ c.enter.ensures c.view.ensures c.lend.ensures
