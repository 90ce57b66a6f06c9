-- `walk_new::steps::declare` meets its contract: the name is in memory, and then the lines are written.
-- Assumes nothing.
use Rattle.walk_new.proofs.Introducing.{declares}
use Rattle.walk_new.proofs.steps.declare.Goals as goal

pub returns : goal.returns
returns c = declares _ c.enter.ensures c.view.ensures c.lend.ensures
