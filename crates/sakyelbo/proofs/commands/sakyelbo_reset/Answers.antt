-- `sakyelbo::commands::sakyelbo_reset` writes what `smtlib_script::reset` does, and says its answer by numbers.
-- Assumes nothing.
use Rattle.sakyelbo.proofs.Laws.{writes_command}
use Rattle.sakyelbo.proofs.commands.sakyelbo_reset.Goals as goal

pub returns : goal.returns
returns c = writes_command c.reset.ensures c.of_command.ensures
