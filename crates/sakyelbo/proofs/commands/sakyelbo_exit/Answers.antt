-- `sakyelbo::commands::sakyelbo_exit` writes what `smtlib_script::exit` does, and says its answer by numbers.
-- Assumes nothing.
use Rattle.sakyelbo.proofs.Laws.{writes_command}
use Rattle.sakyelbo.proofs.commands.sakyelbo_exit.Goals as goal

pub returns : goal.returns
returns c = writes_command c.exit.ensures c.of_command.ensures
