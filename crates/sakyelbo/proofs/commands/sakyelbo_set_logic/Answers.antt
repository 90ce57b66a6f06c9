-- `sakyelbo::commands::sakyelbo_set_logic` writes what `smtlib_script::set_logic` does, and says its answer by numbers.
-- Assumes nothing.
use Rattle.sakyelbo.proofs.Laws.{writes_command}
use Rattle.sakyelbo.proofs.commands.sakyelbo_set_logic.Goals as goal

pub returns : goal.returns
returns c = writes_command c.set_logic.ensures c.of_command.ensures
