-- `sakyelbo::commands::sakyelbo_check_sat` writes what `smtlib_script::check_sat` does, and says its answer by numbers.
-- Assumes nothing.
use Rattle.sakyelbo.proofs.Laws.{writes_command}
use Rattle.sakyelbo.proofs.commands.sakyelbo_check_sat.Goals as goal

pub returns : goal.returns
returns c = writes_command c.check_sat.ensures c.of_command.ensures
