-- `sakyelbo::commands::sakyelbo_get_model` writes what `smtlib_script::get_model` does, and says its answer by numbers.
-- Assumes nothing.
use Rattle.sakyelbo.proofs.Laws.{writes_command}
use Rattle.sakyelbo.proofs.commands.sakyelbo_get_model.Goals as goal

pub returns : goal.returns
returns c = writes_command c.get_model.ensures c.of_command.ensures
