-- `sakyelbo::commands::sakyelbo_declare_const` writes what `smtlib_script::declare_const` does, and says its answer by numbers.
-- Assumes nothing.
use Rattle.sakyelbo.proofs.Laws.{writes_command}
use Rattle.sakyelbo.proofs.commands.sakyelbo_declare_const.Goals as goal

pub returns : goal.returns
returns c = writes_command c.declare_const.ensures c.of_command.ensures
