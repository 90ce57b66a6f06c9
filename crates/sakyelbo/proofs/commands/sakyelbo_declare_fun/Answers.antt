-- `sakyelbo::commands::sakyelbo_declare_fun` writes what `smtlib_script::declare_fun` does, and says its answer by numbers.
-- Assumes nothing.
use Rattle.sakyelbo.proofs.Laws.{writes_command}
use Rattle.sakyelbo.proofs.commands.sakyelbo_declare_fun.Goals as goal

pub returns : goal.returns
returns c = writes_command c.declare_fun.ensures c.of_command.ensures
