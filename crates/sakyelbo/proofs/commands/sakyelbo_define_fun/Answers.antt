-- `sakyelbo::commands::sakyelbo_define_fun` writes what `smtlib_script::define_fun` does, and says its answer by numbers.
-- Assumes nothing.
use Rattle.sakyelbo.proofs.Laws.{writes_command}
use Rattle.sakyelbo.proofs.commands.sakyelbo_define_fun.Goals as goal

pub returns : goal.returns
returns c = writes_command c.define_fun.ensures c.of_command.ensures
