-- `sakyelbo::commands::sakyelbo_assert_that` writes what `smtlib_script::assert_that` does, and says its answer by numbers.
-- Assumes nothing.
use Rattle.sakyelbo.proofs.Laws.{writes_command}
use Rattle.sakyelbo.proofs.commands.sakyelbo_assert_that.Goals as goal

pub returns : goal.returns
returns c = writes_command c.assert_that.ensures c.of_command.ensures
