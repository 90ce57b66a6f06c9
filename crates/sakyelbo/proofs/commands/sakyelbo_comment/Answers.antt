-- `sakyelbo::commands::sakyelbo_comment` writes what `smtlib_script::comment` does, and says its answer by numbers.
-- Assumes nothing.
use Rattle.sakyelbo.proofs.Laws.{writes_command}
use Rattle.sakyelbo.proofs.commands.sakyelbo_comment.Goals as goal

pub returns : goal.returns
returns c = writes_command c.comment.ensures c.of_command.ensures
