-- `smtlib_script::command::Command::put` meets its contract: each command by its texts, or as its one text.
-- Assumes nothing.
use Rattle.script_spec.specs.Base.{bytes}
use Rattle.script_spec.specs.Command.{line, spelled}
use Rattle.write_bytes.proofs.Laws.{says}
use Rattle.smtlib_script.specs.Commands.{command_of}
use Rattle.smtlib_script.specs.Opened.{opened}
use Rattle.smtlib_script.proofs.Lines.{line_assert, line_set_logic}
use Rattle.smtlib_script.proofs.command.Command.put.Goals as goal

pub returns-in-Assert : goal.returns-in-Assert
unfolding command_of opened bytes
returns-in-Assert c = rw c.in-Assert.is (says (line_assert _) c.put_one.ensures)

pub returns-in-SetLogic : goal.returns-in-SetLogic
unfolding command_of opened bytes
returns-in-SetLogic c = rw c.in-SetLogic.is (says (line_set_logic _) c.put_one-in-SetLogic.ensures)

pub returns-in-CheckSat : goal.returns-in-CheckSat
unfolding command_of line spelled bytes
returns-in-CheckSat c = rw c.in-CheckSat.is c.put.ensures

pub returns-in-GetModel : goal.returns-in-GetModel
unfolding command_of line spelled bytes
returns-in-GetModel c = rw c.in-GetModel.is c.put-in-GetModel.ensures

pub returns-in-Reset : goal.returns-in-Reset
unfolding command_of line spelled bytes
returns-in-Reset c = rw c.in-Reset.is c.put-in-Reset.ensures

pub returns-in-Exit : goal.returns-in-Exit
unfolding command_of line spelled bytes
returns-in-Exit c = rw c.in-Exit.is c.put-in-Exit.ensures
