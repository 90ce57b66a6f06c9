-- `smtlib_script::command::put_set_option` meets its contract: its pieces one after another are the line.
-- Assumes nothing.
use Rattle.script_spec.specs.Base.{bytes}
use Rattle.write_bytes.proofs.Laws.{◌then◌, says}
use Rattle.smtlib_script.specs.Opened.{opened}
use Rattle.smtlib_script.proofs.Lines.{line_set_option}
use Rattle.smtlib_script.proofs.command.put_set_option.Goals as goal

pub returns : goal.returns
unfolding opened bytes
returns c = says (line_set_option _ _) (c.put_word.ensures then c.put_byte.ensures then c.put_two.ensures then c.put.ensures)
