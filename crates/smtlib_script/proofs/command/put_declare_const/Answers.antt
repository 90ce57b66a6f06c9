-- `smtlib_script::command::put_declare_const` meets its contract: its pieces one after another are the line.
-- Assumes nothing.
use Rattle.script_spec.specs.Base.{bytes}
use Rattle.write_bytes.proofs.Laws.{◌then◌, says}
use Rattle.smtlib_script.specs.Opened.{opened}
use Rattle.smtlib_script.proofs.Lines.{line_declare_const}
use Rattle.smtlib_script.proofs.command.put_declare_const.Goals as goal

pub returns : goal.returns
unfolding opened bytes
returns c = says (line_declare_const _ _) (c.put_word.ensures then c.put_two.ensures then c.put.ensures)
