-- `smtlib_script::command::put_define_fun` meets its contract: its pieces one after another are the line.
-- Assumes nothing.
use Rattle.script_spec.specs.Base.{bytes}
use Rattle.write_bytes.proofs.Laws.{◌then◌, says}
use Rattle.smtlib_script.specs.Opened.{opened}
use Rattle.smtlib_script.proofs.Lines.{line_define_fun}
use Rattle.smtlib_script.proofs.command.put_define_fun.Goals as goal

pub returns : goal.returns
unfolding opened bytes
returns c =
    says (line_define_fun _ _ _ _)
    (c.put_define_fun.ensures then c.put.ensures then c.put_byte.ensures then c.put_arguments.ensures then c.put_byte-2.ensures then c.put_two.ensures then c.put-2.ensures)
