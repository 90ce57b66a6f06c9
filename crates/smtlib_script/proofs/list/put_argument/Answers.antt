-- `smtlib_script::list::put_argument` meets its contract: the two texts between parentheses.
-- Assumes nothing.
use Rattle.script_spec.specs.Base.{bytes}
use Rattle.script_spec.specs.Command.{listed}
use Rattle.write_bytes.proofs.Laws.{◌then◌}
use Rattle.smtlib_script.proofs.list.put_argument.Goals as goal

pub returns : goal.returns
unfolding listed bytes
returns c = c.put_byte.ensures then c.put_two.ensures then c.put_byte-2.ensures
