-- `smtlib_script::list::put_two` meets its contract: the two texts with a space between them.
-- Assumes nothing.
use Rattle.script_spec.specs.Base.{joined, bytes}
use Rattle.script_spec.specs.Command.{spaced}
use Rattle.write_bytes.proofs.Laws.{◌then◌}
use Rattle.smtlib_script.proofs.list.put_two.Goals as goal

pub returns : goal.returns
unfolding spaced joined bytes
returns c = c.put.ensures then c.put_byte.ensures then c.put-2.ensures
