-- `smtlib_script::list::put_constructors` meets its contract: the joined texts between parentheses.
-- Assumes nothing.
use Rattle.script_spec.specs.Base.{bytes}
use Rattle.script_spec.specs.Command.{constructor_list}
use Rattle.write_bytes.proofs.Laws.{◌then◌}
use Rattle.smtlib_script.proofs.list.put_constructors.Goals as goal

pub returns : goal.returns
unfolding constructor_list bytes
returns c = c.put.ensures then c.put_joined.ensures then c.put_byte.ensures
