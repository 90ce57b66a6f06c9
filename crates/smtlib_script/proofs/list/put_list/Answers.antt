-- `smtlib_script::list::put_list` meets its contract: the joined texts between parentheses.
-- Assumes nothing.
use Rattle.script_spec.specs.Base.{bytes}
use Rattle.script_spec.specs.Command.{listed, spaced}
use Rattle.write_bytes.proofs.Laws.{◌then◌}
use Rattle.smtlib_script.proofs.list.put_list.Goals as goal

pub returns : goal.returns
unfolding listed spaced bytes
returns c = c.put_byte.ensures then c.put_joined.ensures then c.put_byte-2.ensures
