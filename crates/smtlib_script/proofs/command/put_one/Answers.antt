-- `smtlib_script::command::put_one` meets its contract: three writes in a row.
-- Assumes nothing.
use Rattle.script_spec.specs.Base.{bytes}
use Rattle.write_bytes.proofs.Laws.{◌then◌}
use Rattle.smtlib_script.proofs.command.put_one.Goals as goal

pub returns : goal.returns
unfolding bytes
returns c = c.put_word.ensures then c.put.ensures then c.put-2.ensures
