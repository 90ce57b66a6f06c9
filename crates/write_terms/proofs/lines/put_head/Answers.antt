-- `write_terms::lines::put_head` meets its contract.
-- Assumes nothing.
use Rattle.script_spec.specs.Base.{bytes}
use Rattle.smtlib_script.specs.Opened.{opened}
use Rattle.write_terms.proofs.LineLaws.{spells_head}
use Rattle.write_terms.proofs.lines.put_head.Goals as goal

pub returns : goal.returns
unfolding bytes opened
returns c = spells_head c.put_define_fun.ensures c.put_term_name.ensures c.put.ensures c.put_term_sort.ensures c.put_byte.ensures
