-- `write_terms::lines::AssertionLine::write` meets its contract: three pieces are a line.
-- Assumes nothing.
use Rattle.script_spec.specs.Base.{bytes}
use Rattle.smtlib_script.specs.Opened.{opened}
use Rattle.write_terms.proofs.LineLaws.{spells_assertion}
use Rattle.write_terms.proofs.lines.AssertionLine.write.Goals as goal

pub returns : goal.returns
unfolding bytes opened
returns c = spells_assertion c.put_word.ensures c.put_atom.ensures c.put.ensures
