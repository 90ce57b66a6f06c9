-- `write_terms::lines::ConstDeclarationLine::write` meets its contract: piece by piece.
-- Assumes nothing.
use Rattle.script_spec.specs.Base.{bytes}
use Rattle.smtlib_script.specs.Opened.{opened}
use Rattle.write_terms.proofs.LineLaws.{spells_const}
use Rattle.write_terms.proofs.lines.ConstDeclarationLine.write.Goals as goal

pub returns : goal.returns
unfolding bytes opened
returns c = spells_const c.put_word.ensures c.put_term_name.ensures c.put_byte.ensures c.put_term_sort.ensures c.put.ensures
