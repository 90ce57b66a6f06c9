-- `write_terms::lines::VariableLinesLine::write` meets its contract: by whether the term is a variable.
-- Assumes nothing.
use Rattle.walk_names.proofs.Spelling.{spells_lent}
use Rattle.write_terms.proofs.LineLaws.{variable_named, variable_never}
use Rattle.write_terms.proofs.lines.VariableLinesLine.write.Goals as goal

pub returns-in-Var : goal.returns-in-Var
returns-in-Var c = variable_named c.term_at-term.ensures.is c.in-Var.is c.put_id.ensures (spells_lent c.lend.ensures)

pub returns-in_default : goal.returns-in_default
returns-in_default c = variable_never c.term_at-term.ensures.is c.in_default.not-Var
