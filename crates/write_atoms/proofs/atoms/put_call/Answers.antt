-- `write_atoms::atoms::put_call` meets its contract.
-- Assumes nothing.
use Rattle.script_spec.specs.Base.{bytes}
use Rattle.write_atoms.proofs.QueryLaws.{call_false, call_named}
use Rattle.write_atoms.proofs.atoms.put_call.Goals as goal

pub returns-in-Falsehood : goal.returns-in-Falsehood
unfolding bytes
returns-in-Falsehood c = call_false c.negation_of.ensures c.in-Falsehood.is c.put.ensures

pub returns-in_default : goal.returns-in_default
returns-in_default c = call_named c.negation_of.ensures c.in_default.not-Falsehood c.put_term_name.ensures
