-- `write_terms::applications::put_like` meets its contract.
-- Assumes nothing.
use Rattle.script_spec.specs.Base.{bytes}
use Rattle.write_terms.proofs.ApplicationLaws.{spells_like}
use Rattle.write_terms.proofs.applications.put_like.Goals as goal

pub returns : goal.returns
unfolding bytes
returns c = spells_like c.args.arguments c.args.pattern.now c.put.ensures c.put_arguments.ensures c.put_byte.ensures c.put_pattern.ensures c.put_byte-2.ensures
