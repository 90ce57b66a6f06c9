-- `write_terms::applications::put_comparison` meets its contract.
-- Assumes nothing.
use Rattle.script_spec.specs.Base.{bytes}
use Rattle.write_terms.proofs.ApplicationLaws.{spells_comparison}
use Rattle.write_terms.proofs.applications.put_comparison.Goals as goal

pub returns : goal.returns
unfolding bytes
returns c = spells_comparison c.args.compared c.put.ensures c.put_arguments.ensures c.put_byte.ensures c.put_int_min.ensures c.put_byte-2.ensures
