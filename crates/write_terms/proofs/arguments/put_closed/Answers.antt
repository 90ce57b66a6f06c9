-- `write_terms::arguments::put_closed` meets its contract.
-- Assumes nothing.
use Rattle.script_spec.specs.Base.{bytes}
use Rattle.write_terms.proofs.ArgumentLaws.{closed_none, closed_some}
use Rattle.write_terms.proofs.arguments.put_closed.Goals as goal

pub returns-then-children-eq0 : goal.returns-then-children-eq0
unfolding bytes
returns-then-children-eq0 c = closed_none c.args.children c.if-children-eq0.true c.put.ensures

pub returns : goal.returns
unfolding bytes
returns c = closed_some c.args.children c.if-children-eq0.false c.put_arguments.ensures c.put_byte.ensures
