-- `write_terms::applications::put_selector` meets its contract.
-- Assumes nothing.
use Rattle.script_spec.specs.Base.{bytes}
use Rattle.walk_names.proofs.Spelling.{stopped}
use Rattle.write_terms.proofs.HeadLaws.{selector_none, selector_at, selector_nowhere}
use Rattle.write_terms.proofs.applications.put_selector.Goals as goal

pub returns-then-is_past : goal.returns-then-is_past
returns-then-is_past c = stopped c.is_past.ensures c.if-is_past.true

pub returns-in_default : goal.returns-in_default
returns-in_default c = selector_none c.args.records c.args.arguments c.args.name.now c.in_default.ensures.steps.0

pub returns-in-Ok : goal.returns-in-Ok
unfolding bytes
returns-in-Ok c = selector_at c.args.records c.args.arguments c.args.name.now c.in-Some.ensures.steps c.get-t.ensures c.index_of_attr.ensures c.in-Ok.is c.put_numbered.ensures

pub returns-in_default-index_of_attr : goal.returns-in_default-index_of_attr
returns-in_default-index_of_attr c = selector_nowhere c.args.records c.args.arguments c.args.name.now c.in-Some.ensures.steps c.get-t.ensures c.index_of_attr.ensures c.in_default-index_of_attr.not-Ok
