-- `write_terms::values::put_set` meets its contract.
-- Assumes nothing.
use Rattle.script_spec.specs.Base.{bytes}
use Rattle.write_terms.proofs.ValueLaws.{set_none, spells_set}
use Rattle.write_terms.proofs.values.put_set.Goals as goal

pub returns-then-term-eq0 : goal.returns-then-term-eq0
unfolding bytes
returns-then-term-eq0 c = set_none c.if-term-eq0.true c.put_constant.ensures

pub returns : goal.returns
unfolding bytes
returns c = spells_set c.if-term-eq0.false c.put.ensures c.put_arguments.ensures c.put_byte.ensures c.put_constant-2.ensures c.put_byte-2.ensures
