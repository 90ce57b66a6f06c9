-- `write_terms::values::put_record` meets its contract.
-- Assumes nothing.
use Rattle.script_spec.specs.Base.{bytes}
use Rattle.write_terms.proofs.ValueLaws.{record_none, spells_record}
use Rattle.write_terms.proofs.values.put_record.Goals as goal

pub returns-then-term-eq0 : goal.returns-then-term-eq0
returns-then-term-eq0 c = record_none c.if-term-eq0.true c.put_term_sort.ensures

pub returns : goal.returns
unfolding bytes
returns c = spells_record c.if-term-eq0.false c.put_byte.ensures c.put_term_sort-2.ensures c.put_arguments.ensures c.put_byte-2.ensures
