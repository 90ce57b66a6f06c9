-- `write_types::records::put_spaced_parts` meets its contract.
-- Assumes nothing.
use Rattle.script_spec.specs.Base.{bytes}
use Rattle.write_types.proofs.RecordLaws.{spaced_none, spaced_some}
use Rattle.write_types.proofs.records.put_spaced_parts.Goals as goal

pub returns-then-ty-eq0 : goal.returns-then-ty-eq0
unfolding bytes
returns-then-ty-eq0 c = spaced_none _ c.if-ty-eq0.true c.put_byte.ensures

pub returns : goal.returns
returns c = spaced_some _ c.if-ty-eq0.false c.put_parts.ensures
