-- The list of a record type, and true for any other kind.
-- Assumes nothing.
use Rattle.check_rules.proofs.RecordLaws.{ascends_none, ascends_other, ascends_record}
use Rattle.check_rules.proofs.record.attributes_ascend.Goals as goal

pub returns-in_default : goal.returns-in_default
returns-in_default c = ascends_none _ _ c.kind_at.ensures c.in_default.is

pub returns-in-TR : goal.returns-in-TR
returns-in-TR c = ascends_record _ _ c.kind_at.ensures (rw (← c.in-TR.is) c.in-Some.is) c.body_at.ensures c.new.ensures c.list_ascends.ensures

pub returns-in_default-kind : goal.returns-in_default-kind
returns-in_default-kind c = ascends_other _ _ c.kind_at.ensures c.in-Some.is search
