-- What a cursor after the references before it takes, where they are there.
-- Assumes nothing.
use Rattle.check_rules.proofs.References.{ref_none, ref_taken, ref_refused}
use Rattle.check_rules.proofs.repeats.ref_at.Goals as goal

pub returns-in_default : goal.returns-in_default
returns-in_default c = ref_none c.args.list c.args.i c.in_default.ensures

pub returns-in-Ok-u32_le : goal.returns-in-Ok-u32_le
returns-in-Ok-u32_le c = ref_taken c.args.list c.args.i c.in-Ok.ensures c.in-Ok-u32_le.ensures

pub returns-in-Err : goal.returns-in-Err
returns-in-Err c = ref_refused c.args.list c.args.i c.in-Ok.ensures c.in-Err.ensures
