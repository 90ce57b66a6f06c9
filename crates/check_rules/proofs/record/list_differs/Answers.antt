-- The count, and then the items.
-- Assumes nothing.
use Rattle.check_rules.proofs.Decided.{decides_list, list_bad, leaves, leaves_so}
use Rattle.check_rules.proofs.record.list_differs.Goals as goal

pub returns-in-Ok : goal.returns-in-Ok
returns-in-Ok c = leaves_so c.differ.ensures (λ D. decides_list c.in-Ok.ensures D)

pub returns-in-Err : goal.returns-in-Err
returns-in-Err c = leaves (list_bad _ c.in-Err.ensures)
