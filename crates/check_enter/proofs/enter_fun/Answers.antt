-- The search, the row, and the count.
-- Assumes nothing.
use Rattle.check_enter.proofs.Rewritten.{rewritten_from, rewritten_then}
use Rattle.check_enter.proofs.Functions.{fun_entered}
use Rattle.check_enter.proofs.enter_fun.Goals as goal

pub returns : goal.returns
returns c =
    let E = c.enrol-first.ensures in
    fun_entered _ _ E (rewritten_then _ _ _ (rewritten_then _ _ _ (rewritten_then _ _ _ (rewritten_from E.stays) c.set.ensures) c.set-2.ensures) c.set-3.ensures) c.saturating_add-records.ensures
