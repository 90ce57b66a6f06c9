-- The number of the term, the row, and the count.
-- Assumes nothing.
use Rattle.check_enter.proofs.Rewritten.{rewritten_none, rewritten_then}
use Rattle.check_enter.proofs.InputRules.{input_entered}
use Rattle.check_enter.proofs.inputs.enter_input.Goals as goal

pub returns : goal.returns
returns c =
    input_entered _ _ c.body_at.ensures c.number_at-term.ensures
    (rewritten_then _ _ _ (rewritten_none c.args.records.now) c.set.ensures)
    c.saturating_add-records.ensures
