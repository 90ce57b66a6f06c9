-- The search, the row, and the count.
-- Assumes nothing.
use Rattle.check_enter.proofs.Rewritten.{rewritten_from, rewritten_term}
use Rattle.check_enter.proofs.TermRules.{term_row_stored}
use Rattle.check_enter.proofs.terms.store_term.Goals as goal

pub returns : goal.returns
returns c =
    let E = c.enrol-first.ensures in
    term_row_stored _ _ _ _ E c.together-place.ensures
    (rewritten_term _ _ _ _ _ _ (rewritten_from E.stays) c.set_term.ensures)
    c.saturating_add-records.ensures
