-- `check_enter::terms::enter_term` meets its contract: the type, and then the term by it.
-- Assumes nothing.
use Rattle.check_enter.proofs.terms.enter_term.Goals as goal

pub returns-clause-kept : goal.returns-clause-kept
returns-clause-kept c = c.enter_typed.ensures.kept

pub returns-clause-entered : goal.returns-clause-entered
returns-clause-entered c = λ M. c.enter_typed.ensures.go M (rw (c.view.ensures.0, c.view.ensures.1, c.view.ensures.2) at (c.type_of-found.ensures (rw c.view.ensures.0 M)))
