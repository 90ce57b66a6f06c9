-- `walk_queries::queries::negation_read` meets its contract: by its record.
-- Assumes nothing.
use Rattle.walk_queries.proofs.NegationLaws.{of_nego, of_ordinary, of_other}
use Rattle.walk_queries.proofs.queries.negation_read.Goals as goal

pub returns-in_default : goal.returns-in_default
returns-in_default c = of_other c.get-offset.ensures c.term_at.ensures.is c.in_default.not-App

pub returns-then-not-is_nego : goal.returns-then-not-is_nego
returns-then-not-is_nego c = of_ordinary c.get-offset.ensures c.term_at.ensures.is c.in-App.is c.is_nego.ensures c.if-not-is_nego.true

pub returns : goal.returns
returns c = of_nego c.get-offset.ensures c.term_at.ensures.is c.in-App.is c.is_nego.ensures c.if-not-is_nego.false c.negation_with.ensures
