-- `walk_queries::queries::is_other` meets its contract.
-- Assumes nothing.
use Rattle.walk_queries.proofs.CodeLaws.{record_other, letter_other}
use Rattle.walk_queries.proofs.queries.is_other.Goals as goal

pub returns-then-letter_at-ne65 : goal.returns-then-letter_at-ne65
returns-then-letter_at-ne65 c = letter_other c.letter_at.ensures c.if-letter_at-ne65.true

pub returns-else-letter_at-ne65 : goal.returns-else-letter_at-ne65
returns-else-letter_at-ne65 c = record_other c.body_at.ensures c.is_other_code.ensures
