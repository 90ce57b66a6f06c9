-- The marks, and then the bodies.
-- Assumes nothing.
use Rattle.index_search.proofs.Equal.{same_marks, other_marks}
use Rattle.index_search.proofs.search.same_at.Goals as goal

pub returns-then-same_mark : goal.returns-then-same_mark
returns-then-same_mark c = same_marks c.args.records.file.now _ _ _ _ c.same_mark.ensures c.octets.ensures c.if-same_mark.true c.same_record.ensures

pub returns-else-same_mark : goal.returns-else-same_mark
returns-else-same_mark c = other_marks _ _ _ _ _ c.same_mark.ensures c.if-same_mark.false
