-- A set, with as many elements, of the same type, whose elements all have a note.
-- Assumes nothing.
use Rattle.index_search.proofs.SetLaws.{same_none, other_count, other_type, by_notes}
use Rattle.index_search.proofs.sets.same_set.Goals as goal

pub returns-in_default : goal.returns-in_default
returns-in_default c = same_none c.in_default.ensures

pub returns-then-set-count : goal.returns-then-set-count
returns-then-set-count c = other_count c.in-Some.ensures c.if-set-count.true

pub returns-then-get-ty : goal.returns-then-get-ty
returns-then-get-ty c = other_type c.in-Some.ensures c.get.ensures c.if-get-ty.true

pub returns : goal.returns
returns c = by_notes c.in-Some.ensures c.get.ensures c.if-get-ty.false c.if-set-count.false c.noted.ensures
