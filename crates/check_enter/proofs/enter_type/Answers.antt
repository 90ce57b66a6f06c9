-- Rule 9, the count, the depth, and then the row.
-- Assumes nothing.
use Rattle.check_enter.proofs.Types.{type_unordered, type_many, type_deep, type_entered}
use Rattle.check_enter.proofs.enter_type.Goals as goal

pub returns-then-not-attributes_ascend : goal.returns-then-not-attributes_ascend
returns-then-not-attributes_ascend c = type_unordered _ _ c.attributes_ascend.ensures c.if-not-attributes_ascend.true

pub returns-then-records-ge-MOST : goal.returns-then-records-ge-MOST
returns-then-records-ge-MOST c = type_many _ _ c.attributes_ascend.ensures c.if-not-attributes_ascend.false c.if-records-ge-MOST.true

pub returns-then-deepest-gt-DEEPEST_PART : goal.returns-then-deepest-gt-DEEPEST_PART
returns-then-deepest-gt-DEEPEST_PART c = type_deep _ _ c.attributes_ascend.ensures c.octets.ensures (rw (c.view.ensures.0, c.view.ensures.1, c.view.ensures.2) at c.greatest-deepest.ensures) c.if-not-attributes_ascend.false c.if-records-ge-MOST.false c.if-deepest-gt-DEEPEST_PART.true

pub returns : goal.returns
returns c = type_entered _ _ c.attributes_ascend.ensures c.octets.ensures (rw (c.view.ensures.0, c.view.ensures.1, c.view.ensures.2) at c.greatest-deepest.ensures) c.if-not-attributes_ascend.false c.if-records-ge-MOST.false c.if-deepest-gt-DEEPEST_PART.false c.store_type.ensures
