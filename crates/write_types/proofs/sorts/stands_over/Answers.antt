-- `write_types::sorts::stands_over` meets its contract: each letter by its arm.
-- Assumes nothing.
use Rattle.std.proofs.Common.{rules}
use Rattle.write_types.proofs.SortLaws.{over_truth, over_set, over_option, over_nothing, over_at}
use Rattle.write_types.proofs.sorts.stands_over.Goals as goal

pub returns-in-66 : goal.returns-in-66
returns-in-66 c = over_at c.get-offset.ensures (over_truth _ _ c.letter_at.ensures c.in-66.is)

pub returns-in-67 : goal.returns-in-67
returns-in-67 c = over_at c.get-offset.ensures (over_set _ _ c.letter_at.ensures c.in-67.is c.part_at.ensures)

pub returns-in-79 : goal.returns-in-79
returns-in-79 c = over_at c.get-offset.ensures (over_option _ _ c.letter_at.ensures c.in-79.is c.part_at-in-79.ensures)

pub returns-in_default : goal.returns-in_default
returns-in_default c = over_at c.get-offset.ensures (over_nothing _ _ c.letter_at.ensures (λ e. search rules) (λ e. search rules))
