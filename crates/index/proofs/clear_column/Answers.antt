-- `index::clear_column` meets its contract: the part that a column has is zeroed.
-- Assumes nothing.
use native.Mathlib.Omega.{arith}
use Rattle.index.proofs.Columns.{emptied_narrow, emptied_no_column, emptied_part}
use Rattle.index.proofs.clear_column.Goals as goal

pub returns-then-work-rows : goal.returns-then-work-rows
returns-then-work-rows c = emptied_narrow _ _ _ (omega arith)

pub returns-then-column-ge-COLUMNS : goal.returns-then-column-ge-COLUMNS
returns-then-column-ge-COLUMNS c = emptied_no_column _ _ _ (omega arith) (omega arith)

pub returns : goal.returns
returns c = let a = (c).args in emptied_part a.work.now a.rows a.column (omega arith) (omega arith) _ (c.fill.ensures.after (λ y e. e))
