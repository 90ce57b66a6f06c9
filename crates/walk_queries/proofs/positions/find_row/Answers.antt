-- `walk_queries::positions::find_row` meets its contract: the halves of the rows.
-- Assumes nothing.
use Rattle.walk_queries.proofs.RowLaws.{halves_start, halves_end, halves_lower, halves_upper}
use native.Mathlib.Omega.{arith}
use Rattle.walk_queries.proofs.positions.find_row.Goals as goal

pub loop-high-init : goal.loop-high-init
loop-high-init c = halves_start c.requires

pub loop-high-preserved-then-stands_before : goal.loop-high-preserved-then-stands_before
loop-high-preserved-then-stands_before c = halves_lower c.loop-high.invariant (omega arith, omega arith) c.get_row-at.ensures c.stands_before.ensures c.if-stands_before.true

pub loop-high-preserved : goal.loop-high-preserved
loop-high-preserved c = halves_upper c.loop-high.invariant (omega arith, omega arith) c.get_row-at.ensures c.stands_before.ensures c.if-stands_before.false

pub returns : goal.returns
returns c = halves_end c.loop-high.invariant (omega arith)
