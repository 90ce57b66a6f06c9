-- `walk_queries::positions::find_row` meets its contract. The loop's invariant: the text can only be between the two rows.
-- Assumes nothing.
use Prim.Native.Nat.{◌-◌}
use Rattle.walk_queries.specs.Found.{Halves}
use Rattle.walk_queries.proofs.positions.find_row.Given as goal

abbrev pub invariant-loop-high : goal.invariant-loop-high
invariant-loop-high l = Halves l.body l.records.work.now l.records.sizes.rows l.base l.rows l.name l.low l.high

abbrev pub decreases-loop-high : goal.decreases-loop-high
decreases-loop-high l = l.high - l.low
