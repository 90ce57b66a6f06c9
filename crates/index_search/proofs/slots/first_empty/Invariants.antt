-- The invariant: no slot that was passed is empty.
-- Assumes nothing.
use Rattle.index.specs.Cells.{cell, hash}
use Rattle.index_search.proofs.Ring.{Taken}
use Rattle.index_search.proofs.slots.first_empty.Given as goal

abbrev pub invariant-loop-steps : goal.invariant-loop-steps
invariant-loop-steps l = Taken l.rows (cell l.work l.rows hash) l.b l.steps
