-- The invariant: none of the slots that were passed is empty or has a record of which the test is true.
-- Assumes nothing.
use Rattle.index.specs.Cells.{cell, hash}
use Rattle.index_search.specs.Tables.{slot_kind}
use Rattle.index_search.proofs.Probing.{Passed}
use Rattle.index_search.proofs.slots.probe.Given as goal

abbrev pub invariant-loop-d : goal.invariant-loop-d
invariant-loop-d g l = Passed l.records.sizes.rows (cell l.records.work.now l.records.sizes.rows hash) (slot_kind l.table) l.count (g.T.Test.tells l.test l.records) l.b l.d
