-- What the loop of `fill_rows` keeps: the rows so far have the places of every second text.
-- Assumes nothing.
use Rattle.walk_queries.proofs.FillLaws.{FillingRecords}
use Rattle.walk_queries.proofs.lists.fill_rows.Given as goal

abbrev pub invariant-loop-j : goal.invariant-loop-j
invariant-loop-j l = FillingRecords l.among l.base l.rows l.initial.records l.records l.at l.j
