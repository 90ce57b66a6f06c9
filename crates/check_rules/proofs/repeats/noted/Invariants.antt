-- The references that were passed have a note.
-- Assumes nothing.
use Rattle.check_rules.specs.Repeats.{AllNoted}
use Rattle.check_rules.proofs.repeats.noted.Given as goal

abbrev pub invariant-loop-i : goal.invariant-loop-i
invariant-loop-i l = AllNoted l.list.body.now l.records.work.now l.records.sizes.rows l.list.at l.i
