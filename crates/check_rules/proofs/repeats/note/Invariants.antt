-- The references that were passed are noted, each at an entry that was empty.
-- Assumes nothing.
use Rattle.check_rules.proofs.Noting.{Noting}
use Rattle.check_rules.proofs.repeats.note.Given as goal

abbrev pub invariant-loop-i : goal.invariant-loop-i
invariant-loop-i l = Noting l.list.body.now l.initial.records l.list.at l.count l.records l.i
