-- The notes from the reference i on are cleared.
-- Assumes nothing.
use Rattle.check_rules.proofs.Noting.{Clearing}
use Rattle.check_rules.proofs.repeats.clear.Given as goal

abbrev pub invariant-loop-i : goal.invariant-loop-i
invariant-loop-i l = Clearing l.list.body.now l.initial.records l.records l.list.at l.n l.i
