-- By the notes, or in pairs where they do not tell.
-- Assumes nothing.
use Rattle.check_rules.proofs.Noted.{told_differ, pairs_differ}
use Rattle.check_rules.proofs.distinct.differ.Goals as goal

pub returns-in-Some : goal.returns-in-Some
returns-in-Some c = told_differ c.repeats.ensures _ c.in-Some.is

pub returns-in-None : goal.returns-in-None
returns-in-None c = pairs_differ c.repeats.ensures c.view.result c.view.ensures c.differ_in_pairs.ensures
