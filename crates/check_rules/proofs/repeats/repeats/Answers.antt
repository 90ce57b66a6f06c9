-- The notes, a note that the next reference has, and no notes again.
-- Assumes nothing.
use Rattle.check_rules.proofs.Noting.{repeats_never, repeats_once, repeats_unknown}
use Rattle.check_rules.proofs.repeats.repeats.Goals as goal

pub returns-then-n-count : goal.returns-then-n-count
returns-then-n-count c = repeats_never c.note-n.ensures c.clear.ensures c.if-n-count.true

pub returns-then-same_earlier : goal.returns-then-same_earlier
returns-then-same_earlier c = repeats_once c.note-n.ensures c.clear-2.ensures c.view-2.result c.view-2.ensures c.if-n-count.false c.same_earlier.ensures c.if-same_earlier.true

pub returns : goal.returns
returns c = repeats_unknown c.note-n.ensures c.clear-2.ensures
