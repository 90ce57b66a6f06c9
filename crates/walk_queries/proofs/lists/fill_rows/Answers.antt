-- `walk_queries::lists::fill_rows` meets its contract: a row more at each turn.
-- Assumes nothing.
use Rattle.walk_queries.proofs.FillLaws.{fills_none, fills_more}
use Rattle.walk_queries.proofs.lists.fill_rows.Goals as goal

pub loop-j-init : goal.loop-j-init
loop-j-init c = fills_none _

pub loop-j-preserved : goal.loop-j-preserved
loop-j-preserved c = fills_more c.loop-j.invariant c.loop-j-test.true c.requires (rw c.in-Ok.ensures.1 at c.set_row.ensures) c.after_text-next.result c.after_text-at.result c.after_text-next.ensures c.after_text-at.ensures
