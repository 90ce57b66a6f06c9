-- `walk_types::is_left` meets its contract: by the name, or by what is settled.
-- Assumes nothing.
use Rattle.walk_types.proofs.Walking.{left_named, left_settled}
use Rattle.walk_types.proofs.is_left.Goals as goal

pub returns-then-is_some : goal.returns-then-is_some
returns-then-is_some c = let v = c.view.ensures in left_named _ (rw (v.1, v.2) at c.get.ensures) c.is_some.ensures c.if-is_some.true

pub returns : goal.returns
returns c = let v = c.view.ensures in left_settled _ (rw (v.1, v.2) at c.get.ensures) c.is_some.ensures c.if-is_some.false c.view-2.ensures c.is_settled.ensures
