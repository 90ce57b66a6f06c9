-- The count, and then the items.
-- Assumes nothing.
use Rattle.read_field.specs.Takes.{moved_of}
use Rattle.read_field.proofs.Skims.{list_items}
use Rattle.read_field.proofs.Laws.{handed_on, alike, refuses_alike, next, refuses_stop}
use Rattle.read_field.proofs.list.list.Goals as goal

pub returns-in_err-n : goal.returns-in_err-n
returns-in_err-n c = rw (handed_on _ c.from_residual.ensures.1) (refuses_alike (list_items c.args.item) (refuses_stop _ c.in_err-n.ensures))

pub returns : goal.returns
returns c = alike (list_items c.args.item) _ (moved_of c.items.result) (next _ _ c.in_ok-n.ensures c.items.ensures)
