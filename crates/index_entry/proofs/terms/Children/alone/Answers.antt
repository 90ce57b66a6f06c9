-- `index_entry::terms::Children::alone` meets its contract.
-- Assumes nothing.
use Rattle.index_entry.proofs.ChildLaws.{one_child}
use Rattle.index_entry.proofs.terms.Children.alone.Goals as goal

pub returns : goal.returns
returns c = one_child _
