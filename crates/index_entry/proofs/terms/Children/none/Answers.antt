-- `index_entry::terms::Children::none` meets its contract.
-- Assumes nothing.
use Rattle.index_entry.proofs.ChildLaws.{no_children}
use mathlib.Core.Path.{refl}
use Rattle.index_entry.proofs.terms.Children.none.Goals as goal

pub returns : goal.returns
returns c = no_children _ refl
