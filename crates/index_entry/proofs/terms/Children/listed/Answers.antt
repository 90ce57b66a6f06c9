-- `index_entry::terms::Children::listed` meets its contract.
-- Assumes nothing.
use mathlib.Core.Path.{refl}
use Rattle.index_entry.proofs.terms.Children.listed.Goals as goal

pub returns : goal.returns
returns c = record { within = refl; count = c.number_at-left.ensures; place = c.past-from.ensures; bare = refl }
