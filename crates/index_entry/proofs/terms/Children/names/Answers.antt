-- `index_entry::terms::Children::names` meets its contract.
-- Assumes nothing.
use mathlib.Core.Path.{refl}
use Rattle.index_entry.specs.Terms.{names_of}
use Rattle.index_entry.proofs.terms.Children.names.Goals as goal

pub returns : goal.returns
unfolding names_of
returns c = refl
