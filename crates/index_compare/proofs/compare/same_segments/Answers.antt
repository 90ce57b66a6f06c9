-- `index_compare::compare::same_segments` meets its contract: two walks side by side.
-- Assumes nothing.
use Rattle.index_compare.specs.Step.{told}
use Rattle.index_compare.specs.View.{viewed_ahead}
use Rattle.index_compare.proofs.Compared.{same_told, walks_same}
use Rattle.index_compare.proofs.compare.same_segments.Goals as goal

pub returns : goal.returns
returns c = walks_same told viewed_ahead _ same_told _ _ c.viewed_segments.ensures c.viewed_segments-2.ensures c.eq.ensures.ran
