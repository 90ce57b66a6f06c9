-- The hash so far with what is ahead comes to the hash with all references.
-- Assumes nothing.
use mathlib.Core.Path.{◌≡◌}
use mathlib.Core.List.{map}
use Rattle.index_compare.specs.Shape.{terms_ahead}
use Rattle.index_compare.specs.View.{viewed}
use Rattle.index_compare.specs.declared.compare.View.TheVariants.{First}
use Rattle.index_search.specs.Hash.{mixed_segments}
use Rattle.index_search.proofs.hash.mix_terms.Given as goal

abbrev pub invariant-loop-n : goal.invariant-loop-n
invariant-loop-n l =
    (goal.iterator-loop-n).can_next l.n-iterator × (goal.iterator-loop-n).is_finite l.n-iterator
    × (mixed_segments l.key l.x (map (viewed l.records.work.now l.records.sizes.rows First) (terms_ahead l.n-iterator))
    ≡ mixed_segments l.key l.h (map (viewed l.records.work.now l.records.sizes.rows First) (terms_ahead l.fn.terms)))
