-- `index_compare::depth::greatest_terms` meets its contract: the greatest so far and the references that are left make the result.
-- Assumes nothing.
use Prim.Native.Nat.{max}
use mathlib.Core.List.{map}
use mathlib.Core.Path.{◌≡◌}
use Rattle.index.specs.Rules.{greatest}
use Rattle.index_compare.specs.Step.{kind_number}
use Rattle.index_compare.specs.Shape.{terms_ahead}
use Rattle.index_compare.specs.View.{viewed, reference_numbers}
use Rattle.index_compare.specs.declared.compare.View.TheVariants.{Depth}
use Rattle.index_compare.proofs.depth.greatest_terms.Given as goal

abbrev pub invariant-loop-n : goal.invariant-loop-n
invariant-loop-n l =
    (goal.iterator-loop-n).can_next l.n-iterator × (goal.iterator-loop-n).is_finite l.n-iterator
    × (max l.found (greatest (reference_numbers (kind_number l.kind) (map (viewed l.records.work.now l.records.sizes.rows Depth) (terms_ahead l.n-iterator))))
    ≡ max l.fn.most (greatest (reference_numbers (kind_number l.kind) (map (viewed l.records.work.now l.records.sizes.rows Depth) (terms_ahead l.fn.terms)))))
