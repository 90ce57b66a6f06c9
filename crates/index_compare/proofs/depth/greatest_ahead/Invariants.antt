-- `index_compare::depth::greatest_ahead` meets its contract: the greatest so far and what is ahead make the result.
-- Assumes nothing.
use Prim.Native.Nat.{max}
use mathlib.Core.List.{map}
use mathlib.Core.Path.{◌≡◌}
use Rattle.index.specs.Rules.{greatest}
use Rattle.index_compare.specs.Machine.{ahead}
use Rattle.index_compare.specs.Step.{kind_number}
use Rattle.index_compare.specs.View.{viewed, reference_numbers}
use Rattle.index_compare.specs.declared.compare.View.TheVariants.{Depth}
use Rattle.index_compare.proofs.depth.greatest_ahead.Given as goal

abbrev pub invariant-loop-s : goal.invariant-loop-s
invariant-loop-s l =
    (goal.iterator-loop-s).can_next l.s-iterator × (goal.iterator-loop-s).is_finite l.s-iterator
    × (max l.most (greatest (reference_numbers (kind_number l.kind) (map (viewed l.records.work.now l.records.sizes.rows Depth) (ahead l.s-iterator))))
    ≡ greatest (reference_numbers (kind_number l.kind) (map (viewed l.records.work.now l.records.sizes.rows Depth) (ahead l.fn.rest))))
