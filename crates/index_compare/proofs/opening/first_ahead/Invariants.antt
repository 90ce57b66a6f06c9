-- `index_compare::opening::first_ahead` meets its contract: the first that is ahead stays the first.
-- Assumes nothing.
use mathlib.Core.List.{map}
use mathlib.Core.Path.{◌≡◌}
use lib.ListN.{get_or}
use Rattle.index_compare.specs.Machine.{ahead}
use Rattle.index_compare.specs.View.{viewed, reference_numbers}
use Rattle.index_compare.specs.declared.compare.View.TheVariants.{Listed}
use Rattle.index_compare.proofs.opening.first_ahead.Given as goal

abbrev pub invariant-loop-s : goal.invariant-loop-s
invariant-loop-s l =
    (goal.iterator-loop-s).can_next l.s-iterator × (goal.iterator-loop-s).is_finite l.s-iterator
    × (get_or (reference_numbers 2 (map (viewed l.records.work.now l.records.sizes.rows Listed) (ahead l.s-iterator))) 0 0
    ≡ get_or (reference_numbers 2 (map (viewed l.records.work.now l.records.sizes.rows Listed) (ahead l.fn.rest))) 0 0)
