-- `write_types::sorts::put_sort_by` meets its contract: by recursion on the number, which falls from a type to its part.
-- Assumes nothing.
use Rattle.write_types.proofs.sorts.+put_sort_by.Given as goal

abbrev pub decreases-put_sort_by : goal.decreases-put_sort_by
decreases-put_sort_by l = l.t
