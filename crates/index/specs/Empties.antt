-- How many entries of a column are 0: slots that are empty, records that have no name.
-- Assumes nothing.
use Rattle.std.specs.Prelude.{ℕ, zero, suc, ◌+◌}

-- 1 for a 0, and 0 for any other number
unfoldable pub one_if_empty : ℕ → ℕ
one_if_empty zero = 1
one_if_empty (suc n) = 0

-- how many of the first n entries of a column are 0
unfoldable pub empties : (ℕ → ℕ) → ℕ → ℕ
empties column zero = zero
empties column (suc n) = one_if_empty (column n) + empties column n
