-- `index::cell_place` meets its contract: each test that fails leaves no place, and a place that there is lies in the memory.
-- Assumes nothing.
use native.Mathlib.Omega.{arith}
use Rattle.index.proofs.Cells.{offset_start, offset_end, offset_narrow, offset_no_column, offset_past}
use Rattle.index.proofs.cell_place.Goals as goal

pub returns-then-size-rows : goal.returns-then-size-rows
returns-then-size-rows c = record { is = offset_narrow _ _ _ _ (omega arith) }

pub returns-then-rows-i : goal.returns-then-rows-i
returns-then-rows-i c = record { is = offset_past _ _ _ _ (omega arith) (omega arith) }

pub returns-then-column-lt-COLUMNS : goal.returns-then-column-lt-COLUMNS
returns-then-column-lt-COLUMNS c = let a = (c).args in record { is = offset_start a.size a.rows a.column a.i (omega arith) (omega arith) (omega arith) }

pub returns-then-column : goal.returns-then-column
returns-then-column c = let a = (c).args in record { is = offset_end a.size a.rows a.column a.i (omega arith) (omega arith) (omega arith) (omega arith) }

pub returns : goal.returns
returns c = record { is = offset_no_column _ _ _ _ (omega arith) (omega arith) (omega arith) }
