-- The four bytes by their weights.
-- Assumes nothing.
use native.Mathlib.Omega.{arith}
use Rattle.script_spec.specs.Fields.{low}
use Rattle.read_field.proofs.word.Goals as goal

pub returns : goal.returns
unfolding low
returns c = omega (arith, c.from_le_bytes.ensures)
