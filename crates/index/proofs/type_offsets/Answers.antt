-- `index::type_offsets` meets its contract: so many entries, or all that there are.
-- Assumes nothing.
use mathlib.Core.Path.{refl, sym}
use native.Mathlib.Omega.{arith}
use lib.Seq.{take_all}
use Rattle.index.specs.Cells.{type_offsets}
use Rattle.index.proofs.type_offsets.Goals as goal

pub returns-then-work-n : goal.returns-then-work-n
unfolding type_offsets
returns-then-work-n c = sym (take_all c.args.n c.args.work.now (omega arith))

pub returns : goal.returns
unfolding type_offsets
returns c = refl
