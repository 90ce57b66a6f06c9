-- `index_entry::leaves::bool_lit` meets its contract: each code by its arm.
-- Assumes nothing.
use mathlib.Core.Path.{refl}
use native.Mathlib.Omega.{arith}
use Rattle.script_spec.specs.Base.{at}
use Rattle.index_entry.proofs.LeafEntries.{truths, truth_known, truth_unknown}
use Rattle.index_entry.proofs.leaves.bool_lit.Goals as goal

pub returns-in-0-clause-is : goal.returns-in-0-clause-is
unfolding at truths
returns-in-0-clause-is c = truth_known 0 _ c.byte_at.ensures c.in-0.is refl

pub returns-in-1-clause-is : goal.returns-in-1-clause-is
unfolding at truths
returns-in-1-clause-is c = truth_known 1 _ c.byte_at.ensures c.in-1.is refl

pub returns-in_default-clause-is : goal.returns-in_default-clause-is
returns-in_default-clause-is c = truth_unknown c.byte_at.ensures (omega arith)
