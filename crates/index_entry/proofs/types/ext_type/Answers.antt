-- `index_entry::types::ext_type` meets its contract: each code by its arm.
-- Assumes nothing.
use mathlib.Core.Path.{refl}
use native.Mathlib.Omega.{arith}
use Rattle.script_spec.specs.Base.{at}
use Rattle.index_entry.specs.Types.{ext_type_said}
use Rattle.index_entry.proofs.TypeEntries.{ext_types, ext_known, ext_unknown}
use Rattle.index_entry.proofs.types.ext_type.Goals as goal

pub returns-in-0 : goal.returns-in-0
unfolding at ext_types ext_type_said
returns-in-0 c = ext_known 0 _ c.byte_at.ensures c.in-0.is refl

pub returns-in-1 : goal.returns-in-1
unfolding at ext_types ext_type_said
returns-in-1 c = ext_known 1 _ c.byte_at.ensures c.in-1.is refl

pub returns-in-2 : goal.returns-in-2
unfolding at ext_types ext_type_said
returns-in-2 c = ext_known 2 _ c.byte_at.ensures c.in-2.is refl

pub returns-in-3 : goal.returns-in-3
unfolding at ext_types ext_type_said
returns-in-3 c = ext_known 3 _ c.byte_at.ensures c.in-3.is refl

pub returns-in_default : goal.returns-in_default
returns-in_default c = ext_unknown c.byte_at.ensures (omega arith)
