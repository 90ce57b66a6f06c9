-- The store, of what the slot holds for the number.
-- Assumes nothing.
use mathlib.Core.Path.{refl}
use Rattle.index_search.proofs.Probing.{code_is, slot_taken}
use Rattle.index_search.proofs.slots.take.Goals as goal

pub returns : goal.returns
returns c = slot_taken (code_is c.args.table c.kind.ensures c.code.ensures) (record { file_is = refl; sizes_are = refl; lent = refl; memory = c.store_at.ensures.there })
