-- `write_types::sorts::put_sole_sort` meets its contract: by the entry of the type, or its name.
-- Assumes nothing.
use mathlib.Core.Path.{refl}
use Rattle.write_types.proofs.SortLaws.{spells_plain}
use Rattle.write_types.proofs.sorts.put_sole_sort.Goals as goal

pub returns : goal.returns
returns c over = spells_plain _ over refl c.type_at.ensures c.get-name.ensures c.put_plain_sort.ensures
