-- `write_types::sorts::put_sort_by` meets its contract: by recursion on the number, which falls from a type to its part.
-- Assumes nothing.
use mathlib.Core.Path.{subst}
use Rattle.script_spec.specs.Base.{bytes}
use Rattle.walk_names.proofs.Spelling.{stopped}
use Rattle.write_types.proofs.SortLaws.{spells_truth, spells_never, spells_over}
use Rattle.write_types.specs.Sorts.{OverAt}
use Rattle.write_types.proofs.sorts.+put_sort_by.Goals as goal

pub returns-then-is_past : goal.returns-then-is_past
returns-then-is_past t c = stopped c.is_past.ensures c.if-is_past.true

pub returns-in-Truth : goal.returns-in-Truth
unfolding bytes
returns-in-Truth t c = spells_truth _ c.stands_over.ensures c.in-Truth.is c.put.ensures

pub returns-in-Nothing : goal.returns-in-Nothing
returns-in-Nothing t c = c.put_sole_sort.ensures (subst (OverAt _ _) c.in-Nothing.is c.stands_over.ensures)

pub returns-then-t-part : goal.returns-then-t-part
returns-then-t-part t c = spells_never _ c.stands_over.ensures c.in-Part.is c.if-t-part.true

pub returns-else-t-part : goal.returns-else-t-part
unfolding bytes
returns-else-t-part t c = spells_over _ c.stands_over.ensures c.in-Part.is c.put_opened.ensures c.put_sort_by.ensures c.put_byte.ensures
