-- The mark, the element type and the count, and then the elements.
-- Assumes nothing.
use mathlib.Core.Path.{sym, ◌∙◌}
use Rattle.index_search.proofs.SetLaws.{other_first, other_second, no_type, no_count, set_read_at}
use Rattle.index_search.proofs.sets.set_at.Goals as goal
use Rattle.index_search.proofs.sets.set_at.Goals.{then-first_letter-ne88-via-then-first_letter-ne88, then-first_letter-ne88-via-else-first_letter-ne88+then-byte_after-ne67}

pub returns-then-first_letter-ne88 : goal.returns-then-first_letter-ne88
returns-then-first_letter-ne88 c = elim c.then-first_letter-ne88.branch [
  | then-first_letter-ne88-via-then-first_letter-ne88 w ↦ other_first c.first_letter.ensures w.if-first_letter-ne88.true
  | then-first_letter-ne88-via-else-first_letter-ne88+then-byte_after-ne67 w ↦ other_second w.byte_after.ensures w.if-byte_after-ne67.true
]

pub returns-in_default : goal.returns-in_default
returns-in_default c = no_type c.body_at.ensures c.new.ensures c.in_default.ensures

pub returns-in_default-u32_le : goal.returns-in_default-u32_le
returns-in_default-u32_le c = no_count c.body_at.ensures c.new.ensures c.in-Ok.ensures c.in_default-u32_le.ensures

pub returns : goal.returns
returns c = set_read_at c.body_at.ensures c.new.ensures c.in-Ok.ensures (sym c.first_letter.ensures ∙ c.if-first_letter-ne88.false) (sym c.byte_after.ensures ∙ c.if-byte_after-ne67.false) c.in-Ok-u32_le.ensures
