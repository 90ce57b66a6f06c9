-- `index_compare::record::same_mark` meets its contract: by the second bytes where the first agree.
-- Assumes nothing.
use Rattle.index.specs.Standing.{mark_at}
use Rattle.index_compare.proofs.Compared.{same_second, other_first}
use Rattle.index_compare.proofs.record.same_mark.Goals as goal

pub returns-then-first_letter : goal.returns-then-first_letter
unfolding mark_at
returns-then-first_letter c =
    rw (← c.first_letter.ensures, ← c.first_letter-2.ensures, ← c.byte_after-a.ensures, ← c.byte_after-b.ensures) (same_second c.if-first_letter.true)

pub returns-else-first_letter : goal.returns-else-first_letter
unfolding mark_at
returns-else-first_letter c =
    rw (← c.first_letter.ensures, ← c.first_letter-2.ensures) (other_first c.if-first_letter.false)
