-- By the first byte, and then by the second.
-- Assumes nothing.
use mathlib.Core.List.{[], ◌∷◌}
use Rattle.script_spec.specs.Base.{bytes, any, same}
use Rattle.read_record.specs.Marks.{MarkedAs, mark}
use Rattle.read_record.proofs.Marked.{names, unmarked, other_second, other_first}
use Rattle.read_record.proofs.mark.kind_of.Goals as goal

pub returns-in-84 : goal.returns-in-84
returns-in-84 c = rw c.in-84.is c.type_kind.ensures

pub returns-in-88 : goal.returns-in-88
returns-in-88 c = rw c.in-88.is c.term_kind.ensures

pub returns-in-78 : goal.returns-in-78
unfolding MarkedAs mark bytes
returns-in-78 c = record { is = rw (c.in-69.is, c.in-78.is) }

pub returns-in_default-b : goal.returns-in_default-b
unfolding MarkedAs mark names any same bytes
returns-in_default-b c = record { is = unmarked _ (rw c.in-69.is (other_second _ (78 ∷ []) search)) }

pub returns-in-70 : goal.returns-in-70
unfolding MarkedAs mark bytes
returns-in-70 c = record { is = rw (c.in-85.is, c.in-70.is) }

pub returns-in_default-b-2 : goal.returns-in_default-b-2
unfolding MarkedAs mark names any same bytes
returns-in_default-b-2 c = record { is = unmarked _ (rw c.in-85.is (other_second _ (70 ∷ []) search)) }

pub returns-in-78-b : goal.returns-in-78-b
unfolding MarkedAs mark bytes
returns-in-78-b c = record { is = rw (c.in-73.is, c.in-78-b.is) }

pub returns-in_default-b-3 : goal.returns-in_default-b-3
unfolding MarkedAs mark names any same bytes
returns-in_default-b-3 c = record { is = unmarked _ (rw c.in-73.is (other_second _ (78 ∷ []) search)) }

pub returns-in_default : goal.returns-in_default
unfolding MarkedAs mark names any same bytes
returns-in_default c = record { is = unmarked _ (other_first c.args.a (c.args.b ∷ []) names search) }
