-- Each mark by its second byte; other bytes are in no entry of the table.
-- Assumes nothing.
use mathlib.Core.List.{[], ◌∷◌}
use Rattle.script_spec.specs.Base.{bytes, any, same}
use Rattle.read_record.specs.Marks.{MarkedAs, mark}
use Rattle.read_record.proofs.Marked.{names, unmarked, other_second}
use Rattle.read_record.proofs.mark.term_kind.Goals as goal

pub returns-in-86 : goal.returns-in-86
unfolding MarkedAs mark bytes
returns-in-86 c = record { is = rw c.in-86.is }

pub returns-in-66 : goal.returns-in-66
unfolding MarkedAs mark bytes
returns-in-66 c = record { is = rw c.in-66.is }

pub returns-in-78 : goal.returns-in-78
unfolding MarkedAs mark bytes
returns-in-78 c = record { is = rw c.in-78.is }

pub returns-in-83 : goal.returns-in-83
unfolding MarkedAs mark bytes
returns-in-83 c = record { is = rw c.in-83.is }

pub returns-in-69 : goal.returns-in-69
unfolding MarkedAs mark bytes
returns-in-69 c = record { is = rw c.in-69.is }

pub returns-in-88 : goal.returns-in-88
unfolding MarkedAs mark bytes
returns-in-88 c = record { is = rw c.in-88.is }

pub returns-in-48 : goal.returns-in-48
unfolding MarkedAs mark bytes
returns-in-48 c = record { is = rw c.in-48.is }

pub returns-in-49 : goal.returns-in-49
unfolding MarkedAs mark bytes
returns-in-49 c = record { is = rw c.in-49.is }

pub returns-in-67 : goal.returns-in-67
unfolding MarkedAs mark bytes
returns-in-67 c = record { is = rw c.in-67.is }

pub returns-in-82 : goal.returns-in-82
unfolding MarkedAs mark bytes
returns-in-82 c = record { is = rw c.in-82.is }

pub returns-in-65 : goal.returns-in-65
unfolding MarkedAs mark bytes
returns-in-65 c = record { is = rw c.in-65.is }

pub returns-in_default : goal.returns-in_default
unfolding MarkedAs mark names any same bytes
returns-in_default c = record { is = unmarked _ (other_second c.args.b (86 ∷ 66 ∷ 78 ∷ 83 ∷ 69 ∷ 88 ∷ 48 ∷ 49 ∷ 67 ∷ 82 ∷ 65 ∷ []) search) }
