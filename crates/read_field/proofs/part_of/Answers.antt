-- The three tests leave an empty part, the rest of the file, and the part as it is asked for.
-- Assumes nothing.
use native.Mathlib.Nat.{add-sub_cancel_left}
use Rattle.read_field.proofs.Laws.{take_past, take_short}
use Rattle.read_field.proofs.part_of.Goals as goal

pub returns-then-file-start : goal.returns-then-file-start
returns-then-file-start c = take_past c.args.file.now c.args.start c.args.len c.if-file-start.true

pub returns-then-file-start-2 : goal.returns-then-file-start-2
returns-then-file-start-2 c = take_short c.args.file.now c.args.start c.args.len c.if-file-start-2.true

pub returns : goal.returns
returns c = rw add-sub_cancel_left
