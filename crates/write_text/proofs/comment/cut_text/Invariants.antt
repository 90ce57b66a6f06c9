-- `write_text::comment::cut_text` meets its contract: the text is kept as far as the place reached, and the code points are counted.
-- Assumes nothing.
use Rattle.write_text.proofs.CutLaws.{Kept}
use Rattle.write_text.proofs.comment.cut_text.Given as goal

abbrev pub invariant-loop-end : goal.invariant-loop-end
invariant-loop-end l = Kept l.s l.points l.end l.sum
