-- `write_text::comment::cut_text` meets its contract: the text is kept as far as the place reached, and the code points are counted.
-- Assumes nothing.
use native.Mathlib.Omega.{arith}
use Rattle.write_text.proofs.CutLaws.{begun_one, kept_more, kept_cut}
use Rattle.write_text.proofs.comment.cut_text.Goals as goal

pub overflow_add-next : goal.overflow_add-next
overflow_add-next c = record { fits = omega (arith, c.loop-end.invariant.few, begun_one _ c.begun.ensures) }

pub returns-then-next-gt-MOST : goal.returns-then-next-gt-MOST
returns-then-next-gt-MOST c = kept_cut c.loop-end-test.true c.begun.ensures c.loop-end.invariant c.if-next-gt-MOST.true

pub loop-end-preserved : goal.loop-end-preserved
loop-end-preserved c = kept_more c.loop-end-test.true c.begun.ensures c.loop-end.invariant c.if-next-gt-MOST.false
