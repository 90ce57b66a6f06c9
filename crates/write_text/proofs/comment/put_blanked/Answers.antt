-- `write_text::comment::put_blanked` meets its contract: each turn writes a run without control characters and the byte after it, as long as
-- the place is not past the limit. The measure is what is left of the text.
-- Assumes nothing.
use native.Mathlib.Omega.{arith}
use Rattle.write_bytes.proofs.Loop.{along_step, along_end, along_past}
use Rattle.write_text.proofs.Runs.{blanked_on, blanked_byte, blanked_end}
use Rattle.write_text.proofs.comment.put_blanked.Goals as goal

pub returns-then-s-from : goal.returns-then-s-from
returns-then-s-from c =
    along_end (blanked_on c.args.s.now c.loop-w.from c.loop-w.invariant.0 c.put_run-from.ensures.run c.put_run-from.ensures.written) (blanked_end _ _ c.if-s-from.true)

pub loop-w-preserved : goal.loop-w-preserved
loop-w-preserved c =
    (along_step (blanked_on c.args.s.now c.loop-w.from c.loop-w.invariant.0 c.put_run-from.ensures.run c.put_run-from.ensures.written) (blanked_byte _ _ c.blank.ensures c.if-s-from.false) c.put_byte.ensures, omega (arith, c.if-s-from.false))

pub returns : goal.returns
returns c = along_past c.loop-w.invariant.0 c.is_past.ensures c.loop-w-test.false
