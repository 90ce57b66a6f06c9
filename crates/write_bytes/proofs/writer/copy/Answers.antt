-- `write_bytes::writer::copy` meets its contract: after all turns the part is the text.
-- Assumes nothing.
use mathlib.Core.Path.{◌∙◌}
use native.Mathlib.Omega.{arith}
use lib.ListN.{length-set}
use Rattle.write_bytes.proofs.Put.{copied_more, copied_all}
use Rattle.write_bytes.proofs.writer.copy.Goals as goal

pub loop-i-preserved : goal.loop-i-preserved
loop-i-preserved c =
    let l = c.loop-i in
    (copied_more l.out c.args.s.now l.i (omega (arith, l.invariant.1)) (omega arith) l.invariant.0, length-set l.out l.i _ ∙ l.invariant.1)

pub returns : goal.returns
returns c =
    let l = c.loop-i in
    copied_all l.out c.args.s.now l.i (omega (arith, l.invariant.1)) (omega arith) l.invariant.0
