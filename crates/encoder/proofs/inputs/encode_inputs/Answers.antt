-- `encoder::inputs::encode_inputs` meets its contract: the loop has encoded the inputs before its count.
-- Assumes nothing.
use native.Mathlib.Omega.{arith}
use Rattle.read_field.proofs.Laws.{handed_on}
use Rattle.encoder.proofs.InputLaws.{encoding_start, encoding_on, encoding_stopped, encoding_end}
use Rattle.encoder.proofs.inputs.encode_inputs.Goals as goal

pub loop-i-init : goal.loop-i-init
loop-i-init c = encoding_start _

pub loop-i-preserved : goal.loop-i-preserved
loop-i-preserved c = encoding_on c.loop-i.invariant (omega (arith, c.loop-i-test.true)) c.get-n.ensures (rw c.in_ok-encode_term.was at c.encode_term.ensures)

pub returns-in_err-encode_term : goal.returns-in_err-encode_term
returns-in_err-encode_term c =
    let s = encoding_on c.loop-i.invariant (omega (arith, c.loop-i-test.true)) c.get-n.ensures (rw c.in_err-encode_term.was at c.encode_term.ensures) in
    rw (handed_on _ c.from_residual.ensures.1) (encoding_stopped s (omega (arith, c.loop-i-test.true)))

pub returns : goal.returns
returns c = encoding_end c.loop-i.invariant (omega (arith, c.loop-i-test.false))
