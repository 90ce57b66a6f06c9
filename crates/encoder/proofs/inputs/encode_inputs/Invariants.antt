-- `encoder::inputs::encode_inputs` meets its contract: the loop has encoded the inputs before its count.
-- Assumes nothing.
use Rattle.std.specs.Prelude.{Ok}
use Rattle.encoder.proofs.InputLaws.{Encoding}
use Rattle.encoder.proofs.inputs.encode_inputs.Given as goal

abbrev pub invariant-loop-i : goal.invariant-loop-i
invariant-loop-i l = Encoding l.initial.walk l.i l.walk (Ok tt)
