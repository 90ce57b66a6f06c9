-- `termscript_run::respond`: the answer to the start that was read is the answer to the file.
use Rattle.std.proofs.Common.{arith}
use Rattle.termscript_run.proofs.RunLaws.{answered, on_ok}
use Rattle.termscript_run.proofs.respond.Goals as goal

pub returns : goal.returns
returns g c = on_ok c.answer.result (answered _ _ _ _ _ (λ h. c.in_ok-n.ensures.end (omega (arith, c.in_ok-n.ensures.bound.1, c.fill.auto.buf, h))) c.in_ok-n.ensures.bytes) c.answer.ensures
