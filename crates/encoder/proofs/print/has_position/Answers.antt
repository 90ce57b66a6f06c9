-- `encoder::print::has_position` meets its contract: three refusals have one.
-- Assumes nothing.
use Rattle.encoder.proofs.PrintLaws.{has_one, has_none}
use Rattle.encoder.proofs.print.has_position.Goals as goal

pub returns-in-HighId : goal.returns-in-HighId
returns-in-HighId c = has_one c.args.refusal c.in-HighId.is

pub returns-in_default : goal.returns-in_default
returns-in_default c = has_none c.args.refusal c.in_default.not-HighId c.in_default.not-HighString c.in_default.not-HighPattern
