-- `sakyelbo::answers::of_command` says each case by its numbers.
-- Assumes nothing.
use mathlib.Core.Path.{ap}
use Rattle.write_bytes.specs.Writing.{answer}
use Rattle.sakyelbo.proofs.Laws.{says_length, says_refusal}
use Rattle.sakyelbo.proofs.answers.of_command.Goals as goal

pub returns-in-Ok : goal.returns-in-Ok
unfolding answer
returns-in-Ok c = says_length (ap answer c.in-Ok.is)

pub returns-in-Err : goal.returns-in-Err
unfolding answer
returns-in-Err c = says_refusal (ap answer c.in-Err.is) c.number.ensures
