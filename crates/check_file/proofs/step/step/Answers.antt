-- A record that is refused as it is read, and one that is entered.
-- Assumes nothing.
use Rattle.read_field.proofs.Laws.{handed_on}
use Rattle.check_file.proofs.Stepping.{step_bad, step_entered, step_refused}
use Rattle.check_file.proofs.step.step.Goals as goal

pub returns-in_err-record : goal.returns-in_err-record
returns-in_err-record c =
    rw (handed_on _ c.from_residual.ensures.1) (step_bad c.view.ensures c.read_next.ensures c.in_err-record.was)

pub returns-in_err-enter_next : goal.returns-in_err-enter_next
returns-in_err-enter_next c =
    rw (handed_on _ c.from_residual-in_err-enter_next.ensures.1) (step_refused c.view.ensures c.read_next.ensures c.in_ok-record.was c.enter_next.ensures c.in_err-enter_next.was)

pub returns : goal.returns
returns c = step_entered c.view.ensures c.read_next.ensures c.in_ok-record.was c.enter_next.ensures c.in_ok-enter_next.was
