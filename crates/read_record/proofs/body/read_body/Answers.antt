-- By the kind of the mark, or refused where there is none.
-- Assumes nothing.
use Rattle.refusal.specs.Numbers.{number}
use Rattle.read_record.specs.Marks.{reader_if}
use Rattle.read_record.specs.Bodies.{verdict_as, read_by, body_read, marked_read}
use Rattle.read_record.proofs.body.read_body.Goals as goal

pub returns-in-None : goal.returns-in-None
unfolding marked_read read_by reader_if verdict_as number
returns-in-None c = rw c.in-None.is

pub returns-in-Some : goal.returns-in-Some
unfolding marked_read body_read reader_if
returns-in-Some c = rw c.in-Some.is c.read_under.ensures
