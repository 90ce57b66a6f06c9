-- `sakyelbo::answers::of_check` says each case by its numbers.
-- Assumes nothing.
use mathlib.Core.Path.{refl}
use Rattle.refusal.specs.Numbers.{answered}
use Rattle.check_file.specs.Promise.{checked_as}
use Rattle.sakyelbo.specs.Answers.{number_of, where_of}
use Rattle.sakyelbo.proofs.answers.of_check.Goals as goal

pub returns-in-Ok : goal.returns-in-Ok
unfolding number_of where_of answered checked_as
returns-in-Ok c = rw c.in-Ok.is (record { number = refl; at_is = refl })

pub returns-in-Err : goal.returns-in-Err
unfolding number_of where_of answered checked_as
returns-in-Err c = rw c.in-Err.is (record { number = c.number.ensures; at_is = refl })
