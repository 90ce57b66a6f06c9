-- `sakyelbo::answers::of_encode` says each case by its numbers.
-- Assumes nothing.
use mathlib.Core.Path.{ap}
use Rattle.refusal.specs.Numbers.{answered}
use Rattle.check_file.specs.Promise.{checked_as}
use Rattle.encoder.specs.Promise.{encoded_as}
use Rattle.sakyelbo.specs.Answers.{number_of, where_of}
use Rattle.sakyelbo.proofs.Laws.{says_length, says_refusal}
use Rattle.sakyelbo.proofs.answers.of_encode.Goals as goal

pub returns-in-Ok-clause-size : goal.returns-in-Ok-clause-size
unfolding answered checked_as number_of
returns-in-Ok-clause-size c = rw c.of_check.ensures.number (says_length (ap encoded_as c.in-Ok.is))

pub returns-in-Ok-clause-at : goal.returns-in-Ok-clause-at
unfolding answered checked_as where_of
returns-in-Ok-clause-at c = rw c.in-Ok.is c.of_check.ensures.at_is

pub returns-in-Err-clause-size : goal.returns-in-Err-clause-size
unfolding answered checked_as number_of
returns-in-Err-clause-size c = says_refusal (ap encoded_as c.in-Err.is) c.of_check-in-Err.ensures.number

pub returns-in-Err-clause-at : goal.returns-in-Err-clause-at
unfolding answered checked_as where_of
returns-in-Err-clause-at c = rw c.in-Err.is c.of_check-in-Err.ensures.at_is
