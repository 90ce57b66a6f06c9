-- `walk_queries::positions::find` meets its contract: by a scan where there is no list.
-- Assumes nothing.
use native.Mathlib.Omega.{arith}
use Rattle.walk_queries.proofs.positions.find.Goals as goal

pub returns-in-Some : goal.returns-in-Some
returns-in-Some c = record { go = λ h. (c.find_listed.ensures).go (h _ (omega (arith, c.in-Some.ensures.0, c.in-Some.ensures.1))) }
