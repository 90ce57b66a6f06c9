-- `check_types::type_of` meets its contract: the search, or the type that the term refers to.
-- Assumes nothing.
use Rattle.check_types.specs.Sought.{part_at}
use Rattle.check_types.proofs.Search.{reference_sought, listed_sought}
use Rattle.check_types.proofs.type_of.Goals as goal

pub returns-in-Some : goal.returns-in-Some
returns-in-Some c = λ M. let S = c.in-Some.ensures M in listed_sought _ _ _ _ S.1 (c.find.ensures _ S.0)

pub returns-in-None : goal.returns-in-None
unfolding part_at
returns-in-None c = λ M. reference_sought _ _ _ _ c.octets.ensures (c.in-None.ensures M) c.first_reference.ensures
