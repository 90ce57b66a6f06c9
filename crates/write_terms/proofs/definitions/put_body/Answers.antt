-- `write_terms::definitions::put_body` meets its contract: each body by its arm.
-- Assumes nothing.
use Rattle.write_terms.proofs.ApplicationLaws.{spells_ordinary, spells_compared}
use Rattle.write_terms.proofs.BodyLaws.{body_plain, body_some, body_set, body_record}
use Rattle.write_terms.proofs.DefinitionLaws.{body_as}
use Rattle.write_terms.specs.Definitions.{BodyIs}
use Rattle.write_terms.proofs.definitions.put_body.Goals as goal

pub returns-in-Plain : goal.returns-in-Plain
unfolding BodyIs
returns-in-Plain c = body_as c.in-Plain.is (body_plain c.put_body.ensures)

pub returns-in-Some : goal.returns-in-Some
unfolding BodyIs
returns-in-Some c = body_as c.in-Some.is (body_some c.put_some.ensures)

pub returns-in-Set : goal.returns-in-Set
unfolding BodyIs
returns-in-Set c = body_as c.in-Set.is (body_set c.put_set.ensures)

pub returns-in-Record : goal.returns-in-Record
unfolding BodyIs
returns-in-Record c = body_as c.in-Record.is (body_record c.put_record.ensures)

pub returns-in-Ordinary : goal.returns-in-Ordinary
unfolding BodyIs
returns-in-Ordinary c = body_as c.in-Ordinary.is (spells_ordinary c.put_operator.ensures)

pub returns-in-Comparison : goal.returns-in-Comparison
unfolding BodyIs
returns-in-Comparison c = body_as c.in-Comparison.is (spells_compared _ c.put_comparison.ensures)
