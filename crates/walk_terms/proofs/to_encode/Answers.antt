-- `walk_terms::to_encode` meets its contract: none under the `false` of a `Bvnego`, or those of the record.
-- Assumes nothing.
use Rattle.walk_terms.proofs.ChildrenLaws.{encode_none, encode_all}
use Rattle.walk_terms.proofs.to_encode.Goals as goal

pub returns-in-Falsehood : goal.returns-in-Falsehood
returns-in-Falsehood c = let v = c.view.ensures in encode_none (rw (v.0, v.1, v.2) at c.negation_of.ensures) c.in-Falsehood.is c.none.ensures

pub returns-in_default : goal.returns-in_default
returns-in_default c = let v = c.view.ensures in encode_all (rw (v.0, v.1, v.2) at c.negation_of.ensures) c.in_default.not-Falsehood c.get.ensures c.children_at.ensures
