-- `index_compare::depth::greatest_listed` meets its contract: the type's depth, and then those of the terms.
-- Assumes nothing.
use Rattle.index_compare.specs.Step.{kind_number}
use Rattle.index_compare.specs.Shape.{terms_ahead}
use Rattle.index_compare.proofs.Opened.{greatest_listed}
use Rattle.index_compare.proofs.depth.greatest_listed.Goals as goal

pub returns : goal.returns
returns c =
    let a = (c).args in
    greatest_listed a.records.work.now a.records.sizes.rows (kind_number a.kind) a.t (terms_ahead a.terms) c.type_depth-most.ensures c.greatest_terms.ensures
