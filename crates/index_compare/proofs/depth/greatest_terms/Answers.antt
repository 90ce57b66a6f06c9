-- `index_compare::depth::greatest_terms` meets its contract: the greatest so far and the references that are left make the result.
-- Assumes nothing.
use mathlib.Core.Path.{◌∙◌}
use Rattle.index_compare.specs.Step.{kind_number}
use Rattle.index_compare.proofs.Opened.{greatest_none, greatest_turn}
use Rattle.index_compare.proofs.depth.greatest_terms.Goals as goal

pub loop-n-preserved : goal.loop-n-preserved
loop-n-preserved c =
    let a = c.args in
    (tt, tt, greatest_turn a.records.work.now a.records.sizes.rows (kind_number a.kind) c.loop-n.found c.larger-found.ensures c.get-depth.ensures c.in-Some.ensures.steps ∙ c.loop-n.invariant.2)

pub returns : goal.returns
returns c =
    let a = c.args in
    greatest_none a.records.work.now a.records.sizes.rows (kind_number a.kind) c.loop-n.found c.in-None.ensures.steps.0 ∙ c.loop-n.invariant.2
