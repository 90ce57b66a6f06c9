-- `walk_new::applications::define_app` meets its contract: by the operator, and each answer on a `Bvnego` by its arm.
-- Assumes nothing.
use Rattle.write_terms.specs.Definitions.{BodyIs}
use Rattle.walk_new.proofs.Introducing.{enters}
use Rattle.walk_new.proofs.ApplicationLaws.{app_other, app_false, app_comparison, app_ordinary}
use Rattle.walk_new.proofs.applications.define_app.Goals as goal

pub returns-then-not-is_nego : goal.returns-then-not-is_nego
returns-then-not-is_nego c = app_other c.is_nego.ensures c.if-not-is_nego.true c.define_ordinary.ensures

pub returns-in-Falsehood : goal.returns-in-Falsehood
returns-in-Falsehood c = let v = c.view.ensures in app_false (rw (v.0, v.1, v.2) at c.negation_of.ensures) c.in-Falsehood.is (enters c.enter.ensures)

pub returns-in-Comparison : goal.returns-in-Comparison
unfolding BodyIs
returns-in-Comparison c = let v = c.view.ensures in app_comparison (rw (v.0, v.1, v.2) at c.negation_of.ensures) c.in-Comparison.is c.define.ensures

pub returns-in-Ordinary : goal.returns-in-Ordinary
returns-in-Ordinary c = let v = c.view.ensures in app_ordinary (rw (v.0, v.1, v.2) at c.negation_of.ensures) c.in-Ordinary.is c.define_ordinary-in-Ordinary.ensures
