-- `walk_terms::children_at` meets its contract: each letter by its arm.
-- Assumes nothing.
use native.Mathlib.Omega.{arith}
use Rattle.walk_terms.proofs.ChildrenLaws.{some_at, app_at, set_at, record_at, leaf_at}
use Rattle.walk_terms.proofs.children_at.Goals as goal

pub returns-in-49 : goal.returns-in-49
returns-in-49 c = some_at c.letter_at.ensures c.in-49.is c.body_at-body.ensures c.alone.ensures

pub returns-in-65 : goal.returns-in-65
returns-in-65 c = app_at c.letter_at.ensures c.in-65.is c.body_at-body.ensures c.arguments.ensures

pub returns-in-67 : goal.returns-in-67
returns-in-67 c = set_at c.letter_at.ensures c.in-67.is c.body_at-body.ensures c.set_children.ensures

pub returns-in-82 : goal.returns-in-82
returns-in-82 c = record_at c.letter_at.ensures c.in-82.is c.body_at-body.ensures c.record_children.ensures

pub returns-in_default : goal.returns-in_default
returns-in_default c = leaf_at c.letter_at.ensures (λ h. omega arith) (λ h. omega arith) (λ h. omega arith) (λ h. omega arith) c.body_at-body.ensures c.none.ensures
