-- `index_entry::terms::ChildrenIterator::next` meets its contract: the first of the children.
-- Assumes nothing.
use Prim.Native.Nat.{◌-◌}
use native.Mathlib.Omega.{arith}
use Rattle.std.specs.Prelude.{Some}
use Rattle.index_compare.proofs.Steps.{fewer_left}
use Rattle.index_entry.specs.Terms.{children_in}
use Rattle.index_entry.proofs.ChildLaws.{no_children, first_child}
use Rattle.index_entry.proofs.terms.ChildrenIterator.next.Goals as goal

pub returns-then-self-eq0-clause-steps : goal.returns-then-self-eq0-clause-steps
returns-then-self-eq0-clause-steps c = let e = no_children c.args.self.now c.if-self-eq0.true in (e, e)

pub returns-clause-steps : goal.returns-clause-steps
returns-clause-steps c = first_child c.args.self.now c.place-at.result c.past-self.result (c.args.self.now.left - 1) c.place-at.ensures c.number_at-number.ensures c.past-self.ensures (omega (arith, c.if-self-eq0.false))

pub returns-clause-goes : goal.returns-clause-goes
returns-clause-goes c = fewer_left children_in (λ x. x) (Some _) (returns-clause-steps c)
