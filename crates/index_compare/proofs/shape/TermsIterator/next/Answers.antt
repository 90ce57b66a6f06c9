-- `index_compare::shape::TermsIterator::next` meets its contract: the four bytes are the number.
-- Assumes nothing.
use Prim.Native.Nat.{ℕ, ◌-◌}
use native.Mathlib.Omega.{arith}
use mathlib.Core.Path.{sym, ap, ◌∙◌}
use mathlib.Core.List.{List, ◌∷◌}
use Rattle.index_compare.specs.Segment.{term_ref}
use Rattle.index_compare.specs.Machine.{items}
use Rattle.index_compare.specs.Shape.{terms_ahead}
use Rattle.index_compare.specs.declared.segments.Item.TheVariants.{Term}
use Rattle.index_compare.proofs.Steps.{part_after, fewer_left}
use Rattle.index_compare.proofs.Shapes.{terms_over, terms_short, terms_next}
use Rattle.index_compare.proofs.shape.TermsIterator.next.Goals as goal

pub returns-then-self-eq0-clause-steps : goal.returns-then-self-eq0-clause-steps
returns-then-self-eq0-clause-steps c = let e = terms_over c.args.self.now c.if-self-eq0.true in (e, e)

pub returns-in_err-n-clause-steps : goal.returns-in_err-n-clause-steps
unfolding terms_ahead
returns-in_err-n-clause-steps c = rw c.from_residual.ensures (let e = terms_short _ _ c.in_err-n.ensures in (e, e))

pub returns-clause-steps : goal.returns-clause-steps
unfolding terms_ahead
returns-clause-steps c =
    let t = c.args.self.now in
    terms_next t.left t.rest.now (omega arith) c.in_ok-n.ensures
    ∙ ap (λ (s : List ℕ). term_ref c.in_ok-n.n ∷ items Term (t.left - 1) s) (sym (part_after 4 t.rest.now))

pub returns-clause-goes : goal.returns-clause-goes
returns-clause-goes c = fewer_left terms_ahead term_ref _ (returns-clause-steps c)
