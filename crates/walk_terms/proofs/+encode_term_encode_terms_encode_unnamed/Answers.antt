-- `walk_terms::encode_term`, `walk_terms::encode_unnamed` and `walk_terms::encode_terms` meet their contracts: by recursion on the number, which
-- falls from a term to its children. The loop's invariant: the children that are left, after those that were encoded, make all.
-- Assumes nothing.
use mathlib.Core.Path.{sym, ◌∙◌}
use Rattle.read_field.proofs.Laws.{handed_on}
use Rattle.walk_terms.proofs.Walking.{has_name, has_none, leaves_term, after_type, after_children, children_stop, terms_start, terms_on, terms_stop, terms_end, terms_never}
use Rattle.walk_terms.proofs.+encode_term_encode_terms_encode_unnamed.Goals as goal

pub encode_term-returns-then-is_some : goal.encode_term-returns-then-is_some
encode_term-returns-then-is_some t c = let v = c.view.ensures in leaves_term _ (has_name _ _ (rw (v.1, v.2) at c.get.ensures) (sym c.is_some.ensures ∙ c.if-is_some.true))

pub encode_term-returns : goal.encode_term-returns
encode_term-returns t c = let v = c.view.ensures in c.encode_unnamed.ensures.go (has_none _ _ (rw (v.1, v.2) at c.get.ensures) (sym c.is_some.ensures ∙ c.if-is_some.false))

pub encode_unnamed-returns-in_err-encode_terms : goal.encode_unnamed-returns-in_err-encode_terms
encode_unnamed-returns-in_err-encode_terms t c =
    rw (handed_on _ c.from_residual.ensures.1) (after_type c.encode_own_type.ensures (children_stop (rw c.in_err-encode_terms.was at c.encode_terms.ensures)))

pub encode_unnamed-returns : goal.encode_unnamed-returns
encode_unnamed-returns t c = after_type c.encode_own_type.ensures (after_children (rw c.in_ok-encode_terms.was at c.encode_terms.ensures) c.encode_new.ensures)

pub encode_terms-loop-child-init : goal.encode_terms-loop-child-init
encode_terms-loop-child-init t c = rw c.into_iter-child-iterator.ensures.into_iter_gives (terms_start c.to_encode-child-items.ensures)

pub encode_terms-returns-then-n-child : goal.encode_terms-returns-then-n-child
encode_terms-returns-then-n-child t c = terms_never c.loop-child.invariant c.in-Some.ensures.steps c.if-n-child.true

pub encode_terms-loop-child-preserved : goal.encode_terms-loop-child-preserved
encode_terms-loop-child-preserved t c = terms_on c.loop-child.invariant c.in-Some.ensures.steps c.if-n-child.false (rw c.in_ok-encode_term.was at c.encode_term.ensures)

pub encode_terms-returns-in_err-encode_term : goal.encode_terms-returns-in_err-encode_term
encode_terms-returns-in_err-encode_term t c =
    rw (handed_on _ c.from_residual.ensures.1) (terms_stop c.loop-child.invariant c.in-Some.ensures.steps c.if-n-child.false (rw c.in_err-encode_term.was at c.encode_term.ensures))

pub encode_terms-returns : goal.encode_terms-returns
encode_terms-returns t c = terms_end c.loop-child.invariant c.in-None.ensures.steps.0
