-- The tests in their order.
-- Assumes nothing.
use borrow.Author.Tests.{eq-eqb, ne_eqb, le-leb, lt-leb}
use Rattle.script_spec.specs.Tree.{wildcard}
use Rattle.read_field.specs.Reads.{is_element}
use Rattle.read_field.proofs.is_element.Goals as goal

pub returns-then-n-eq-WILDCARD : goal.returns-then-n-eq-WILDCARD
unfolding is_element wildcard
returns-then-n-eq-WILDCARD c = rw (eq-eqb _ _ c.if-n-eq-WILDCARD.true)

pub returns-then-n-le1114111 : goal.returns-then-n-le1114111
unfolding is_element wildcard
returns-then-n-le1114111 c = rw (ne_eqb _ _ c.if-n-eq-WILDCARD.false, le-leb _ _ c.if-n-le1114111.true, ← c.is_surrogate.ensures)

pub returns-else-n-le1114111 : goal.returns-else-n-le1114111
unfolding is_element wildcard
returns-else-n-le1114111 c = rw (ne_eqb _ _ c.if-n-eq-WILDCARD.false, lt-leb _ _ c.if-n-le1114111.false)
