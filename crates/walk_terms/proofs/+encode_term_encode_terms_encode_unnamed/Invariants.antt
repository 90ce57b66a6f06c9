-- `walk_terms::encode_term`, `walk_terms::encode_unnamed` and `walk_terms::encode_terms` meet their contracts: by recursion on the number, which
-- falls from a term to its children. The loop's invariant: the children that are left, after those that were encoded, make all.
-- Assumes nothing.
use Prim.Native.Nat.{◌+◌, ◌*◌}
use Rattle.index_entry.specs.Terms.{children_in}
use Rattle.walk_terms.proofs.Walking.{TermsLeft}
use Rattle.walk_terms.proofs.+encode_term_encode_terms_encode_unnamed.Given as goal

abbrev pub decreases-encode_term : goal.decreases-encode_term
decreases-encode_term l = l.n * 3 + 2

abbrev pub decreases-encode_terms : goal.decreases-encode_terms
decreases-encode_terms l = l.n * 3

abbrev pub decreases-encode_unnamed : goal.decreases-encode_unnamed
decreases-encode_unnamed l = l.n * 3 + 1

abbrev pub invariant-encode_terms-loop-child : goal.invariant-encode_terms-loop-child
invariant-encode_terms-loop-child l = TermsLeft l.n l.fn.walk l.walk (children_in l.child-iterator)
