-- `write_terms::arguments::put_arguments` meets its contract. The loop's invariant: what writes the children that are left writes all.
-- Assumes nothing.
use Rattle.index_entry.specs.Terms.{children_in}
use Rattle.write_terms.proofs.ArgumentLaws.{Left}
use Rattle.write_terms.proofs.arguments.put_arguments.Given as goal

abbrev pub invariant-loop-child : goal.invariant-loop-child
invariant-loop-child l = Left l.records (children_in l.fn.children) l.initial.w (children_in l.child-iterator) l.w
