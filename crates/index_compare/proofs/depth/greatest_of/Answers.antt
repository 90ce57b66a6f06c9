-- `index_compare::depth::greatest_of` meets its contract: a reference is to a type, a function or a term.
-- Assumes nothing.
use native.Mathlib.Omega.{arith}
use Rattle.index_compare.proofs.Opened.{greatest_other}
use Rattle.index_compare.proofs.depth.greatest_of.Goals as goal

pub returns-in_default : goal.returns-in_default
returns-in_default c = greatest_other _ _ c.args.kind (λ e. omega arith) (λ e. omega arith) (λ e. omega arith) _
