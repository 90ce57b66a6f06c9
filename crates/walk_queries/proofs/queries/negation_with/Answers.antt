-- `walk_queries::queries::negation_with` meets its contract: one argument, and a result of type Bool.
-- Assumes nothing.
use Rattle.walk_queries.proofs.NegationLaws.{with_not_one, with_other, with_one}
use Rattle.walk_queries.proofs.queries.negation_with.Goals.{then-c-ne1-via-then-c-ne1, then-c-ne1-via-else-c-ne1+then-not-is_bool}
use native.Mathlib.Omega.{arith}
use mathlib.Core.Path.{ap}
use lib.ListN.{length}
use Rattle.index_entry.proofs.ChildLaws.{length_children}
use Rattle.walk_queries.proofs.queries.negation_with.Goals as goal

pub returns-then-c-ne1 : goal.returns-then-c-ne1
returns-then-c-ne1 c = elim c.then-c-ne1.branch [
  | then-c-ne1-via-then-c-ne1 w ↦ with_not_one w.if-c-ne1.true
  | then-c-ne1-via-else-c-ne1+then-not-is_bool w ↦ with_other w.is_bool.ensures w.if-not-is_bool.true
]

pub returns-in-Some : goal.returns-in-Some
returns-in-Some c = with_one c.next.new.self c.if-c-ne1.false c.is_bool.ensures c.if-not-is_bool.false c.in-Some.ensures.steps c.get.ensures c.negation_over.ensures

pub returns-in-None : goal.returns-in-None
returns-in-None c = with_not_one (λ e. absurd (omega (arith, ap length c.in-None.ensures.steps.0, length_children c.args.c)))
