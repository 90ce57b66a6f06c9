-- The first equal numbers of the two references.
-- Assumes nothing.
use lib.Dec.{eqb→eq}
use Rattle.check_rules.proofs.Noting.{none_earlier, maybe_earlier}
use Rattle.check_rules.proofs.repeats.same_earlier.Goals as goal

pub returns-then-v-eq0 : goal.returns-then-v-eq0
returns-then-v-eq0 c = none_earlier

pub returns : goal.returns
returns c = maybe_earlier c.if-v-eq0.false c.if-n-v.false c.first_at.ensures c.first_at-2.ensures (λ t. eqb→eq _ _ (rw t tt))
