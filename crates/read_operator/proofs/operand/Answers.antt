-- The four ranges of codes.
-- Assumes nothing.
use native.Mathlib.Omega.{arith}
use Rattle.read_operator.proofs.Again.{by_any, by_other}
use Rattle.read_operator.proofs.operand.Goals as goal

pub returns-then-code-lt-BVSMOD : goal.returns-then-code-lt-BVSMOD
returns-then-code-lt-BVSMOD g c = by_any _ _ (c.and_to_bvslt.ensures.go _ _)

pub returns-then-code-lt-EXT : goal.returns-then-code-lt-EXT
returns-then-code-lt-EXT g c = by_any _ _ (c.bvsmod_to_eq.ensures.go _ _)

pub returns-then-code-lt-RECORD_GET : goal.returns-then-code-lt-RECORD_GET
returns-then-code-lt-RECORD_GET g c = by_other _ _ _ (λ e. omega (arith, e, c.if-code-lt-RECORD_GET.true)) c.ext_to_or.ensures

pub returns : goal.returns
returns g c = c.record_get_to_zero_extend.ensures
