-- The answer by fill's, with the memory cleared on acceptance too.
-- Assumes nothing.
use mathlib.Core.Path.{ap, ◌∙◌}
use Prim.Native.Nat.{ℕ}
use lib.ListN.{replicate}
use Rattle.read_field.proofs.Laws.{handed_on}
use Rattle.check_file.proofs.Checking.{check_refused, check_accepted}
use Rattle.check_file.proofs.check.Goals as goal

pub returns-in_err-fill : goal.returns-in_err-fill
returns-in_err-fill c = rw (handed_on _ c.from_residual.ensures.1) (check_refused _ _ c.in_err-fill.ensures)

pub returns : goal.returns
returns c = check_accepted _ _ _ _ c.in_ok-fill.ensures (c.fill-2.ensures.after (λ y e. e) ∙ ap (λ (m : ℕ). replicate m 0) c.fill.auto.work)
