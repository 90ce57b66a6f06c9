-- `check_types::find` meets its contract: the search from the home of what is sought.
-- Assumes nothing.
use mathlib.Core.Path.{sym, ◌∙◌}
use Rattle.check_types.proofs.Probing.{type_missed, type_found}
use Rattle.check_types.proofs.find.Goals as goal

pub returns-in_err-ok : goal.returns-in_err-ok
returns-in_err-ok c = rw c.from_residual.ensures (λ o W. type_missed W (c.home-b.ensures o W) _ c.probe-found.ensures (sym c.ok.ensures.value ∙ c.in_err-ok.was))

pub returns : goal.returns
returns c = λ o W. type_found W (c.home-b.ensures o W) _ c.probe-found.ensures (sym c.ok.ensures.value ∙ c.in_ok-ok.was) c.get.ensures
