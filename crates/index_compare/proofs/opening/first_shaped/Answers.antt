-- `index_compare::opening::first_shaped` meets its contract: the type of a variable is after its text.
-- Assumes nothing.
use Rattle.index_compare.proofs.Opened.{first_named}
use Rattle.index_compare.proofs.opening.first_shaped.Goals as goal

pub returns-in-Some-Named : goal.returns-in-Some-Named
returns-in-Some-Named c =
    let r = c.args.records in
    let named = c.in-Some-Named in
    first_named r.work.now r.sizes.rows c.get.ensures (rw named.field-0-is at named.ensures)

pub returns-in_default : goal.returns-in_default
returns-in_default c = rw c.of.ensures at c.first_ahead.ensures
