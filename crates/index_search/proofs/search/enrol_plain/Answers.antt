-- The search from the home, and a slot where no equal record was met.
-- Assumes nothing.
use Rattle.index_search.proofs.Probing.{viewed, home_viewed}
use Rattle.index_search.proofs.Searching.{equal_viewed, enrolled_new, enrolled_old}
use Rattle.index_search.proofs.search.enrol_plain.Goals as goal

pub returns-in-Some : goal.returns-in-Some
returns-in-Some c =
    λ no_set.
    let S = c.searched-searched.ensures in
    rw (← S.table, ← S.offsets, ← S.firsts, ← S.count)
    (enrolled_old c.args.records.now _ _ no_set (home_viewed c.args.records.now c.view.result (viewed c.view.ensures) c.home-b.ensures) (equal_viewed _ _ c.in-Some.ensures.1 c.in-Some.ensures.2) c.get.ensures)

pub returns-in-None : goal.returns-in-None
returns-in-None c =
    λ no_set.
    let S = c.searched-searched.ensures in
    rw (← S.table, ← S.offsets, ← S.count)
    (enrolled_new c.args.records.now _ _ no_set (home_viewed c.args.records.now c.view.result (viewed c.view.ensures) c.home-b.ensures) (equal_viewed _ _ c.in-None.ensures.1 c.in-None.ensures.2))
