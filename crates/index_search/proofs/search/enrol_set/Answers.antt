-- The search from the home while the elements are noted, and a slot where no equal set was met.
-- Assumes nothing.
use Rattle.index_search.proofs.Probing.{viewed}
use Rattle.index_search.proofs.SetSearch.{probed, set_old, set_new}
use Rattle.index_search.proofs.search.enrol_set.Goals as goal

pub returns-in-Ok : goal.returns-in-Ok
returns-in-Ok c =
    λ o set.
    let v = c.args.records.now in
    let S = c.searched-searched.ensures in
    let H = rw (c.view.ensures.1, c.view.ensures.2) at c.set_hash-hash.ensures in
    let P = probed v c.args.table set H c.scale-b.ensures c.note-noted.ensures c.clear.ensures c.view-2.result (viewed c.view-2.ensures) c.get.ensures S.offsets c.in-Ok.ensures in
    rw (← S.table, ← S.firsts, ← S.count) (set_old v c.args.table set H c.scale-b.ensures c.note-noted.ensures c.clear.ensures P c.get-in-Ok.ensures)

pub returns-in-Err : goal.returns-in-Err
returns-in-Err c =
    λ o set.
    let v = c.args.records.now in
    let S = c.searched-searched.ensures in
    let H = rw (c.view.ensures.1, c.view.ensures.2) at c.set_hash-hash.ensures in
    let P = probed v c.args.table set H c.scale-b.ensures c.note-noted.ensures c.clear.ensures c.view-2.result (viewed c.view-2.ensures) c.get.ensures S.offsets c.in-Err.ensures in
    rw (← S.table, ← S.count) (set_new v c.args.table set H c.scale-b.ensures c.note-noted.ensures c.clear.ensures P c.take.ensures)
