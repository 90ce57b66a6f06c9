-- `walk_queries::lists::list_at` meets its contract: a list, or none where its rows don't fit or a place doesn't.
-- Assumes nothing.
use Prim.Native.Nat.{◌+◌}
use mathlib.Core.Path.{sym, subst}
use Rattle.index.specs.Cells.{number}
use Rattle.walk_queries.proofs.FillLaws.{Tried, tried_none, tried_rows, list_left, list_made}
use Rattle.index.proofs.Held.{stays_store}
use Rattle.walk_queries.proofs.lists.list_at.Goals as goal
use Rattle.walk_queries.proofs.lists.list_at.Goals.{else-among-ge-ENOUGH-via-else-among-ge-ENOUGH, else-among-ge-ENOUGH-via-then-among-ge-ENOUGH+in-None-1, else-among-ge-ENOUGH-via-then-among-ge-ENOUGH+in-Some+else-fill_rows}

pub returns-clause-stays : goal.returns-clause-stays
returns-clause-stays c = stays_store _ (number c.args.column) c.args.n (c.args.next + 1) c.fill_rows.ensures.stays c.set.ensures

pub returns-clause-made : goal.returns-clause-made
returns-clause-made c =
    list_made (number c.args.column) c.args.n c.args.among c.rows_of-rows.ensures c.in-Some.ensures.0 c.in-Some.ensures.1 c.fill_rows.ensures.stays c.fill_rows.ensures.made c.if-fill_rows.true c.set.ensures

tried : (c : goal.After-set-2) → Tried c.args.next c.args.records.now c.else-among-ge-ENOUGH.records
tried c = elim c.else-among-ge-ENOUGH.branch [
  | else-among-ge-ENOUGH-via-else-among-ge-ENOUGH w ↦ subst (Tried c.args.next c.args.records.now) (sym w.records-is) (tried_none c.args.next c.args.records.now)
  | else-among-ge-ENOUGH-via-then-among-ge-ENOUGH+in-None-1 w ↦ subst (Tried c.args.next c.args.records.now) (sym w.records-is) (tried_none c.args.next c.args.records.now)
  | else-among-ge-ENOUGH-via-then-among-ge-ENOUGH+in-Some+else-fill_rows w ↦ subst (Tried c.args.next c.args.records.now) (sym w.records-is) (tried_rows c.args.among w.in-Some.ensures.1 w.fill_rows.ensures.stays w.fill_rows.ensures.made)
]

pub returns-2-clause-stays : goal.returns-2-clause-stays
returns-2-clause-stays c = stays_store _ (number c.args.column) c.args.n 0 (tried c).stays c.set-2.ensures

pub returns-2-clause-made : goal.returns-2-clause-made
returns-2-clause-made c = list_left (number c.args.column) c.args.n c.args.among (tried c) c.set-2.ensures
