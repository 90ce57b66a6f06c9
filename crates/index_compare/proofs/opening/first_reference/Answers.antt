-- `index_compare::opening::first_reference` meets its contract: by what the mark tells, or else by the shape.
-- Assumes nothing.
use mathlib.Core.Path.{◌∙◌}
use Rattle.index_compare.specs.Machine.{walk_start}
use Rattle.index_compare.proofs.Shapes.{segments_by}
use Rattle.index_compare.proofs.Opened.{first_opened}
use Rattle.index_compare.proofs.opening.first_reference.Goals as goal

pub returns-in-Some : goal.returns-in-Some
returns-in-Some c =
    let r = c.args.records in
    rw (← segments_by r.file.now c.args.offset c.first_letter-a.ensures c.byte_after-b.ensures c.body_at-body.ensures) (c.first_cell.ensures
    ∙ first_opened c.body_at-body.result.now (walk_start c.first_letter-a.result c.byte_after-b.result) r.work.now r.sizes.rows c.in-Some.column c.in-Some.ensures)

pub returns-in-None : goal.returns-in-None
returns-in-None c =
    rw (← segments_by c.args.records.file.now c.args.offset c.first_letter-a.ensures c.byte_after-b.ensures c.body_at-body.ensures) c.first_shaped.ensures
