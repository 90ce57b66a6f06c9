-- `index_compare::depth::greatest` meets its contract: by the shape of the record, or by the walk from the start of its body.
-- Assumes nothing.
use Rattle.index_compare.specs.Step.{kind_number}
use Rattle.index_compare.proofs.Opened.{greatest_sole, greatest_applied, greatest_listing, greatest_named, greatest_bare}
use Rattle.index_compare.proofs.depth.greatest.Goals as goal

pub returns-in-Some-Sole : goal.returns-in-Some-Sole
returns-in-Some-Sole c =
    let r = c.args.records in
    let shape = c.in-Some-Sole in
    greatest_sole r.work.now r.sizes.rows (kind_number c.args.kind) c.larger.ensures c.get.ensures (rw shape.field-0-is at shape.ensures)

pub returns-in-Some-Applied : goal.returns-in-Some-Applied
returns-in-Some-Applied c =
    let r = c.args.records in
    let shape = c.in-Some-Applied in
    greatest_applied r.work.now r.sizes.rows (kind_number c.args.kind) _ _ _ c.greatest_listed.ensures (rw shape.field-0-is at shape.ensures)

pub returns-in-Some-Listing : goal.returns-in-Some-Listing
returns-in-Some-Listing c =
    let r = c.args.records in
    let shape = c.in-Some-Listing in
    greatest_listing r.work.now r.sizes.rows (kind_number c.args.kind) _ _ c.greatest_listed-in-Some-Listing.ensures (rw shape.field-0-is at shape.ensures)

pub returns-in-Some-Named : goal.returns-in-Some-Named
returns-in-Some-Named c =
    let r = c.args.records in
    let shape = c.in-Some-Named in
    greatest_named r.work.now r.sizes.rows (kind_number c.args.kind) _ c.type_depth.ensures (rw shape.field-0-is at shape.ensures)

pub returns-in-Some-Bare : goal.returns-in-Some-Bare
returns-in-Some-Bare c =
    let r = c.args.records in
    let shape = c.in-Some-Bare in
    greatest_bare r.work.now r.sizes.rows (kind_number c.args.kind) (rw shape.field-0-is at shape.ensures)

pub returns-in-None : goal.returns-in-None
returns-in-None c = rw c.segments_at.ensures at c.greatest_ahead.ensures
