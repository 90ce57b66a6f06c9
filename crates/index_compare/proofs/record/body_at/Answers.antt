-- `index_compare::record::body_at` meets its contract: the body is what follows the six bytes that begin the record.
-- Assumes nothing.
use native.Mathlib.Omega.{arith}
use mathlib.Core.Path.{◌∙◌}
use Rattle.index_compare.proofs.Steps.{part_after}
use Rattle.index_compare.proofs.Bodies.{body_at_past, body_at_part}
use Rattle.index_compare.proofs.record.body_at.Goals as goal

pub returns-in_default : goal.returns-in_default
returns-in_default c = body_at_past c.args.file.now c.args.offset (omega (arith, c.in_default.ensures.lookup))

pub returns-in_default-record : goal.returns-in_default-record
returns-in_default-record c = body_at_past c.args.file.now c.args.offset (omega (arith, c.in-Some.ensures.lookup, c.in_default-record.len_below))

pub returns : goal.returns
returns c =
    let file = c.args.file.now in
    let o = c.args.offset in
    body_at_part file o (c.in-Some.ensures.lookup.0.2 ∙ part_after o file) c.in-len6-up.len_at_least c.word-size.ensures
    (c.saturating_sub-n.ensures ∙ rw (c.type_size.ensures, c.is_typed.ensures)) c.part_of.ensures
