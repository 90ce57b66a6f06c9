-- The refusals before the first record, and the ways out after the records.
-- Assumes nothing.
use mathlib.Core.Path.{refl, sym, ap, ◌∙◌}
use native.Mathlib.Omega.{arith}
use Rattle.std.proofs.Common.{rules}
use Rattle.index.specs.declared.Sizes.{Sizes}
use Rattle.check_file.proofs.Loop.{begins}
use Rattle.check_file.proofs.Filling.{fills_long, fills_narrow, fills_done, fills_broken, reached}
use Rattle.check_file.proofs.fill.Goals as goal

pub returns-then-file-gt-MOST_BYTES : goal.returns-then-file-gt-MOST_BYTES
returns-then-file-gt-MOST_BYTES c = fills_long _ c.if-file-gt-MOST_BYTES.true c.refuse.ensures

pub returns-then-work-file : goal.returns-then-work-file
returns-then-work-file c = fills_narrow _ (omega arith) c.if-work-file.true c.refuse-then-work-file.ensures

pub enter_all-requires : goal.enter_all-requires
enter_all-requires c = begins c.begin.ensures (omega arith) (omega arith) c.capacity.ensures (record { types_none = refl; funs_none = refl; terms_none = refl; enums_none = refl; inputs_none = refl })

pub returns-in-Ok : goal.returns-in-Ok
returns-in-Ok c =
    let B = c.begin.ensures.stays in
    let E = c.in-Ok.ensures in
    fills_done _ _ (ap (λ x. x.now) B.file_is) (omega arith) (omega arith) E (ap (λ (s : Sizes). s.rows) B.sizes_are ∙ c.capacity.ensures)
    (reached (sym (c.enter_all.ensures.kept.lent ∙ B.lent)) (λ a. grind rules))

pub returns-in-Err : goal.returns-in-Err
returns-in-Err c =
    let B = c.begin.ensures.stays in
    let E = c.in-Err.ensures in
    fills_broken _ _ (ap (λ x. x.now) B.file_is) (omega arith) (omega arith) E c.together-place.ensures c.refuse-in-Err.ensures B.size
    (reached (sym (c.enter_all.ensures.kept.lent ∙ B.lent)) (λ a. grind rules))
