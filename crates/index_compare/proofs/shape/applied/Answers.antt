-- `index_compare::shape::applied` meets its contract: the operator has no operand, so that the count is at a fixed place.
-- Assumes nothing.
use Prim.Native.Nat.{ℕ}
use mathlib.Core.Path.{sym, ap, ◌∙◌}
use mathlib.Core.List.{List, ◌∷◌}
use lib.ListN.{take, drop}
use Rattle.index_compare.specs.Segment.{plain, type_ref}
use Rattle.index_compare.specs.Machine.{items}
use Rattle.index_compare.specs.Shape.{terms_ahead}
use Rattle.index_compare.specs.declared.segments.Item.TheVariants.{Term}
use Rattle.index_compare.proofs.Steps.{part_after}
use Rattle.index_compare.proofs.Shapes.{is_none_of, applied_shown}
use Rattle.index_compare.proofs.shape.applied.Goals as goal

pub returns : goal.returns
unfolding terms_ahead
returns c =
    let s = c.args.body.now in
    applied_shown s (sym c.operand_of.ensures ∙ is_none_of _ c.if-is_some.ensures) c.in_ok-t.ensures c.in_ok-left.ensures
    ∙ ap (λ (r : List ℕ). type_ref c.in_ok-t.t ∷ plain (take 1 (drop 4 s)) ∷ plain (take 4 (drop 5 s)) ∷ items Term c.in_ok-left.left r) (sym (part_after 9 s))
