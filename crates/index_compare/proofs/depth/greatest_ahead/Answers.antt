-- `index_compare::depth::greatest_ahead` meets its contract: the greatest so far and what is ahead make the result.
-- Assumes nothing.
use Prim.Native.Nat.{ℕ, max}
use mathlib.Core.List.{List}
use mathlib.Core.Path.{ap, ◌∙◌}
use Rattle.index.specs.Rules.{greatest}
use Rattle.index_compare.specs.Step.{kind_number}
use Rattle.index_compare.proofs.Compared.{led_map}
use Rattle.index_compare.proofs.Depths.{greatest_end, greatest_next, numbers_plain}
use Rattle.index_compare.proofs.depth.greatest_ahead.Goals as goal

pub loop-s-preserved-in-Reference : goal.loop-s-preserved-in-Reference
loop-s-preserved-in-Reference c =
    let r = c.in-Reference in (
      tt,
      tt,
      rw c.larger-most.ensures (greatest_next (kind_number c.args.kind) c.loop-s.most r.found r.number (led_map _ c.in-Some.ensures.steps r.ensures)
          ∙ c.loop-s.invariant.2),
    )

pub loop-s-preserved : goal.loop-s-preserved
loop-s-preserved c = (
  tt,
  tt,
  ap (λ (ns : List ℕ). max c.loop-s.most (greatest ns)) (numbers_plain c.args.kind _ (led_map _ c.in-Some.ensures.steps c.in_default.ensures))
      ∙ c.loop-s.invariant.2,
)

pub returns : goal.returns
returns c = greatest_end (kind_number c.args.kind) c.loop-s.most (rw c.in-None.ensures.steps.0) ∙ c.loop-s.invariant.2
