-- `index_compare::opening::first_ahead` meets its contract: the first that is ahead stays the first.
-- Assumes nothing.
use Prim.Native.Nat.{ℕ}
use mathlib.Core.List.{List}
use mathlib.Core.Path.{ap, ◌∙◌}
use lib.ListN.{get_or}
use Rattle.index_compare.specs.declared.segments.Referent.TheVariants as referent
use Rattle.index_compare.proofs.Compared.{led_map}
use Rattle.index_compare.proofs.Depths.{first_end, first_here, first_next, numbers_plain}
use Rattle.index_compare.proofs.opening.first_ahead.Goals as goal

pub returns-then-eq : goal.returns-then-eq
returns-then-eq c =
    let r = c.in-Reference in
    first_here referent.Type r.found r.n c.if-eq.ensures (led_map _ c.in-Some.ensures.steps r.ensures) ∙ c.loop-s.invariant.2

pub loop-s-preserved-else-eq : goal.loop-s-preserved-else-eq
loop-s-preserved-else-eq c =
    let r = c.in-Reference in (
      tt,
      tt,
      ap (λ (ns : List ℕ). get_or ns 0 0) (first_next referent.Type r.found r.n c.if-eq.ensures (led_map _ c.in-Some.ensures.steps r.ensures))
          ∙ c.loop-s.invariant.2,
    )

pub loop-s-preserved : goal.loop-s-preserved
loop-s-preserved c =
    (tt, tt, ap (λ (ns : List ℕ). get_or ns 0 0) (numbers_plain referent.Type _ (led_map _ c.in-Some.ensures.steps c.in_default.ensures)) ∙ c.loop-s.invariant.2)

pub returns : goal.returns
returns c = first_end 2 (rw c.in-None.ensures.steps.0) ∙ c.loop-s.invariant.2
