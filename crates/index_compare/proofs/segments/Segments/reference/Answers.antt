-- `index_compare::segments::Segments::reference` meets its contract: the four bytes are the number.
-- Assumes nothing.
use Prim.Native.Nat.{ℕ}
use mathlib.Core.Path.{sym, ap, ◌∙◌}
use mathlib.Core.List.{List, ◌∷◌}
use Rattle.index_compare.specs.Step.{refer}
use Rattle.index_compare.specs.Machine.{remaining, ahead}
use Rattle.index_compare.proofs.Steps.{reference_at, part_after}
use Rattle.index_compare.proofs.segments.Segments.reference.Goals as goal

pub returns-clause-gives : goal.returns-clause-gives
unfolding ahead
returns-clause-gives c =
    let s = c.args.self.now.rest.now in
    reference_at s (refer c.args.referent) (remaining c.args.then) c.in_ok-n.ensures
    ∙ ap (λ (r : List ℕ). refer c.args.referent c.in_ok-n.n ∷ remaining c.args.then r) (sym (part_after 4 s))
