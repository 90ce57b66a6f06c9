-- The number mixed in, and the square folded.
-- Assumes nothing.
use mathlib.Core.Path.{ap, ◌∙◌}
use Prim.Native.Nat.{ℕ, ◌*◌}
use Rattle.index.specs.Names.{folded}
use Rattle.index_search.specs.Hash.{element}
use Rattle.index_search.proofs.sets.element.Goals as goal

pub returns : goal.returns
unfolding element
returns c = c.folded.ensures ∙ ap (λ (m : ℕ). folded (m * m)) c.mix_reference-m.ensures
