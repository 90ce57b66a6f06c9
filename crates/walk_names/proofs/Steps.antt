-- Laws of steps: one after the other, by what the first has come to; and one that is taken unless a test passes.
-- Assumes nothing.
use mathlib.Core.Path.{◌≡◌}
use mathlib.Core.Bool.{Bool, true, false}
use Prim.Native.Nat.{ℕ}
use Rattle.script_spec.specs.Tree.{Tm}
use Rattle.script_spec.specs.Walk.{State, went, stopped, Walk, ◌>>◌, unless}

-- a step after one that went
pub then_went : (w v : Walk) (s s' : State) → w s ≡ went s' → ◌>>◌ w v s ≡ v s'
unfolding ◌>>◌
then_went w v s s' e = rw (◌>>◌, e)

-- a step after one that stopped
pub then_stopped : (w v : Walk) (s : State) (n : ℕ) (t : Tm) (q : ℕ) → w s ≡ stopped n t q → ◌>>◌ w v s ≡ stopped n t q
unfolding ◌>>◌
then_stopped w v s n t q e = rw (◌>>◌, e)

-- a step that is taken unless the test passes
pub unless_known : (known : State → Bool) (w : Walk) (s : State) → known s ≡ true → unless known w s ≡ went s
unfolding unless
unless_known known w s e = rw (unless, e)

pub unless_new : (known : State → Bool) (w : Walk) (s : State) → known s ≡ false → unless known w s ≡ w s
unfolding unless
unless_new known w s e = rw (unless, e)
