-- What a note says of a term holds of each equal one: they have the same mark.
-- Assumes nothing.
use mathlib.Core.Path.{◌≡◌, ap}
use Prim.Native.Nat.{ℕ}
use lib.Dec.{T}
use Rattle.script_spec.specs.Tree.{Tm, Mark, Forest, node, StringLit, Entity, Enums, eq_tm}
use Rattle.script_spec.proofs.Equal.{eq_tm_parts}
use Rattle.walk_names.specs.Naming.{NoteSays}

-- a term that is equal to one of this mark has it too
marked : (t : Tm) (m : Mark) (ts : Forest Mark) → T (eq_tm t (node m ts)) → (us : Forest Mark) × (t ≡ node m us)
marked (node n us) m ts h = (us, ap (λ (k : Mark). node k us) (eq_tm_parts n m us ts h).0)

pub note_equal : {e : Enums} {t u : Tm} {v : ℕ} → T (eq_tm t u) → NoteSays e t v → NoteSays e u v
note_equal {t = t} h N =
    record {
      literal = λ s ts is. let p = marked t (StringLit s) ts (rw (← is) h) in N.literal s p.0 p.1;
      entity = λ ty id ts is. let p = marked t (Entity ty id) ts (rw (← is) h) in N.entity ty id p.0 p.1;
    }
