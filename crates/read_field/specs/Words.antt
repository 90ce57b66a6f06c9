-- Numbers of four bytes each, one after the other; and the elements of a pattern.
-- Assumes nothing.
use Rattle.std.specs.Prelude.{ℕ, zero, suc, ◌/◌, List, [], ◌∷◌, length, take, drop}
use Rattle.script_spec.specs.Base.{Bytes}
use Rattle.script_spec.specs.Fields.{low}

-- n numbers of four bytes each, low byte first
unfoldable pub words : ℕ → Bytes → List ℕ
words zero s = []
words (suc n) s = low (take 4 s) ∷ words n (drop 4 s)

-- the elements of a pattern; fewer than four bytes at the end are none
unfoldable pub elements : Bytes → List ℕ
elements s = words (length s / 4) s
