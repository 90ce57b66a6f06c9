-- The spellings of bit vectors and their sorts, as their pieces are written one after another. Assumes nothing.
use mathlib.Core.Path.{◌≡◌, refl}
use mathlib.Core.List.{[], ◌∷◌, ◌++◌, append_assoc}
use Prim.Native.Nat.{ℕ}
use Rattle.script_spec.specs.Base.{bytes, joined}
use Rattle.script_spec.specs.Text.{decimal}
use Rattle.script_spec.specs.Command.{headed, spaced}
use Rattle.script_spec.specs.Spelling.{bit_vec, bit_vec_sort}

pub bit_vec_pieces : (n v : ℕ) → bytes "(_ bv" ++ (decimal v ++ (32 ∷ [] ++ (decimal n ++ (41 ∷ [])))) ≡ bit_vec n v
unfolding bytes bit_vec headed spaced joined
bit_vec_pieces n v = simp append_assoc

pub bit_vec_sort_pieces : (n : ℕ) → bytes "(_ BitVec " ++ (decimal n ++ (41 ∷ [])) ≡ bit_vec_sort n
unfolding bytes bit_vec_sort headed spaced joined
bit_vec_sort_pieces n = refl
