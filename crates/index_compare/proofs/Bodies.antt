-- The body of the record at an offset.
-- Assumes nothing.
use Prim.Native.Nat.{ℕ, ◌+◌, ◌-◌, ◌≤◌, ◌<◌}
use native.Mathlib.Omega.{arith}
use mathlib.Core.Path.{◌≡◌, sym, ap, ◌∙◌}
use mathlib.Core.List.{[], ◌∷◌}
use lib.ListN.{length, take, drop, get_or, drop_of_length-le}
use lib.Seq.{drop-drop, get_or-drop, take-nil}
use Rattle.script_spec.specs.Base.{Bytes}
use Rattle.script_spec.specs.Fields.{low, is_typed}
use Rattle.read_field.proofs.Laws.{four_at}
use Rattle.index.specs.Standing.{type_size, size_at, body_at}
use Rattle.index_compare.proofs.Steps.{part_after}

module _ (file : Bytes) (o : ℕ) where
  -- fewer than six bytes are left
  pub body_at_past : length file < o + 6 → [] ≡ body_at file o
  unfolding body_at
  body_at_past h = sym (ap (take (size_at file o)) (drop_of_length-le file {i = o + 6} (omega arith)) ∙ take-nil (size_at file o))

  size_there : 6 ≤ length (drop o file)
      → low (get_or (drop o file) 2 0 ∷ get_or (drop o file) 3 0 ∷ get_or (drop o file) 4 0 ∷ get_or (drop o file) 5 0 ∷ []) - type_size (is_typed (get_or (drop o file) 0 0)) ≡ size_at file o
  unfolding size_at
  size_there h =
      let zero : o + 0 ≡ o = omega arith in
      rw (four_at (drop o file) 2 (omega arith), drop-drop 2 o file, get_or-drop o file 0 0, zero)

  -- the six bytes that begin it tell how many follow
  pub body_at_part : {s body : Bytes} {size n : ℕ} → s ≡ drop o file → 6 ≤ length s
      → size ≡ low (get_or s 2 0 ∷ get_or s 3 0 ∷ get_or s 4 0 ∷ get_or s 5 0 ∷ []) → n ≡ size - type_size (is_typed (get_or s 0 0))
      → body ≡ take n (take (length s - 6) (drop 6 s)) → body ≡ body_at file o
  unfolding body_at
  body_at_part is h p q e = e ∙ rw (q, p, is, size_there (rw is at h), part_after 6 (drop o file), drop-drop 6 o file)
