-- The order of texts in the definitions is that of slices in the library.
-- Assumes nothing.
use mathlib.Core.Path.{◌≡◌, refl}
use mathlib.Core.Bool.{Bool, true, false, ◌&&◌, ◌||◌}
use mathlib.Core.List.{[], ◌∷◌}
use lib.Dec.{ltb, eqb}
use Rattle.std.specs.Prelude.{Option, Some, cond}
use Rattle.std.specs.declared.cmp.Ordering.{Ordering}
use Rattle.std.specs.declared.cmp.Ordering.TheVariants.{Less, Equal, Greater}
use Rattle.std.specs.Ordering.{is_lt, is_some_and, nat_cmp, partial_ordering_then}
use Rattle.std.specs.Cmp.Lexicographic.{slice_partial_cmp}
use Rattle.script_spec.specs.Base.{Bytes, before}

-- the first bytes decide, or else the others do
first_decides : (t u : Bool) (o : Option Ordering) (r : Bool) → is_some_and is_lt o ≡ r → is_some_and is_lt (partial_ordering_then (Some (cond t Less (cond u Equal Greater))) o) ≡ (t || (u && r))
first_decides true u o r h = refl
first_decides false true o r h = h
first_decides false false o r h = refl

pub before_is : (a b : Bytes) → is_some_and is_lt (slice_partial_cmp (λ x y. Some (nat_cmp x y)) a b) ≡ before a b
unfolding before
before_is [] [] = refl
before_is [] (y ∷ b) = refl
before_is (x ∷ a) [] = refl
before_is (x ∷ a) (y ∷ b) = first_decides (ltb x y) (eqb x y) (slice_partial_cmp (λ x y. Some (nat_cmp x y)) a b) (before a b) (before_is a b)
