-- Places in the rest of a list, and what an iterator's `position` answers, as places of the definitions.
-- Assumes nothing.
use mathlib.Core.Path.{◌≡◌, refl, sym, ap, ◌∙◌}
use mathlib.Core.Bool.{Bool, true, false, cond}
use mathlib.Core.List.{List, [], ◌∷◌}
use mathlib.Core.Option.{Option, none, some}
use Prim.Native.Nat.{ℕ, ◌+◌}
use native.Mathlib.Omega.{arith}
use Rattle.std.specs.Prelude.{Some}
use Rattle.std.specs.List.{position, position_from}
use Rattle.std.proofs.lemmas.Iterator.Adapters.{position_from-zero}
use Rattle.script_spec.specs.Base.{place, place_from}
use Rattle.refusal.specs.Numbers.{option_of}

-- a place in what is left after i elements, as a place in the whole
unfoldable pub after : ℕ → Option ℕ → Option ℕ
after i none = none
after i (some j) = some (i + j)

pub after_zero : (o : Option ℕ) → after 0 o ≡ o
unfolding after
after_zero none = refl
after_zero (some j) = ap some (omega arith)

pub after_one : (i : ℕ) (o : Option ℕ) → after i (place_from false o) ≡ after (i + 1) o
unfolding after place_from
after_one i none = refl
after_one i (some j) = ap some (omega arith)

pub after_here : (i : ℕ) {b : Bool} (o : Option ℕ) → b ≡ true → after i (place_from b o) ≡ some i
unfolding after place_from
after_here i o e = let all : i + 0 ≡ i = omega arith in rw e (ap some all)

module _ {A : Type 0} (test : A → Bool) where
  place_counted : (i : ℕ) (xs : List A) → option_of (position_from test i xs) ≡ after i (place test xs)
  unfolding place after
  place_counted i [] = refl
  place_counted i (x ∷ xs) = from (test x) (place_counted (i + 1) xs)
    where
      from : (b : Bool) → option_of (position_from test (i + 1) xs) ≡ after (i + 1) (place test xs) → option_of (cond b (Some i) (position_from test (i + 1) xs)) ≡ after i (place_from b (place test xs))
      from true h = sym (after_here i (place test xs) refl)
      from false h = h ∙ sym (after_one i (place test xs))

  -- what an iterator's `position` answers is the place of the first that passes
  pub place_position : (xs : List A) → option_of (position test xs) ≡ place test xs
  place_position xs = ap option_of (position_from-zero test xs) ∙ place_counted 0 xs ∙ after_zero (place test xs)
