-- The first broken rule of a list of rules, one rule at a time.
-- Assumes nothing.
use mathlib.Core.Path.{◌≡◌, refl}
use Prim.Native.Nat.{ℕ}
use mathlib.Core.Bool.{Bool, true, false}
use mathlib.Core.List.{List, [], ◌∷◌}
use mathlib.Core.Option.{none, some}
use Rattle.script_spec.specs.File.{Rule, broken}

module _ (n : ℕ) {a : Bool} (rs : List Rule) where
  pub broken_here : a ≡ false → broken ((n, a) ∷ rs) ≡ some n
  unfolding broken
  broken_here e = rw (e, broken)

  pub broken_later : a ≡ true → broken ((n, a) ∷ rs) ≡ broken rs
  unfolding broken
  broken_later e = rw (e, broken)

pub none_broken : broken [] ≡ none
unfolding broken
none_broken = refl
