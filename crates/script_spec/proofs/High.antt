-- The position of a refused text is that of its first high code point: by recursion on the code points.
-- Assumes nothing.
use Prim.Native.Nat.{ℕ, zero, suc}
use mathlib.Core.Path.{◌≡◌, refl, ap}
use mathlib.Core.Bool.{Bool, true, false, not}
use mathlib.Core.List.{List, [], ◌∷◌}
use mathlib.Core.Option.{Option, none, some, none-ne-some}
use Rattle.script_spec.specs.Base.{place, place_from}
use Rattle.script_spec.specs.Walk.{is_low, first_high}
use Rattle.script_spec.proofs.Laws.{never}

-- the code point at this position is too high, and none before it is
pub data FirstHighAt : List ℕ → ℕ → Type 0 where
  high_here : {c : ℕ} {cs : List ℕ} → is_low c ≡ false → FirstHighAt (c ∷ cs) zero
  high_later : {c : ℕ} {cs : List ℕ} {q : ℕ} → is_low c ≡ true → FirstHighAt cs q → FirstHighAt (c ∷ cs) (suc q)

pub first_high_at : (cs : List ℕ) (q : ℕ) → first_high cs ≡ some q → FirstHighAt cs q
unfolding first_high place place_from
first_high_at [] q h = absurd (none-ne-some q h)
first_high_at (c ∷ cs) q h = go (is_low c) refl (first_high cs) (first_high_at cs) q h
  where
    go : (b : Bool) → is_low c ≡ b → (o : Option ℕ) → ((m : ℕ) → o ≡ some m → FirstHighAt cs m) → (q : ℕ) → place_from (not b) o ≡ some q → FirstHighAt (c ∷ cs) q
    go false e o later zero k = high_here e
    go false e o later (suc q) k = never cc
    go true e none later q k = absurd (none-ne-some q k)
    go true e (some m) later zero k = never cc
    go true e (some m) later (suc q) k = let s : m ≡ q = cc in high_later e (later q (ap some s))
