-- The place of the first element that passes, where all that pass stand in a part of the list. By recursion on the list.
-- Assumes nothing.
use Prim.Native.Nat.{ℕ, zero, suc, ◌+◌, ◌<◌, ◌≤◌}
use native.Mathlib.Omega.{arith}
use mathlib.Core.Path.{◌≡◌, refl, sym, ap, ◌∙◌}
use mathlib.Core.Bool.{Bool, true, false}
use mathlib.Core.List.{List, [], ◌∷◌}
use mathlib.Core.Option.{Option, none, some}
use lib.ListN.{length, take, drop, get_or}
use Rattle.script_spec.specs.Base.{place, place_from}
use Rattle.script_spec.proofs.Laws.{never}
use Rattle.refusal.proofs.Options.{after, after_zero}

after_suc : (a : ℕ) (o : Option ℕ) → place_from false (after a o) ≡ after (suc a) o
unfolding after place_from
after_suc a none = refl
after_suc a (some n) = ap some (omega arith)

module _ {A : Type 0} (p : A → Bool) (d : A) where
  -- none of the first a elements passes, nor any after the next m
  pub place_window : (xs : List A) (a m : ℕ) → ((i : ℕ) → i < a → i < length xs → p (get_or xs i d) ≡ false) → ((i : ℕ) → a + m ≤ i → i < length xs → p (get_or xs i d) ≡ false)
      → place p xs ≡ after a (place p (take m (drop a xs)))
  unfolding place place_from after
  place_window [] zero zero before behind = refl
  place_window [] zero (suc m) before behind = refl
  place_window [] (suc a) zero before behind = refl
  place_window [] (suc a) (suc m) before behind = refl
  place_window (x ∷ xs) zero zero before behind =
      ap (λ (b : Bool). place_from b (place p xs)) (behind 0 (omega arith) (omega arith))
      ∙ ap (place_from false) (place_window xs zero zero (λ i g l. absurd (omega arith)) (λ i g l. behind (suc i) (omega arith) (omega arith)))
  place_window (x ∷ xs) zero (suc m) before behind =
      ap (place_from (p x)) (place_window xs zero m (λ i g l. absurd (omega arith)) (λ i g l. behind (suc i) (omega arith) (omega arith)) ∙ after_zero (place p (take m xs)))
      ∙ sym (after_zero (place_from (p x) (place p (take m xs))))
  place_window (x ∷ xs) (suc a) m before behind =
      ap (λ (b : Bool). place_from b (place p xs)) (before 0 (omega arith) (omega arith))
      ∙ ap (place_from false) (place_window xs a m (λ i g l. before (suc i) (omega arith) (omega arith)) (λ i g l. behind (suc i) (omega arith) (omega arith)))
      ∙ after_suc a (place p (take m (drop a xs)))

  -- a place is one of the list's
  pub place_below : (xs : List A) (n : ℕ) → place p xs ≡ some n → n < length xs
  unfolding place place_from
  place_below [] n h = never cc
  place_below (x ∷ xs) n h = go (p x) (place p xs) n h (λ k e. place_below xs k e)
    where
      go : (b : Bool) (o : Option ℕ) (n : ℕ) → place_from b o ≡ some n → ((k : ℕ) → o ≡ some k → k < length xs) → n < suc (length xs)
      go true o n e f = let z : 0 ≡ n = cc in omega arith
      go false none n e f = never cc
      go false (some k) n e f = let z : suc k ≡ n = cc in omega (arith, f k refl)
