-- Terms that differ: what one element and the others decide.
-- Assumes nothing.
use mathlib.Core.Path.{◌≡◌, refl, sym, ◌∙◌}
use Prim.Native.Nat.{ℕ}
use mathlib.Core.Bool.{Bool, true, false}
use mathlib.Core.List.{List, [], ◌∷◌}
use borrow.Author.Tests.{eq-eqb, ne_eqb}
use Rattle.script_spec.specs.Base.{any}
use Rattle.index.specs.Cells.{cell, term_first}
use Rattle.index.specs.Rules.{different}
use Rattle.check_rules.specs.Tests.{any_first, different_terms}

module _ (work : List ℕ) (k : ℕ) where
  pub any_none : (n : ℕ) → false ≡ any_first work k n []
  unfolding any_first any
  any_none n = refl

  module _ (m : ℕ) {r : ℕ} (is : r ≡ cell work k term_first m) where
    pub any_here : {n : ℕ} → r ≡ n → (rs : List ℕ) → any_first work k n (m ∷ rs) ≡ true
    unfolding any_first any
    any_here {n} e rs = rw (eq-eqb n (cell work k term_first m) (sym e ∙ is))

    pub any_later : {n : ℕ} → (r ≡ n → ⊥) → (rs : List ℕ) → any_first work k n (m ∷ rs) ≡ any_first work k n rs
    unfolding any_first any
    any_later {n} e rs = rw (ne_eqb n (cell work k term_first m) (λ q. e (is ∙ sym q)))

    pub differ_next : (rs : List ℕ) {b : Bool} → b ≡ any_first work k r rs → b ≡ false → different_terms work k (m ∷ rs) ≡ different_terms work k rs
    unfolding any_first different_terms different
    differ_next rs h e = rw (← is, ← h, e)

    pub differ_stop : (rs : List ℕ) {b : Bool} → b ≡ any_first work k r rs → b ≡ true → different_terms work k (m ∷ rs) ≡ false
    unfolding any_first different_terms different
    differ_stop rs h e = rw (← is, ← h, e)

  pub differ_none : true ≡ different_terms work k []
  unfolding different_terms different
  differ_none = refl
