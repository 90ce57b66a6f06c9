-- Whether the first equal numbers of a list all have a note: asked of one reference after the other.
-- Assumes nothing.
use mathlib.Core.Path.{◌≡◌, refl, sym, ap, ◌∙◌}
use Prim.Native.Nat.{ℕ, ◌+◌, ◌<◌}
use native.Mathlib.Omega.{arith}
use mathlib.Core.Bool.{true, false}
use mathlib.Core.List.{List}
use borrow.Author.Count.{below_more}
use Rattle.script_spec.specs.Base.{Bytes}
use Rattle.index.specs.Cells.{cell, note}
use Rattle.index_compare.specs.View.{Decides}
use Rattle.index_compare.proofs.Compared.{decides_not}
use Rattle.check_rules.specs.Repeats.{first_at, AllNoted}

module _ {body : Bytes} {work : List ℕ} {k from : ℕ} where
  pub none_asked : AllNoted body work k from 0
  none_asked = record { go = λ i l. absurd (omega arith) }

  module _ {i f n : ℕ} (e : f ≡ first_at body work k from i) (q : n ≡ cell work k note f) where
    pub asked_more : AllNoted body work k from i → (n ≡ 0 → ⊥) → AllNoted body work k from (i + 1)
    asked_more A z = record { go = below_more (λ j. cell work k note (first_at body work k from j) ≡ 0 → ⊥) i A.go (λ t. z (q ∙ ap (cell work k note) e ∙ t)) }

    pub one_lacks : {count : ℕ} → i < count → n ≡ 0 → Decides false (AllNoted body work k from count)
    one_lacks l z = decides_not (λ A. A.go i l (ap (cell work k note) (sym e) ∙ sym q ∙ z))

  pub all_asked : {i count : ℕ} → AllNoted body work k from i → i ≡ count → Decides true (AllNoted body work k from count)
  all_asked A e = record { true_of = λ h. refl; of_true = λ t. rw (← e) A }
