-- A view by first equal records is a change of numbers.
-- Assumes nothing.
use Prim.Native.Nat.{ℕ}
use mathlib.Core.Path.{◌≡◌, refl, ap}
use mathlib.Core.List.{List, [], ◌∷◌, map}
use Rattle.index.specs.Cells.{cell, type_first, fun_first, term_first}
use Rattle.index_compare.specs.Segment.{Segment, plain, type_ref, fun_ref, term_ref, mapped}
use Rattle.index_compare.specs.View.{term_as, viewed}
use Rattle.index_compare.specs.declared.compare.View.TheVariants.{First}

pub viewed_first : (work : List ℕ) (k : ℕ) (l : List Segment) → map (viewed work k First) l ≡ map (mapped (cell work k type_first) (cell work k fun_first) (cell work k term_first)) l
unfolding viewed mapped term_as
viewed_first work k [] = refl
viewed_first work k (plain p ∷ l) = ap (λ (m : List Segment). plain p ∷ m) (viewed_first work k l)
viewed_first work k (type_ref n ∷ l) = ap (λ (m : List Segment). type_ref (cell work k type_first n) ∷ m) (viewed_first work k l)
viewed_first work k (fun_ref n ∷ l) = ap (λ (m : List Segment). fun_ref (cell work k fun_first n) ∷ m) (viewed_first work k l)
viewed_first work k (term_ref n ∷ l) = ap (λ (m : List Segment). term_ref (cell work k term_first n) ∷ m) (viewed_first work k l)
