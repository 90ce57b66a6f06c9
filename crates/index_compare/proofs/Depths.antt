-- The greatest and the first number of a kind among segments, taken one by one.
-- Assumes nothing.
use Prim.Native.Nat.{ℕ, max}
use native.Mathlib.Omega.{arith}
use mathlib.Core.Path.{◌≡◌, refl, sym, ap, ◌∙◌}
use mathlib.Core.Bool.{Bool, true, false}
use mathlib.Core.List.{List, [], ◌∷◌, map}
use denote.Enum.Bare.{sameb}
use lib.Dec.{eqb}
use lib.ListN.{get_or}
use Rattle.script_spec.specs.Base.{Bytes, collect}
use Rattle.index.specs.Cells.{cell, type_depth, term_depth}
use Rattle.index.specs.Rules.{greatest}
use Rattle.index_compare.specs.Segment.{Segment, plain, type_ref, fun_ref, term_ref, type_refs, term_refs}
use Rattle.index_compare.specs.Step.{kind_number, refer}
use Rattle.index_compare.specs.View.{kind_of, reference_number, term_as, viewed, of_kind, reference_numbers, larger}
use Rattle.index_compare.specs.contracts.segments.Referent.{the_type}
use Rattle.index_compare.specs.declared.segments.Referent.{Referent}
use Rattle.index_compare.specs.declared.segments.Referent.TheVariants as referent
use Rattle.index_compare.specs.declared.compare.View.TheVariants.{Depth}

-- ---- one number more

larger_kind : (b : Bool) (number most : ℕ) (ns : List ℕ) → max (greatest (of_kind b number (most ∷ []))) (greatest ns) ≡ max most (greatest (of_kind b number ns))
unfolding of_kind greatest
larger_kind true number most ns = omega arith
larger_kind false number most ns = omega arith

-- whether two references are to records of one kind
pub same_kind : (a b : Referent) → sameb the_type a b ≡ eqb (kind_number a) (kind_number b)
same_kind referent.Type referent.Type = refl
same_kind referent.Type referent.Fun = refl
same_kind referent.Type referent.Term = refl
same_kind referent.Fun referent.Type = refl
same_kind referent.Fun referent.Fun = refl
same_kind referent.Fun referent.Term = refl
same_kind referent.Term referent.Type = refl
same_kind referent.Term referent.Fun = refl
same_kind referent.Term referent.Term = refl

module _ (found : Referent) (number : ℕ) (kind : Referent) (most : ℕ) where
  pub larger_other : false ≡ sameb the_type found kind → most ≡ larger (kind_number found) number (kind_number kind) most
  unfolding larger of_kind greatest
  larger_other h = rw (← same_kind found kind, ← h) (omega arith)

  pub larger_same : true ≡ sameb the_type found kind → max number most ≡ larger (kind_number found) number (kind_number kind) most
  unfolding larger of_kind greatest
  larger_same h = rw (← same_kind found kind, ← h) (omega arith)

-- ---- a turn

pub first_end : (kind : ℕ) {l : List Segment} → l ≡ [] → 0 ≡ get_or (reference_numbers kind l) 0 0
unfolding reference_numbers
first_end kind e = rw e

module _ (kind : ℕ) (n : ℕ) (l : List Segment) where
  numbers_led : (r : Referent) → reference_numbers kind (refer r n ∷ l) ≡ of_kind (eqb (kind_number r) kind) n (reference_numbers kind l)
  unfolding reference_numbers kind_of reference_number
  numbers_led referent.Type = refl
  numbers_led referent.Fun = refl
  numbers_led referent.Term = refl

pub greatest_end : (kind most : ℕ) {l : List Segment} → l ≡ [] → most ≡ max most (greatest (reference_numbers kind l))
unfolding reference_numbers greatest
greatest_end kind most e = rw e (omega arith)

module _ {l m : List Segment} where
  pub greatest_next : (kind most : ℕ) (r : Referent) (n : ℕ) → l ≡ refer r n ∷ m
      → max (larger (kind_number r) n kind most) (greatest (reference_numbers kind m)) ≡ max most (greatest (reference_numbers kind l))
  unfolding larger
  greatest_next kind most r n e =
      larger_kind (eqb (kind_number r) kind) n most (reference_numbers kind m)
      ∙ ap (λ (ns : List ℕ). max most (greatest ns)) (sym (ap (reference_numbers kind) e ∙ numbers_led kind n m r))

  -- bytes have no number
  pub numbers_plain : (kind : Referent) (p : Bytes) → l ≡ plain p ∷ m → reference_numbers (kind_number kind) m ≡ reference_numbers (kind_number kind) l
  unfolding reference_numbers kind_of of_kind
  numbers_plain referent.Type p e = sym (ap (reference_numbers 2) e)
  numbers_plain referent.Fun p e = sym (ap (reference_numbers 3) e)
  numbers_plain referent.Term p e = sym (ap (reference_numbers 4) e)

  pub first_here : (kind r : Referent) (n : ℕ) → true ≡ sameb the_type r kind → l ≡ refer r n ∷ m → n ≡ get_or (reference_numbers (kind_number kind) l) 0 0
  unfolding of_kind
  first_here kind r n h e = rw (e, numbers_led (kind_number kind) n m r, ← same_kind r kind, ← h)

  pub first_next : (kind r : Referent) (n : ℕ) → false ≡ sameb the_type r kind → l ≡ refer r n ∷ m
      → reference_numbers (kind_number kind) m ≡ reference_numbers (kind_number kind) l
  unfolding of_kind
  first_next kind r n h e = rw (e, numbers_led (kind_number kind) n m r, ← same_kind r kind, ← h)

-- ---- types and terms

module _ (work : List ℕ) (k : ℕ) where
  pub numbers_types : (l : List Segment) → reference_numbers 2 (map (viewed work k Depth) l) ≡ map (cell work k type_depth) (type_refs l)
  unfolding reference_numbers of_kind kind_of reference_number viewed term_as type_refs collect
  numbers_types [] = refl
  numbers_types (plain p ∷ l) = numbers_types l
  numbers_types (type_ref n ∷ l) = ap (λ (ns : List ℕ). cell work k type_depth n ∷ ns) (numbers_types l)
  numbers_types (fun_ref n ∷ l) = numbers_types l
  numbers_types (term_ref n ∷ l) = numbers_types l

  pub numbers_terms : (l : List Segment) → reference_numbers 4 (map (viewed work k Depth) l) ≡ map (cell work k term_depth) (term_refs l)
  unfolding reference_numbers of_kind kind_of reference_number viewed term_as term_refs collect
  numbers_terms [] = refl
  numbers_terms (plain p ∷ l) = numbers_terms l
  numbers_terms (type_ref n ∷ l) = numbers_terms l
  numbers_terms (fun_ref n ∷ l) = numbers_terms l
  numbers_terms (term_ref n ∷ l) = ap (λ (ns : List ℕ). cell work k term_depth n ∷ ns) (numbers_terms l)
