-- The first type and the greatest depth among a record's references, told with no walk.
-- Assumes nothing.
use Prim.Native.Nat.{ℕ, max}
use native.Mathlib.Omega.{arith}
use mathlib.Core.Path.{◌≡◌, refl, sym, ap, ◌∙◌}
use mathlib.Core.Logic.{inl, inr}
use mathlib.Core.Bool.{Bool, true, false}
use mathlib.Core.List.{List, [], ◌∷◌, map}
use lib.Dec.{leb, eqb}
use borrow.Author.Tests.{ne_eqb}
use lib.ListN.{length, take, drop, get_or}
use Rattle.std.specs.Prelude.{Some}
use Rattle.script_spec.specs.Base.{Bytes}
use Rattle.script_spec.specs.Fields.{low}
use Rattle.index.specs.Cells.{number, cell, type_first, type_depth, term_type, term_depth}
use Rattle.index.specs.Rules.{greatest}
use Rattle.index.specs.declared.Column.{Column}
use Rattle.index_compare.specs.Segment.{Segment, plain, type_ref, fun_ref, term_ref}
use Rattle.index_compare.specs.Machine.{Then, reference, field_then, last, remaining}
use Rattle.index_compare.specs.declared.segments.Walk.{Walk}
use Rattle.index_compare.proofs.Steps.{reference_short, reference_at}
use Rattle.index_compare.specs.View.{kind_of, reference_number, of_kind, reference_numbers, larger, viewed, term_as}
use Rattle.index_compare.specs.Shape.{Opens, first_cell}
use Rattle.index_compare.specs.declared.compare.View.TheVariants.{Listed, Depth}
use Rattle.index_compare.specs.declared.segments.Referent.TheVariants as referent
use Rattle.index_compare.proofs.Compared.{led_map}
use Rattle.index_compare.proofs.Depths.{greatest_end, greatest_next}

-- ---- the reference at the start of a body

module _ (body : Bytes) (work : List ℕ) (k column : ℕ) where
  pub cell_short : leb 4 (length body) ≡ false → first_cell body work k column ≡ 0
  unfolding first_cell
  cell_short h = rw (h, first_cell)

  pub cell_value : {n : ℕ} → leb 4 (length body) ≡ true → n ≡ low (take 4 body) → first_cell body work k column ≡ cell work k column n
  unfolding first_cell
  cell_value h e = rw (h, e, first_cell)

  -- for every first number f of segments that is that of the reference, where there is one
  first_reference : (f : List Segment → ℕ) (wrap : ℕ → Segment) (next : Then) → 0 ≡ f [] → ((n : ℕ) (l : List Segment) → cell work k column n ≡ f (wrap n ∷ l))
      → (b : Bool) → leb 4 (length body) ≡ b → first_cell body work k column ≡ f (reference wrap next body)
  first_reference f wrap next none one false h = cell_short h ∙ none ∙ ap f (sym (reference_short body wrap next h))
  first_reference f wrap next none one true h =
      let n = low (take 4 body) in
      cell_value h refl ∙ one n (next (drop 4 body)) ∙ ap f (sym (reference_at body wrap next {n = n} (h, refl)))

module _ (body : Bytes) (w : Walk) (work : List ℕ) (k : ℕ) where
  rest : Then
  rest = field_then w.second (last w.counts w.item w.left) (last w.counts w.item w.left)

  first_of_type : (n : ℕ) (l : List Segment) → cell work k type_first n ≡ get_or (reference_numbers 2 (map (viewed work k Listed) (type_ref n ∷ l))) 0 0
  unfolding reference_numbers viewed kind_of reference_number of_kind
  first_of_type n l = refl

  first_of_term : (n : ℕ) (l : List Segment) → cell work k term_type n ≡ get_or (reference_numbers 2 (map (viewed work k Listed) (term_ref n ∷ l))) 0 0
  unfolding reference_numbers viewed term_as kind_of reference_number of_kind
  first_of_term n l = refl

  first_of_none : 0 ≡ get_or (reference_numbers 2 (map (viewed work k Listed) [])) 0 0
  unfolding reference_numbers
  first_of_none = refl

  pub first_opened : (c : Column) → Opens w (Some c)
      → first_cell body work k (number c) ≡ get_or (reference_numbers 2 (map (viewed work k Listed) (remaining w body))) 0 0
  unfolding rest remaining field_then
  first_opened c (inl h) =
      let f : List Segment → ℕ = λ l. get_or (reference_numbers 2 (map (viewed work k Listed) l)) 0 0 in
      rw (h.0, h.1) (first_reference body work k type_first f type_ref rest first_of_none first_of_type (leb 4 (length body)) refl)
  first_opened c (inr h) =
      let f : List Segment → ℕ = λ l. get_or (reference_numbers 2 (map (viewed work k Listed) l)) 0 0 in
      rw (h.0, h.1) (first_reference body work k term_type f term_ref rest first_of_none first_of_term (leb 4 (length body)) refl)

-- the reference after a text
pub first_named : (work : List ℕ) (k : ℕ) {t number : ℕ} {p : Bytes} {l : List Segment} → number ≡ cell work k type_first t → l ≡ plain p ∷ type_ref t ∷ []
    → number ≡ get_or (reference_numbers 2 (map (viewed work k Listed) l)) 0 0
unfolding reference_numbers viewed kind_of reference_number of_kind
first_named work k q e = rw (q, e)

-- ---- the greatest depth

module _ (work : List ℕ) (k kind : ℕ) where
  -- with one reference more
  greatest_type : (t most : ℕ) (l : List Segment)
      → max (larger 2 (cell work k type_depth t) kind most) (greatest (reference_numbers kind (map (viewed work k Depth) l)))
      ≡ max most (greatest (reference_numbers kind (map (viewed work k Depth) (type_ref t ∷ l))))
  unfolding viewed
  greatest_type t most l = greatest_next kind most referent.Type (cell work k type_depth t) refl

  -- bytes have no depth
  greatest_zero : (b : Bool) (ns : List ℕ) → greatest (of_kind b 0 ns) ≡ greatest ns
  unfolding of_kind greatest
  greatest_zero true ns = omega arith
  greatest_zero false ns = refl

  greatest_plain : (p : Bytes) (l : List Segment) → greatest (reference_numbers kind (map (viewed work k Depth) (plain p ∷ l))) ≡ greatest (reference_numbers kind (map (viewed work k Depth) l))
  unfolding reference_numbers viewed kind_of reference_number
  greatest_plain p l = greatest_zero (eqb 1 kind) (reference_numbers kind (map (viewed work k Depth) l))

  -- no reference is of another kind
  pub greatest_other : (kind ≡ 2 → ⊥) → (kind ≡ 3 → ⊥) → (kind ≡ 4 → ⊥) → (l : List Segment) → 0 ≡ greatest (reference_numbers kind (map (viewed work k Depth) l))
  unfolding reference_numbers greatest viewed term_as kind_of reference_number of_kind
  greatest_other a b c [] = refl
  greatest_other a b c (plain p ∷ l) = greatest_other a b c l ∙ sym (greatest_zero (eqb 1 kind) (reference_numbers kind (map (viewed work k Depth) l)))
  greatest_other a b c (type_ref n ∷ l) = rw (ne_eqb 2 kind (λ e. a (sym e))) (greatest_other a b c l)
  greatest_other a b c (fun_ref n ∷ l) = rw (ne_eqb 3 kind (λ e. b (sym e))) (greatest_other a b c l)
  greatest_other a b c (term_ref n ∷ l) = rw (ne_eqb 4 kind (λ e. c (sym e))) (greatest_other a b c l)

  pub greatest_none : (most : ℕ) {l : List Segment} → l ≡ [] → most ≡ max most (greatest (reference_numbers kind (map (viewed work k Depth) l)))
  greatest_none most e = greatest_end kind most (rw e)

  pub greatest_turn : (most : ℕ) {r found number : ℕ} {l m : List Segment} → found ≡ larger 4 number kind most → number ≡ cell work k term_depth r → l ≡ term_ref r ∷ m
      → max found (greatest (reference_numbers kind (map (viewed work k Depth) m))) ≡ max most (greatest (reference_numbers kind (map (viewed work k Depth) l)))
  unfolding viewed term_as
  greatest_turn most {number = number} e q h = rw e (greatest_next kind most referent.Term number (led_map _ h (rw q)))

  pub greatest_sole : {n found number : ℕ} {l : List Segment} → found ≡ larger 4 number kind 0 → number ≡ cell work k term_depth n → l ≡ term_ref n ∷ []
      → found ≡ greatest (reference_numbers kind (map (viewed work k Depth) l))
  greatest_sole {found = found} {l = l} e q h =
      let turn = greatest_turn 0 e q h in
      let none = greatest_none found {l = []} refl in
      omega arith

  pub greatest_listed : {most found : ℕ} (t : ℕ) (l : List Segment) → most ≡ larger 2 (cell work k type_depth t) kind 0
      → found ≡ max most (greatest (reference_numbers kind (map (viewed work k Depth) l))) → found ≡ greatest (reference_numbers kind (map (viewed work k Depth) (type_ref t ∷ l)))
  greatest_listed t l e h =
      let type = greatest_type t 0 l in
      h ∙ (rw e (omega arith))

  pub greatest_named : {t found : ℕ} (p : Bytes) {m : List Segment} → found ≡ larger 2 (cell work k type_depth t) kind 0 → m ≡ plain p ∷ type_ref t ∷ []
      → found ≡ greatest (reference_numbers kind (map (viewed work k Depth) m))
  greatest_named {t} {found} p h e = greatest_listed t [] h (greatest_none found {l = []} refl) ∙ sym (greatest_plain p (type_ref t ∷ [])) ∙ (rw e)

  pub greatest_listing : {t found : ℕ} (p : Bytes) (l : List Segment) {m : List Segment} → found ≡ greatest (reference_numbers kind (map (viewed work k Depth) (type_ref t ∷ l)))
      → m ≡ type_ref t ∷ plain p ∷ l → found ≡ greatest (reference_numbers kind (map (viewed work k Depth) m))
  greatest_listing {t} p l h e =
      let short = greatest_type t 0 l in
      let long = greatest_type t 0 (plain p ∷ l) in
      let bytes = greatest_plain p l in
      rw e (omega arith)

  pub greatest_applied : {t found : ℕ} (p q : Bytes) (l : List Segment) {m : List Segment} → found ≡ greatest (reference_numbers kind (map (viewed work k Depth) (type_ref t ∷ l)))
      → m ≡ type_ref t ∷ plain p ∷ plain q ∷ l → found ≡ greatest (reference_numbers kind (map (viewed work k Depth) m))
  greatest_applied p q l h e = greatest_listing p (plain q ∷ l) (greatest_listing q l h refl) e

  pub greatest_bare : {p : Bytes} {l : List Segment} → l ≡ plain p ∷ [] → 0 ≡ greatest (reference_numbers kind (map (viewed work k Depth) l))
  unfolding reference_numbers greatest
  greatest_bare {p} e = rw e (sym (greatest_plain p []))
