-- A record type and a record term whose segments agree, with types listed, have the same names and the same types in order; and the
-- references that are gone through for depths are the entry's children.
-- Assumes nothing.
use Prim.Native.Nat.{ℕ, ◌+◌}
use mathlib.Core.Path.{◌≡◌, refl, sym, ap, ◌∙◌}
use mathlib.Core.List.{List, [], ◌∷◌, map, cons≢nil, head-eq_of_cons-eq, tail-eq_of_cons-eq}
use mathlib.Core.Option.{some}
use lib.ListN.{length, drop}
use Rattle.script_spec.specs.Base.{Bytes, collect}
use Rattle.script_spec.specs.Tree.{TypeMark, TermMark, Declared, record_of, Record}
use Rattle.script_spec.specs.Fields.{Entry, type, term}
use Rattle.index.specs.Cells.{cell, type_first, type_depth, term_type, term_depth}
use Rattle.index.specs.Rules.{greatest}
use Rattle.index.specs.Standing.{mark_at, size_at, body_at, entry_at}
use Rattle.index_compare.specs.Segment.{Segment, plain, type_ref, fun_ref, term_ref, type_refs, term_refs}
use Rattle.index_compare.specs.Printed.{low_bytes, text_bytes, named_references, count_before, type_segments, term_segments, segments_of}
use Rattle.index_compare.proofs.Prints.{Octets, octets_take, octets_drop}
use Rattle.index_compare.proofs.Shown.{segments_shown}
use Rattle.index_compare.proofs.Equal.{named_type_refs, type_refs_type, term_refs_term}
use Rattle.index_compare.specs.View.{viewed, term_as, segments_at, reference_numbers, SameSegments}
use Rattle.index_compare.specs.declared.compare.View.TheVariants.{First, Listed, Depth}
use Rattle.index_compare.proofs.Compared.{Same}
use Rattle.index_compare.proofs.Depths.{numbers_types, numbers_terms}

pub segments_at_shown : (file : Bytes) (o : ℕ) {x : Entry} → Octets file → entry_at file o ≡ some x → segments_at file o ≡ segments_of x
unfolding segments_at entry_at body_at
segments_at_shown file o octets e =
    segments_shown (mark_at file o) (body_at file o) (octets_take (size_at file o) (drop (o + 6) file) (octets_drop (o + 6) file octets)) e

-- ---- depths

module _ (file : Bytes) (work : List ℕ) (k o : ℕ) (octets : Octets file) where
  -- of a type, over its parts
  pub greatest_type : {m : TypeMark} {rs : List ℕ} → entry_at file o ≡ some (type m rs)
      → greatest (reference_numbers 2 (map (viewed work k Depth) (segments_at file o))) ≡ greatest (map (cell work k type_depth) rs)
  greatest_type {m} {rs} e =
      ap greatest (numbers_types work k (segments_at file o)
      ∙ ap (map (cell work k type_depth)) (ap type_refs (segments_at_shown file o octets e) ∙ type_refs_type m rs))

  -- of a term, over its children
  pub greatest_term : {m : TermMark ℕ ℕ} {rs : List ℕ} → entry_at file o ≡ some (term m rs)
      → greatest (reference_numbers 4 (map (viewed work k Depth) (segments_at file o))) ≡ greatest (map (cell work k term_depth) rs)
  greatest_term {m} {rs} e =
      ap greatest (numbers_terms work k (segments_at file o)
      ∙ ap (map (cell work k term_depth)) (ap term_refs (segments_at_shown file o octets e) ∙ term_refs_term m rs))

-- ---- a record type and a record term

-- the plain segments, in order
unfoldable plains : List Segment → List Bytes
plains = collect (λ x. elim x [ plain p ↦ p ∷ [] | type_ref n ↦ [] | fun_ref n ↦ [] | term_ref n ↦ [] ])

plains_refs : (rs : List ℕ) → plains (map type_ref rs) ≡ []
unfolding plains collect
plains_refs [] = refl
plains_refs (n ∷ rs) = plains_refs rs

plains_named : (names : List Bytes) (rs : List ℕ) → plains (named_references type_ref names rs) ≡ map text_bytes names
unfolding plains named_references collect
plains_named [] rs = plains_refs rs
plains_named (a ∷ names) [] = ap (λ (l : List Bytes). text_bytes a ∷ l) (plains_named names [])
plains_named (a ∷ names) (n ∷ rs) = ap (λ (l : List Bytes). text_bytes a ∷ l) (plains_named names rs)

text_bytes_injective : (a b : Bytes) → text_bytes a ≡ text_bytes b → a ≡ b
unfolding text_bytes low_bytes
text_bytes_injective a b e = cc

texts_injective : (l m : List Bytes) → map text_bytes l ≡ map text_bytes m → l ≡ m
texts_injective [] [] e = refl
texts_injective [] (b ∷ m) e = absurd (cons≢nil (sym e))
texts_injective (a ∷ l) [] e = absurd (cons≢nil e)
texts_injective (a ∷ l) (b ∷ m) e =
    let first = text_bytes_injective a b (head-eq_of_cons-eq e) in
    let rest = texts_injective l m (tail-eq_of_cons-eq e) in
    λ i. first i ∷ rest i

module _ (work : List ℕ) (k : ℕ) where
  named_first : (names : List Bytes) (rs : List ℕ) → map (viewed work k First) (named_references type_ref names rs) ≡ named_references type_ref names (map (cell work k type_first) rs)
  unfolding named_references viewed
  named_first [] [] = refl
  named_first [] (n ∷ rs) = ap (λ (l : List Segment). type_ref (cell work k type_first n) ∷ l) (named_first [] rs)
  named_first (a ∷ names) [] = ap (λ (l : List Segment). plain (text_bytes a) ∷ l) (named_first names [])
  named_first (a ∷ names) (n ∷ rs) = ap (λ (l : List Segment). plain (text_bytes a) ∷ type_ref (cell work k type_first n) ∷ l) (named_first names rs)

  pub named_listed : (names : List Bytes) (ts : List ℕ) → map (viewed work k Listed) (named_references term_ref names ts) ≡ named_references type_ref names (map (cell work k term_type) ts)
  unfolding named_references viewed term_as
  named_listed [] [] = refl
  named_listed [] (n ∷ ts) = ap (λ (l : List Segment). type_ref (cell work k term_type n) ∷ l) (named_listed [] ts)
  named_listed (a ∷ names) [] = ap (λ (l : List Segment). plain (text_bytes a) ∷ l) (named_listed names [])
  named_listed (a ∷ names) (n ∷ ts) = ap (λ (l : List Segment). plain (text_bytes a) ∷ type_ref (cell work k term_type n) ∷ l) (named_listed names ts)

  module _ (file : Bytes) (octets : Octets file) (o p : ℕ) {names names' : List Bytes} {rs ts : List ℕ}
      (e : entry_at file o ≡ some (type (Declared (record_of names)) rs)) (e' : entry_at file p ≡ some (term (Record names') ts)) where
    type_shown : map (viewed work k First) (segments_at file o) ≡ count_before names (named_references type_ref names (map (cell work k type_first) rs))
    unfolding segments_of type_segments count_before viewed
    type_shown =
        ap (map (viewed work k First)) (segments_at_shown file o octets e)
        ∙ ap (λ (l : List Segment). plain (low_bytes 4 (length names)) ∷ l) (named_first names rs)

    term_shown : map (viewed work k Listed) (segments_at file p) ≡ count_before names' (named_references type_ref names' (map (cell work k term_type) ts))
    unfolding segments_of term_segments count_before viewed
    term_shown =
        ap (map (viewed work k Listed)) (segments_at_shown file p octets e')
        ∙ ap (λ (l : List Segment). plain (low_bytes 4 (length names')) ∷ l) (named_listed names' ts)

    -- the type lists the names and the types of the term exactly where the segments agree
    pub same_listed : Same (SameSegments file (viewed work k First) o (viewed work k Listed) p)
        ((names ≡ names') × (map (cell work k type_first) rs ≡ map (cell work k term_type) ts))
    unfolding count_before
    same_listed =
        record {
          to = λ same.
              let all = tail-eq_of_cons-eq (sym type_shown ∙ same ∙ term_shown) in
              let refs = map (cell work k type_first) rs in
              let refs' = map (cell work k term_type) ts in (
                texts_injective names names' (sym (plains_named names refs) ∙ ap plains all ∙ plains_named names' refs'),
                sym (named_type_refs names refs) ∙ ap type_refs all ∙ named_type_refs names' refs',
              );
          from = λ same. type_shown ∙ (λ i. count_before (same.0 i) (named_references type_ref (same.0 i) (same.1 i))) ∙ sym term_shown;
        }
