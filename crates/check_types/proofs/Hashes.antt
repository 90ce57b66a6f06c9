-- The hash of a type by its letter and its number, or for a record type by the segments; and the home of the type of a term.
-- Assumes nothing.
use mathlib.Core.Path.{◌≡◌, refl, sym, ap, ◌∙◌}
use Prim.Native.Nat.{ℕ}
use native.Mathlib.Nat.{div-div-eq-div-mul}
use native.Mathlib.Omega.{arith}
use mathlib.Core.Bool.{true, false}
use mathlib.Core.List.{List, [], ◌∷◌, map}
use mathlib.Core.Option.{some}
use lib.Dec.{eqb}
use lib.ListN.{length, length-map}
use Rattle.std.specs.Int.{w32, to_le_bytes}
use Rattle.script_spec.specs.Base.{Bytes}
use Rattle.script_spec.specs.Tree.{TypeMark, Bool·, String·, Option·, Set·, BitVec·, Declared, entity, extension, record_of, TermMark, Record}
use Rattle.script_spec.specs.Fields.{term}
use Rattle.script_spec.proofs.Computes
use Rattle.index.specs.Cells.{cell, type_first, term_type}
use Rattle.index.specs.First.{renumbered, settled, canonical}
use Rattle.index.specs.Standing.{entry_at}
use Rattle.index.proofs.Renamed.{map_agree}
use Rattle.index_compare.specs.Segment.{Segment, plain, type_ref}
use Rattle.index_compare.specs.Printed.{low_bytes, ext_type_code, count_before, type_segments, term_segments, segments_of}
use Rattle.index_compare.proofs.Prints.{Octets}
use Rattle.index_compare.specs.View.{viewed, segments_at}
use Rattle.index_compare.specs.declared.compare.View.TheVariants.{Listed}
use Rattle.index_compare.proofs.Listed.{segments_at_shown, named_listed}
use Rattle.check_rules.specs.Marks.{datatype_bytes, type_bytes, mark_of}
use Rattle.index_search.specs.Hash.{hashed, type_hash}
use Rattle.index.specs.Names.{key_of, scaled}
use Rattle.index_search.specs.Slots.{plain_hash, entry_hash, home_of}
use Rattle.index_search.specs.Storing.{Scales}
use Rattle.read_record.specs.Marks.{mark}
use Rattle.check_types.specs.declared.Sought.{Sought}
use Rattle.check_types.specs.declared.Sought.TheVariants as sought
use Rattle.check_types.specs.Sought.{mark_letter, Wanted}
use Rattle.check_types.specs.Probed.{TypeHash, TypeHome}
use Rattle.index_entry.proofs.Letters.{type_bytes_lem}
use Rattle.check_types.proofs.Letters.{over, letter_of, Sized}
use Rattle.check_types.proofs.Numbers.{type_number, none, one}
use Rattle.check_types.proofs.Same.{fields, sought_number, number_sought, seeks_below, seeks_no_entity, sought_letter, seeks_sized, seeks_settled, RecordTerm, record_term}

-- ---- types

-- the only segment of a type with this letter and this number
unfoldable sole : ℕ → ℕ → Segment
sole l n =
    elim (eqb l 79) [
      | true ↦ type_ref n
      | false ↦ elim (eqb l 67) [
        | true ↦ type_ref n
        | false ↦ elim (eqb l 86) [ true ↦ plain (low_bytes 4 n) | false ↦ elim (eqb l 88) [ true ↦ plain (n ∷ []) | false ↦ plain [] ] ]
      ]
    ]

one_segment : (t : TypeMark) (ns : List ℕ) → Sized t (length ns) → (letter_of t ≡ 82 → ⊥) → (letter_of t ≡ 69 → ⊥) → type_segments t ns ≡ sole (letter_of t) (type_number t ns) ∷ []
unfolding type_segments sole type_number Sized type_bytes datatype_bytes Computes.base
one_segment Bool· ns h r e = ap (λ (l : List ℕ). plain [] ∷ map type_ref l) (sym (none ns h))
one_segment String· ns h r e = ap (λ (l : List ℕ). plain [] ∷ map type_ref l) (sym (none ns h))
one_segment Option· ns h r e = ap (map type_ref) (sym (one ns h))
one_segment Set· ns h r e = ap (map type_ref) (sym (one ns h))
one_segment (BitVec· n) ns h r e = ap (λ (l : List ℕ). plain (low_bytes 4 n) ∷ map type_ref l) (sym (none ns h))
one_segment (Declared (entity a)) ns h r e = absurd (e refl)
one_segment (Declared (extension x)) ns h r e = ap (λ (l : List ℕ). plain (ext_type_code x ∷ []) ∷ map type_ref l) (sym (none ns h))
one_segment (Declared (record_of names)) ns h r e = absurd (r refl)

-- by the letter of the mark
hashed_letter : (key : ℕ) (t : TypeMark) (l : List Segment) → hashed key (type_bytes t) l ≡ type_hash key (letter_of t) l
unfolding type_hash
hashed_letter key t l = ap (λ (m : Bytes). hashed key m l) (sym (type_bytes_lem t))

-- a record term has the segments of its type, with types listed
listed_segments : (file : Bytes) (work : List ℕ) (k o : ℕ) (octets : Octets file) {names : List Bytes} {rs : List ℕ} → entry_at file o ≡ some (term (Record names) rs)
    → map (viewed work k Listed) (segments_at file o) ≡ type_segments (Declared (record_of names)) (map (cell work k term_type) rs)
unfolding segments_of term_segments type_segments count_before viewed
listed_segments file work k o octets {names} {rs} e =
    ap (map (viewed work k Listed)) (segments_at_shown file o octets e)
    ∙ ap (λ (l : List Segment). plain (low_bytes 4 (length names)) ∷ l) (named_listed work k names rs)

-- ---- the type of a term

module _ {file : Bytes} {work : List ℕ} {k o : ℕ} {s : Sought} (octets : Octets file) (W : Wanted file work k o s) where
  -- by the number of the type
  by_number : {x : Sought} → s ≡ x → (mark_letter x ≡ 82 → ⊥) → {r : ℕ} {g : Segment} → r ≡ type_hash (key_of work k) (mark_letter s) (g ∷ []) → g ≡ sole (mark_letter x) (sought_number x) → TypeHash file work k o r
  by_number {x} m no_record e q =
      record {
        go = λ f t ps S.
            let key = key_of work k in
            let ns = map (cell work k type_first) ps in
            let letter : mark_letter s ≡ letter_of t = sym (sought_letter S W) in
            let back : mark_letter x ≡ letter_of t = sym (ap mark_letter m) ∙ letter in
            let number : sought_number x ≡ type_number t ns = rw (← m) (number_sought octets S s W) in
            let sized : Sized t (length ns) = rw (length-map ps (cell work k type_first)) (seeks_sized S) in
            let shown = one_segment t ns sized (λ z. no_record (back ∙ z)) (seeks_no_entity S) in
            e ∙ (λ i. type_hash key (letter i) ((q ∙ (λ j. sole (back j) (number j))) i ∷ []))
            ∙ sym (ap (hashed key (type_bytes t)) shown ∙ hashed_letter key t (sole (letter_of t) (type_number t ns) ∷ []));
      }

  pub bool_hashed : {r : ℕ} → s ≡ sought.Bool → r ≡ type_hash (key_of work k) (mark_letter s) (plain [] ∷ []) → TypeHash file work k o r
  unfolding sole sought_number mark_letter mark Computes.base
  bool_hashed m e = by_number m (λ z. omega arith) e refl

  pub string_hashed : {r : ℕ} → s ≡ sought.String → r ≡ type_hash (key_of work k) (mark_letter s) (plain [] ∷ []) → TypeHash file work k o r
  unfolding sole sought_number mark_letter mark Computes.base
  string_hashed m e = by_number m (λ z. omega arith) e refl

  -- the bytes of a width are its four low ones
  pub width_hashed : {n r : ℕ} {p : Bytes} → s ≡ sought.BitVec n → p ≡ to_le_bytes w32 n → r ≡ type_hash (key_of work k) (mark_letter s) (plain p ∷ []) → TypeHash file work k o r
  unfolding sole sought_number mark_letter mark low_bytes Computes.base
  width_hashed m i e = by_number m (λ z. omega arith) e (ap plain (i ∙ (simp div-div-eq-div-mul)))

  pub code_hashed : {c r : ℕ} → s ≡ sought.Extension c → r ≡ type_hash (key_of work k) (mark_letter s) (plain (c ∷ []) ∷ []) → TypeHash file work k o r
  unfolding sole sought_number mark_letter mark Computes.base
  code_hashed m e = by_number m (λ z. omega arith) e refl

  pub option_hashed : {n r : ℕ} → s ≡ sought.Option n → r ≡ type_hash (key_of work k) (mark_letter s) (type_ref n ∷ []) → TypeHash file work k o r
  unfolding sole sought_number mark_letter mark Computes.base
  option_hashed m e = by_number m (λ z. omega arith) e refl

  pub set_hashed : {n r : ℕ} → s ≡ sought.Set n → r ≡ type_hash (key_of work k) (mark_letter s) (type_ref n ∷ []) → TypeHash file work k o r
  unfolding sole sought_number mark_letter mark Computes.base
  set_hashed m e = by_number m (λ z. omega arith) e refl

  pub record_hashed : {p r : ℕ} → s ≡ sought.Record p → r ≡ type_hash (key_of work k) 82 (map (viewed work k Listed) (segments_at file p)) → TypeHash file work k o r
  unfolding mark_letter mark type_bytes datatype_bytes Computes.base
  record_hashed m e =
      record {
        go = λ f t ps S.
            let key = key_of work k in
            let τ = cell work k term_type in
            let y = over (λ v qs. letter_of v ≡ 82 → RecordTerm τ S.mark S.refs v qs) S.by (record_term τ S.mark S.refs) (sought_letter S W ∙ ap mark_letter m) in
            let reads : entry_at file o ≡ some (term (Record y.names) S.refs) = S.reads ∙ ap (λ (v : TermMark ℕ ℕ). some (term v S.refs)) y.mark in
            let mark_is : Declared (record_of y.names) ≡ t = sym y.type_mark in
            let parts_are : map τ S.refs ≡ map (cell work k type_first) ps = sym (ap (map (cell work k type_first)) y.parts_are ∙ seeks_settled S) in
            e ∙ ap (λ (x : ℕ). type_hash key 82 (map (viewed work k Listed) (segments_at file x))) (fields W m) ∙ ap (type_hash key 82) (listed_segments file work k o octets reads) ∙ sym (hashed_letter key (Declared (record_of y.names)) (type_segments (Declared (record_of y.names)) (map τ S.refs)))
            ∙ (λ i. hashed key (type_bytes (mark_is i)) (type_segments (mark_is i) (parts_are i)));
      }

-- ---- its home

pub home_found : {file : Bytes} {work : List ℕ} {k o h b : ℕ} → TypeHash file work k o h → Scales k h b → TypeHome file work k o b
unfolding home_of entry_hash plain_hash canonical settled renumbered mark_of segments_of
home_found {work = work} {k} H Z =
    record {
      go = λ f t ps S p.
          Z.is ∙ ap (scaled k) (H.go f t ps S ∙ ap (λ (ns : List ℕ). hashed (key_of work k) (type_bytes t) (type_segments t ns)) (map_agree (λ n h. (S.index.type_row n h).first) ps (seeks_below S)));
    }
