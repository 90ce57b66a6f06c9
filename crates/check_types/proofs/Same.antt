-- Whether a type is that of a term: by its letter and its number, and for a record type by the segments.
-- Assumes nothing.
use mathlib.Core.Path.{◌≡◌, refl, sym, ap, ◌∙◌, subst}
use mathlib.Core.Logic.{◌⊎◌, inl, inr}
use Prim.Native.Nat.{ℕ}
use native.Mathlib.Omega.{arith}
use mathlib.Core.Bool.{Bool, true, false}
use mathlib.Core.List.{List, map, map-map}
use mathlib.Core.Option.{some}
use lib.Dec.{eqb, eqb→eq}
use borrow.Author.Tests.{eq-eqb}
use lib.ListN.{length, get_or, length-map}
use Rattle.script_spec.specs.Base.{Bytes}
use Rattle.script_spec.specs.Tree.{Ty, TypeMark, Bool·, String·, Option·, Set·, BitVec·, Declared, entity, extension, record_of}
use Rattle.script_spec.specs.Tree.{TermMark, Var, BoolLit, BitVecLit, StringLit, Entity, ExtLit, None, Some, Set, Record, App}
use Rattle.script_spec.specs.Fields.{type, term}
use Rattle.script_spec.specs.File as record-file
use Rattle.script_spec.specs.File.{TermFile, types, named, earlier}
use Rattle.script_spec.proofs.Computes
use Rattle.index.specs.Cells.{cell, type_first, term_type}
use Rattle.index.specs.First.{first_type, renumbered, settled, canonical, Below, InRange}
use Rattle.index.specs.Rules.{TypeBy, listed, type_by, type_named, parts}
use Rattle.index.specs.Standing.{mark_at, entry_at}
use Rattle.index.specs.Meaning.{Rows}
use Rattle.index.proofs.Renamed.{map_agree}
use Rattle.index.proofs.Canonical.{canonical_equal, canonical_injective}
use Rattle.index.proofs.Rules.{OnlyTypes, parts_below}
use Rattle.index_compare.proofs.Prints.{Octets}
use Rattle.index_compare.specs.View.{Decides, SameSegments, viewed}
use Rattle.index_compare.specs.declared.compare.View.TheVariants.{First, Listed}
use Rattle.index_compare.proofs.Compared.{Same, decides_not}
use Rattle.index_compare.proofs.Listed.{same_listed}
use Rattle.check_rules.specs.Marks.{datatype_bytes, type_bytes}
use Rattle.read_record.specs.Marks.{mark}
use Rattle.check_types.specs.declared.Sought.{Sought}
use Rattle.check_types.specs.declared.Sought.TheVariants as sought
use Rattle.check_types.specs.Sought.{width_at, code_at, value_code, part_at, mark_letter, FieldsOf, Wanted, Seeks, SameType}
use Rattle.check_types.proofs.Letters.{Over, over, letter_of, type_letter_lem, sought_kind_letter, no_entity, Sized, SizedEntry, entry_sized}
use Rattle.check_types.proofs.Numbers.{type_number, same_number, numberless, no_number}
use Rattle.check_types.proofs.Read.{type_width, type_code, type_part, term_width, term_code, term_part}

-- ---- equal types

mark_of : {t u : TypeMark} {rs ss : List ℕ} → type t rs ≡ type u ss → t ≡ u
mark_of e = cc

parts_of_lem : {t u : TypeMark} {rs ss : List ℕ} → type t rs ≡ type u ss → rs ≡ ss
parts_of_lem e = cc

pub type_value : {a b : Ty} → record-file.type a ≡ record-file.type b → a ≡ b
type_value e = cc

module _ {file : Bytes} {f : TermFile} {work : List ℕ} {k : ℕ} (I : Rows file f work k) where
  -- types are equal exactly where their marks are and the first equal numbers of their parts
  pub equal_types : (t u : TypeMark) (rs ss : List ℕ) → Below (length (types f)) rs → Below (length (types f)) ss
      → Same (type_named f (listed t rs) ≡ type_named f (listed u ss)) ((t ≡ u) × (map (cell work k type_first) rs ≡ map (cell work k type_first) ss))
  unfolding type_named named canonical settled renumbered InRange earlier OnlyTypes
  equal_types t u rs ss b b' =
      let first : map (cell work k type_first) rs ≡ map (first_type f) rs = map_agree (λ n h. (I.type_row n h).first) rs b in
      let first' : map (cell work k type_first) ss ≡ map (first_type f) ss = map_agree (λ n h. (I.type_row n h).first) ss b' in
      record {
        to = λ e.
            let same : type t (map (first_type f) rs) ≡ type u (map (first_type f) ss) = canonical_equal f (type t rs) (type u ss) (ap record-file.type e) in
            (mark_of same, first ∙ parts_of_lem same ∙ sym first');
        from = λ s. type_value (canonical_injective f (type t rs) (type u ss) b b' tt tt (λ i. type (s.0 i) ((sym first ∙ s.1 ∙ first') i)));
      }

-- ---- what is sought

module _ {file : Bytes} {work : List ℕ} {k o : ℕ} {f : TermFile} {t : TypeMark} {ps : List ℕ} (S : Seeks file work k o f t ps) where
  pub seeks_below : Below (length (types f)) ps
  unfolding parts InRange earlier
  seeks_below =
      subst (λ (b : TypeBy). Below (length (types f)) (parts b)) S.by
      (parts_below f (cell work k term_type) (λ n h. (S.index.term_row n h).type_below) S.mark S.refs S.in_range.0 S.in_range.1)

  pub seeks_no_entity : letter_of t ≡ 69 → ⊥
  seeks_no_entity = over (λ u rs. letter_of u ≡ 69 → ⊥) S.by (no_entity (cell work k term_type) S.mark S.refs)

  -- by the kind of the type
  pub sought_letter : {s : Sought} → Wanted file work k o s → letter_of t ≡ mark_letter s
  sought_letter {s} W = sought_kind_letter file o s W.kind_is S.reads (cell work k term_type) S.by

  pub seeks_sized : Sized t (length ps)
  unfolding SizedEntry
  seeks_sized = over (λ u rs. Sized u (length rs)) S.by (entry_sized file o S.reads (cell work k term_type))

  -- the types of the children are first of their kind
  pub seeks_settled : map (cell work k type_first) (map (cell work k term_type) S.refs) ≡ map (cell work k term_type) S.refs
  unfolding InRange earlier
  seeks_settled =
      map-map (cell work k type_first) (cell work k term_type) S.refs
      ∙ map_agree (λ n h. let row = S.index.term_row n h in (S.index.type_row _ row.type_below).first ∙ row.type_first_is) S.refs S.in_range.1

-- ---- records

record_type : (u : TypeMark) → letter_of u ≡ 82 → (names : List Bytes) × (u ≡ Declared (record_of names))
unfolding type_bytes datatype_bytes Computes.base
record_type Bool· h = absurd (omega arith)
record_type String· h = absurd (omega arith)
record_type Option· h = absurd (omega arith)
record_type Set· h = absurd (omega arith)
record_type (BitVec· n) h = absurd (omega arith)
record_type (Declared (entity a)) h = absurd (omega arith)
record_type (Declared (extension x)) h = absurd (omega arith)
record_type (Declared (record_of names)) h = (names, refl)

-- a record of these names, with the types of its attributes
pub record RecordTerm (τ : ℕ → ℕ) (m : TermMark ℕ ℕ) (rs : List ℕ) (t : TypeMark) (ps : List ℕ) : Type 0 where
  pub names : List Bytes
  pub mark : m ≡ Record names
  pub type_mark : t ≡ Declared (record_of names)
  pub parts_are : ps ≡ map τ rs

pub record_term : (τ : ℕ → ℕ) (m : TermMark ℕ ℕ) (rs : List ℕ) → Over (λ t ps. letter_of t ≡ 82 → RecordTerm τ m rs t ps) (type_by τ m rs)
unfolding Over type_by type_bytes datatype_bytes Computes.base
record_term τ (Var id n) rs = tt
record_term τ (BoolLit b) rs = λ h. absurd (omega arith)
record_term τ (BitVecLit n v) rs = λ h. absurd (omega arith)
record_term τ (StringLit s) rs = λ h. absurd (omega arith)
record_term τ (Entity n id) rs = tt
record_term τ (ExtLit v) rs = λ h. absurd (omega arith)
record_term τ (None n) rs = λ h. absurd (omega arith)
record_term τ Some rs = λ h. absurd (omega arith)
record_term τ (Set n) rs = λ h. absurd (omega arith)
record_term τ (Record names) rs = λ h. record { names = names; mark = refl; type_mark = refl; parts_are = refl }
record_term τ (App n op) rs = tt

names_of : {a b : List Bytes} → Declared (record_of a) ≡ Declared (record_of b) → a ≡ b
names_of e = cc

-- ---- the number of the type

-- the number of what is sought: its width, its code or its part
unfoldable pub sought_number : Sought → ℕ
sought_number sought.Bool = 0
sought_number sought.String = 0
sought_number (sought.BitVec n) = n
sought_number (sought.Extension c) = c
sought_number (sought.Option n) = n
sought_number (sought.Set n) = n
sought_number (sought.Record p) = 0

-- the part of the type that a term has
part_sought : {file : Bytes} {work : List ℕ} {k o : ℕ} → Octets file → {f : TermFile} {t : TypeMark} {ps : List ℕ} → Seeks file work k o f t ps → (letter_of t ≡ 67) ⊎ (letter_of t ≡ 79) → part_at file work k o ≡ type_number t (map (cell work k type_first) ps)
part_sought {file} {work} {k} {o} octets S h = over (λ u rs. (letter_of u ≡ 67) ⊎ (letter_of u ≡ 79) → part_at file work k o ≡ type_number u (map (cell work k type_first) rs)) S.by (term_part file octets work k o S.mark S.refs S.reads (seeks_settled S)) h

-- it is the number of the type of the term
pub number_sought : {file : Bytes} {work : List ℕ} {k o : ℕ} → Octets file → {f : TermFile} {t : TypeMark} {ps : List ℕ} → Seeks file work k o f t ps → (s : Sought) → Wanted file work k o s → sought_number s ≡ type_number t (map (cell work k type_first) ps)
unfolding sought_number numberless mark_letter mark Computes.base
number_sought octets {t = t} S sought.Bool W = no_number t _ (ap numberless (sought_letter S W))
number_sought octets {t = t} S sought.String W = no_number t _ (ap numberless (sought_letter S W))
number_sought {file} {work} {k} {o} octets S (sought.BitVec n) W = W.fields_are ∙ over (λ u rs. letter_of u ≡ 86 → width_at file o ≡ type_number u (map (cell work k type_first) rs)) S.by (term_width file octets work k o S.mark S.refs S.reads) (sought_letter S W)
number_sought {file} {work} {k} {o} octets S (sought.Extension c) W = W.fields_are ∙ over (λ u rs. letter_of u ≡ 88 → value_code file o ≡ type_number u (map (cell work k type_first) rs)) S.by (term_code file octets work k o S.mark S.refs S.reads) (sought_letter S W)
number_sought octets S (sought.Option n) W = W.fields_are ∙ part_sought octets S (inr (sought_letter S W))
number_sought octets S (sought.Set n) W = W.fields_are ∙ part_sought octets S (inl (sought_letter S W))
number_sought octets {t = t} S (sought.Record p) W = no_number t _ (ap numberless (sought_letter S W))

-- ---- the test

pub decides_same : {P Q : Type 0} {r : Bool} → Same P Q → Decides r Q → Decides r P
decides_same s d = record { true_of = λ p. d.true_of (s.to p); of_true = λ h. s.from (d.of_true h) }

-- the fields of what is sought
pub fields : {file : Bytes} {work : List ℕ} {k o : ℕ} {s x : Sought} → Wanted file work k o s → s ≡ x → FieldsOf file work k o x
fields {file} {work} {k} {o} W m = subst (FieldsOf file work k o) m W.fields_are

module _ {file : Bytes} {work : List ℕ} {k p o : ℕ} {s : Sought} (octets : Octets file) (W : Wanted file work k o s) {letter : ℕ} (M : letter ≡ get_or (mark_at file p) 1 0) where
  -- other letters
  pub other_letter : (letter ≡ mark_letter s → ⊥) → SameType file work k p o false
  other_letter h =
      record {
        go = λ f t ps S u rs e b.
            decides_not (λ q. h (type_letter_lem file p M e ∙ ap letter_of ((equal_types S.index u t rs ps b (seeks_below S)).to q).0 ∙ sought_letter S W));
      }

  module _ (same : letter ≡ mark_letter s) where
    -- the same letter, and what is read is the number of the type
    by_number : {x : Sought} → s ≡ x → (mark_letter x ≡ 82 → ⊥) → {a : ℕ} → ((u : TypeMark) (rs : List ℕ) → entry_at file p ≡ some (type u rs) → letter_of u ≡ mark_letter x → a ≡ type_number u (map (cell work k type_first) rs))
        → SameType file work k p o (eqb a (sought_number x))
    unfolding SizedEntry
    by_number {x} m no_record {a} number =
        record {
          go = λ f t ps S u rs e below.
              let φ = cell work k type_first in
              let b = sought_number x in
              let number' : b ≡ type_number t (map φ ps) = rw (← m) (number_sought octets S s W) in
              let letter : letter_of u ≡ mark_letter x = sym (type_letter_lem file p M e) ∙ same ∙ ap mark_letter m in
              let letter' : letter_of t ≡ mark_letter x = sought_letter S W ∙ ap mark_letter m in
              let sized : Sized u (length (map φ rs)) = rw (length-map rs φ) (entry_sized file p e) in
              let sized' : Sized t (length (map φ ps)) = rw (length-map ps φ) (seeks_sized S) in
              decides_same (equal_types S.index u t rs ps below (seeks_below S))
              (record {
                true_of = λ z. eq-eqb a b (number u rs e letter ∙ (λ i. type_number (z.0 i) (z.1 i)) ∙ sym number');
                of_true = λ h.
                    let q : a ≡ b = eqb→eq a b (rw h tt) in
                    same_number u t (map φ rs) (map φ ps) sized sized' (letter ∙ sym letter') (λ z. no_record (sym letter' ∙ z)) (seeks_no_entity S) (sym (number u rs e letter) ∙ q ∙ number');
              });
        }

    pub same_bools : s ≡ sought.Bool → SameType file work k p o true
    unfolding sought_number numberless mark_letter mark Computes.base
    same_bools m = by_number m (λ z. omega arith) {a = 0} (λ u rs e h. no_number u _ (ap numberless h))

    pub same_strings : s ≡ sought.String → SameType file work k p o true
    unfolding sought_number numberless mark_letter mark Computes.base
    same_strings m = by_number m (λ z. omega arith) {a = 0} (λ u rs e h. no_number u _ (ap numberless h))

    pub same_widths : {a n : ℕ} → s ≡ sought.BitVec n → a ≡ width_at file p → SameType file work k p o (eqb a n)
    unfolding sought_number mark_letter mark Computes.base
    same_widths m q = by_number m (λ z. omega arith) (λ u rs e h. q ∙ type_width file octets work k p u rs e h)

    pub same_codes : {a c : ℕ} → s ≡ sought.Extension c → a ≡ code_at file p → SameType file work k p o (eqb a c)
    unfolding sought_number mark_letter mark Computes.base
    same_codes m q = by_number m (λ z. omega arith) (λ u rs e h. q ∙ type_code file octets work k p u rs e h)

    pub same_options : {a n : ℕ} → s ≡ sought.Option n → a ≡ part_at file work k p → SameType file work k p o (eqb a n)
    unfolding sought_number mark_letter mark Computes.base
    same_options m q = by_number m (λ z. omega arith) (λ u rs e h. q ∙ type_part file octets work k p u rs e (inr h))

    pub same_sets : {a n : ℕ} → s ≡ sought.Set n → a ≡ part_at file work k p → SameType file work k p o (eqb a n)
    unfolding sought_number mark_letter mark Computes.base
    same_sets m q = by_number m (λ z. omega arith) (λ u rs e h. q ∙ type_part file octets work k p u rs e (inl h))

    -- records
    pub same_records : {q : ℕ} {r : Bool} → s ≡ sought.Record q → Decides r (SameSegments file (viewed work k First) p (viewed work k Listed) q) → SameType file work k p o r
    unfolding mark_letter mark Computes.base
    same_records {q} {r} m C =
        let D = subst (λ (x : ℕ). Decides r (SameSegments file (viewed work k First) p (viewed work k Listed) x)) (fields W m) C in
        record {
          go = λ f t ps S u rs e below.
              let φ = cell work k type_first in
              let τ = cell work k term_type in
              let is : mark_letter s ≡ 82 = ap mark_letter m in
              let x = record_type u (sym (type_letter_lem file p M e) ∙ same ∙ is) in
              let y = over (λ v qs. letter_of v ≡ 82 → RecordTerm τ S.mark S.refs v qs) S.by (record_term τ S.mark S.refs) (sought_letter S W ∙ is) in
              let reads : entry_at file p ≡ some (type (Declared (record_of x.0)) rs) = e ∙ ap (λ (v : TypeMark). some (type v rs)) x.1 in
              let reads' : entry_at file o ≡ some (term (Record y.names) S.refs) = S.reads ∙ ap (λ (v : TermMark ℕ ℕ). some (term v S.refs)) y.mark in
              let L = same_listed work k file octets p o reads reads' in
              let parts_first : map φ ps ≡ map τ S.refs = ap (map φ) y.parts_are ∙ seeks_settled S in
              decides_same (equal_types S.index u t rs ps below (seeks_below S))
              (record {
                true_of = λ s. D.true_of (L.from (names_of (sym x.1 ∙ s.0 ∙ y.type_mark), s.1 ∙ parts_first));
                of_true = λ h.
                    let q = L.to (D.of_true h) in
                    (x.1 ∙ ap (λ (ns : List Bytes). Declared (record_of ns)) q.0 ∙ sym y.type_mark, q.1 ∙ sym parts_first);
              });
        }
