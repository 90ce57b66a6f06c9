-- What is read of a type, and of a term, is the number of the type: by the reader of the mark, and by the segments of the body.
-- Assumes nothing.
use mathlib.Core.Path.{◌≡◌, refl, sym, ap, ◌∙◌}
use mathlib.Core.Logic.{◌⊎◌, ⊎_elim}
use Prim.Native.Nat.{ℕ, ◌+◌, ◌-◌, ◌^◌}
use native.Mathlib.Omega.{arith}
use mathlib.Core.List.{List, [], ◌∷◌, map}
use mathlib.Core.Option.{some}
use lib.Dec.{ltb}
use lib.ListN.{get_or, drop}
use Rattle.script_spec.specs.Base.{Bytes, bytes}
use Rattle.script_spec.specs.Tree.{TypeMark, Bool·, String·, Option·, Set·, BitVec·, Declared, entity, extension, record_of, ExtType, Value, V4, V6, DecimalV, DatetimeV, DurationV, ext_type_of}
use Rattle.script_spec.specs.Tree.{TermMark, Var, BoolLit, BitVecLit, StringLit, Entity, ExtLit, None, Some, Set, Record, App}
use Rattle.script_spec.specs.Fields.{type, term, marks, leaf, width, number, ensure}
use Rattle.script_spec.proofs.Computes
use Rattle.script_spec.proofs.Readers.{bind_inverse, pure_inverse}
use Rattle.index.specs.Cells.{cell, type_first, term_type}
use Rattle.index.specs.Rules.{type_by}
use Rattle.index.specs.Standing.{mark_at, size_at, body_at, entry_of, entry_at}
use Rattle.index.specs.Lists.{number_at}
use Rattle.index_entry.proofs.Inverse.{tested_inverse}
use Rattle.index_compare.specs.Segment.{Segment, plain, type_ref, term_ref}
use Rattle.index_compare.specs.Machine.{segments, walk_start, start_type, start_term, start_list, ahead, remaining, field_then, last, items}
use Rattle.index_compare.specs.Printed.{ext_type_code, value_bytes, count_before, type_segments, term_segments, segments_of}
use Rattle.index_compare.proofs.Prints.{Octets, octets_take, octets_drop}
use Rattle.index_compare.proofs.Shown.{segments_shown}
use Rattle.index_compare.specs.View.{viewed, term_as, kind_of, reference_number, of_kind, reference_numbers}
use Rattle.index_compare.specs.declared.compare.View.TheVariants.{Listed}
use Rattle.index_compare.proofs.Listed.{segments_at_shown}
use Rattle.check_rules.specs.Marks.{datatype_bytes, type_bytes, term_bytes, mark_of}
use Rattle.check_rules.proofs.Marks.{entry_mark}
use Rattle.check_rules.proofs.Shapes.{read_by}
use Rattle.check_types.specs.Sought.{width_at, code_at, value_code, part_at}
use Rattle.check_types.proofs.Letters.{Over, letter_of}
use Rattle.check_types.proofs.Numbers.{type_number}

literal_width : {n n' v v' : ℕ} {rs rs' : List ℕ} → term (BitVecLit n v) rs ≡ term (BitVecLit n' v') rs' → n ≡ n'
literal_width e = cc

-- neither of two letters
neither : {A : Type 0} (l : ℕ) → (l ≡ 67 → ⊥) → (l ≡ 79 → ⊥) → (l ≡ 67) ⊎ (l ≡ 79) → A
neither l c o h = absurd (⊎_elim c o h)

-- ---- bodies

module _ (mark body : Bytes) where
  width_type : {n : ℕ} {rs : List ℕ} → entry_of mark body ≡ some (type (BitVec· n) rs) → number_at body 0 ≡ n
  unfolding mark_of type_bytes Computes.base marks width
  width_type {n} {rs} e =
      let h = read_by mark body {r = _} e refl in
      let b = bind_inverse width _ body h in
      let p = pure_inverse (type (BitVec· b.value) []) b.mid b.after in
      let is : b.value ≡ n = cc in
      tested_inverse 7 _ body b.first (λ v d. v ∙ is)

  width_term : {n v : ℕ} {rs : List ℕ} → entry_of mark body ≡ some (term (BitVecLit n v) rs) → number_at body 0 ≡ n
  unfolding mark_of term_bytes Computes.base marks leaf width
  width_term {n} {v} {rs} e =
      let h = read_by mark body {r = _} e refl in
      let b = bind_inverse width _ body h in
      let c = bind_inverse (number 16) _ b.mid b.after in
      let d = bind_inverse (ensure 7 (ltb c.value (2 ^ b.value)) c.value) _ c.mid c.after in
      let p = pure_inverse (term (BitVecLit b.value d.value) []) d.mid d.after in
      tested_inverse 7 _ body b.first (λ v d. v ∙ literal_width p.0)

  code_type : Octets body → {x : ExtType} {rs : List ℕ} → entry_of mark body ≡ some (type (Declared (extension x)) rs) → get_or body 0 0 ≡ ext_type_code x
  unfolding mark_of type_bytes datatype_bytes Computes.base segments walk_start start_type ahead remaining field_then last items segments_of type_segments
  code_type octets {x} {rs} e =
      let m : mark ≡ bytes "TX" = entry_mark mark body e in
      let s : plain body ∷ [] ≡ plain (ext_type_code x ∷ []) ∷ map type_ref rs = sym (ap (λ (b : Bytes). segments b body) m) ∙ segments_shown mark body octets e in
      let is : body ≡ ext_type_code x ∷ [] = cc in
      ap (λ (b : Bytes). get_or b 0 0) is

  code_term : Octets body → {v : Value} {rs : List ℕ} → entry_of mark body ≡ some (term (ExtLit v) rs) → body ≡ value_bytes v
  unfolding mark_of term_bytes Computes.base segments walk_start start_term start_list ahead remaining field_then last items segments_of term_segments
  code_term octets {v} {rs} e =
      let m : mark ≡ bytes "XX" = entry_mark mark body e in
      let s : plain body ∷ [] ≡ plain (value_bytes v) ∷ map term_ref rs = sym (ap (λ (b : Bytes). segments b body) m) ∙ segments_shown mark body octets e in
      cc

value_code_lem : (v : Value) → get_or (value_bytes v) 0 0 - 1 ≡ ext_type_code (ext_type_of v)
unfolding value_bytes ext_type_code ext_type_of
value_code_lem (V4 a p) = refl
value_code_lem (V6 a p) = refl
value_code_lem (DecimalV n) = refl
value_code_lem (DatetimeV n) = refl
value_code_lem (DurationV n) = refl

-- ---- what the functions read

module _ (file : Bytes) (o : ℕ) {body : Bytes} (is : body ≡ body_at file o) where
  pub code_first : {n : ℕ} → n ≡ get_or body 0 0 → n ≡ code_at file o
  unfolding code_at
  code_first e = e ∙ ap (λ (b : Bytes). get_or b 0 0) is

  pub width_first : {n : ℕ} → n ≡ number_at body 0 → n ≡ width_at file o
  unfolding width_at
  width_first e = e ∙ ap (λ (b : Bytes). number_at b 0) is

-- the code of a value's type is one less than its own, or 0
pub code_of_value : (file : Bytes) (o : ℕ) {c d : ℕ} → c ≡ code_at file o → d ≡ c - 1 → d ≡ value_code file o
unfolding value_code
code_of_value file o is q = rw (q, is)

-- ---- segments, with types listed

module _ (work : List ℕ) (k : ℕ) where
  types_listed : (rs : List ℕ) → reference_numbers 2 (map (viewed work k Listed) (map type_ref rs)) ≡ map (cell work k type_first) rs
  unfolding reference_numbers of_kind kind_of reference_number viewed
  types_listed [] = refl
  types_listed (n ∷ rs) = ap (λ (l : List ℕ). cell work k type_first n ∷ l) (types_listed rs)

  terms_listed : (rs : List ℕ) → reference_numbers 2 (map (viewed work k Listed) (map term_ref rs)) ≡ map (cell work k term_type) rs
  unfolding reference_numbers of_kind kind_of reference_number viewed term_as
  terms_listed [] = refl
  terms_listed (n ∷ rs) = ap (λ (l : List ℕ). cell work k term_type n ∷ l) (terms_listed rs)

  -- the first of some segments
  unfoldable pub leading : List Segment → ℕ
  leading l = get_or (reference_numbers 2 (map (viewed work k Listed) l)) 0 0

module _ (file : Bytes) (octets : Octets file) (work : List ℕ) (k o : ℕ) where
  pub part_type : {t : TypeMark} {rs : List ℕ} → entry_at file o ≡ some (type t rs) → part_at file work k o ≡ leading work k (type_segments t rs)
  unfolding part_at leading segments_of
  part_type e = ap (leading work k) (segments_at_shown file o octets e)

  pub part_term : {m : TermMark ℕ ℕ} {rs : List ℕ} → entry_at file o ≡ some (term m rs) → part_at file work k o ≡ leading work k (term_segments m rs)
  unfolding part_at leading segments_of
  part_term e = ap (leading work k) (segments_at_shown file o octets e)

  body_octets : Octets (body_at file o)
  unfolding body_at
  body_octets = octets_take (size_at file o) (drop (o + 6) file) (octets_drop (o + 6) file octets)

  -- ---- a type

  pub type_width : (t : TypeMark) (rs : List ℕ) → entry_at file o ≡ some (type t rs) → letter_of t ≡ 86 → width_at file o ≡ type_number t (map (cell work k type_first) rs)
  unfolding entry_at width_at type_number type_bytes datatype_bytes Computes.base
  type_width Bool· rs e h = absurd (omega arith)
  type_width String· rs e h = absurd (omega arith)
  type_width Option· rs e h = absurd (omega arith)
  type_width Set· rs e h = absurd (omega arith)
  type_width (BitVec· n) rs e h = width_type (mark_at file o) (body_at file o) e
  type_width (Declared (entity a)) rs e h = absurd (omega arith)
  type_width (Declared (extension x)) rs e h = absurd (omega arith)
  type_width (Declared (record_of names)) rs e h = absurd (omega arith)

  pub type_code : (t : TypeMark) (rs : List ℕ) → entry_at file o ≡ some (type t rs) → letter_of t ≡ 88 → code_at file o ≡ type_number t (map (cell work k type_first) rs)
  unfolding entry_at code_at type_number type_bytes datatype_bytes Computes.base
  type_code Bool· rs e h = absurd (omega arith)
  type_code String· rs e h = absurd (omega arith)
  type_code Option· rs e h = absurd (omega arith)
  type_code Set· rs e h = absurd (omega arith)
  type_code (BitVec· n) rs e h = absurd (omega arith)
  type_code (Declared (entity a)) rs e h = absurd (omega arith)
  type_code (Declared (extension x)) rs e h = code_type (mark_at file o) (body_at file o) body_octets e
  type_code (Declared (record_of names)) rs e h = absurd (omega arith)

  pub type_part : (t : TypeMark) (rs : List ℕ) → entry_at file o ≡ some (type t rs) → (letter_of t ≡ 67) ⊎ (letter_of t ≡ 79) → part_at file work k o ≡ type_number t (map (cell work k type_first) rs)
  unfolding leading type_segments type_number type_bytes datatype_bytes Computes.base
  type_part Bool· rs e h = neither _ (λ q. omega arith) (λ q. omega arith) h
  type_part String· rs e h = neither _ (λ q. omega arith) (λ q. omega arith) h
  type_part Option· rs e h = part_type e ∙ ap (λ (l : List ℕ). get_or l 0 0) (types_listed work k rs)
  type_part Set· rs e h = part_type e ∙ ap (λ (l : List ℕ). get_or l 0 0) (types_listed work k rs)
  type_part (BitVec· n) rs e h = neither _ (λ q. omega arith) (λ q. omega arith) h
  type_part (Declared (entity a)) rs e h = neither _ (λ q. omega arith) (λ q. omega arith) h
  type_part (Declared (extension x)) rs e h = neither _ (λ q. omega arith) (λ q. omega arith) h
  type_part (Declared (record_of names)) rs e h = neither _ (λ q. omega arith) (λ q. omega arith) h

  -- ---- a term

  pub term_width : (m : TermMark ℕ ℕ) (rs : List ℕ) → entry_at file o ≡ some (term m rs)
      → Over (λ t parts. letter_of t ≡ 86 → width_at file o ≡ type_number t (map (cell work k type_first) parts)) (type_by (cell work k term_type) m rs)
  unfolding Over type_by entry_at width_at type_number type_bytes datatype_bytes Computes.base
  term_width (Var id n) rs e = tt
  term_width (BoolLit b) rs e = λ h. absurd (omega arith)
  term_width (BitVecLit n v) rs e = λ h. width_term (mark_at file o) (body_at file o) e
  term_width (StringLit s) rs e = λ h. absurd (omega arith)
  term_width (Entity n id) rs e = tt
  term_width (ExtLit v) rs e = λ h. absurd (omega arith)
  term_width (None n) rs e = λ h. absurd (omega arith)
  term_width Some rs e = λ h. absurd (omega arith)
  term_width (Set n) rs e = λ h. absurd (omega arith)
  term_width (Record names) rs e = λ h. absurd (omega arith)
  term_width (App n op) rs e = tt

  pub term_code : (m : TermMark ℕ ℕ) (rs : List ℕ) → entry_at file o ≡ some (term m rs)
      → Over (λ t parts. letter_of t ≡ 88 → value_code file o ≡ type_number t (map (cell work k type_first) parts)) (type_by (cell work k term_type) m rs)
  unfolding Over type_by entry_at code_at value_code type_number type_bytes datatype_bytes Computes.base
  term_code (Var id n) rs e = tt
  term_code (BoolLit b) rs e = λ h. absurd (omega arith)
  term_code (BitVecLit n v) rs e = λ h. absurd (omega arith)
  term_code (StringLit s) rs e = λ h. absurd (omega arith)
  term_code (Entity n id) rs e = tt
  term_code (ExtLit v) rs e = λ h. ap (λ (b : Bytes). get_or b 0 0 - 1) (code_term (mark_at file o) (body_at file o) body_octets e) ∙ value_code_lem v
  term_code (None n) rs e = λ h. absurd (omega arith)
  term_code Some rs e = λ h. absurd (omega arith)
  term_code (Set n) rs e = λ h. absurd (omega arith)
  term_code (Record names) rs e = λ h. absurd (omega arith)
  term_code (App n op) rs e = tt

  -- where the types of the children are first of their kind
  pub term_part : (m : TermMark ℕ ℕ) (rs : List ℕ) → entry_at file o ≡ some (term m rs) → map (cell work k type_first) (map (cell work k term_type) rs) ≡ map (cell work k term_type) rs
      → Over (λ t parts. (letter_of t ≡ 67) ⊎ (letter_of t ≡ 79) → part_at file work k o ≡ type_number t (map (cell work k type_first) parts)) (type_by (cell work k term_type) m rs)
  unfolding Over type_by leading term_segments count_before reference_numbers of_kind kind_of reference_number viewed term_as type_number type_bytes datatype_bytes Computes.base
  term_part (Var id n) rs e s = tt
  term_part (BoolLit b) rs e s = neither _ (λ q. omega arith) (λ q. omega arith)
  term_part (BitVecLit n v) rs e s = neither _ (λ q. omega arith) (λ q. omega arith)
  term_part (StringLit t) rs e s = neither _ (λ q. omega arith) (λ q. omega arith)
  term_part (Entity n id) rs e s = tt
  term_part (ExtLit v) rs e s = neither _ (λ q. omega arith) (λ q. omega arith)
  term_part (None n) rs e s = λ h. part_term e
  term_part Some rs e s = λ h. part_term e ∙ ap (λ (l : List ℕ). get_or l 0 0) (terms_listed work k rs ∙ sym s)
  term_part (Set n) rs e s = λ h. part_term e
  term_part (Record names) rs e s = neither _ (λ q. omega arith) (λ q. omega arith)
  term_part (App n op) rs e s = tt
