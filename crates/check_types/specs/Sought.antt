-- The type of a term among the types that are listed, by the term's record and by the index.
-- Assumes nothing.
use Rattle.std.specs.Prelude.{◌≡◌, ℕ, ◌-◌, Bool, List, map, length, get_or}
use Rattle.std.proofs.Math.Option.{some}
use Rattle.std.specs.Prelude as rust
use Rattle.script_spec.specs.Base.{Bytes, place}
use Rattle.script_spec.specs.Tree.{TypeMark, TermMark, eq_ty}
use Rattle.script_spec.specs.Fields.{type, term}
use Rattle.script_spec.specs.File.{TermFile, types, earlier}
use Rattle.refusal.specs.Numbers.{option_of}
use Rattle.index.specs.Cells.{cell, term_type}
use Rattle.index.specs.First.{Below, InRange}
use Rattle.index.specs.Rules.{listed, type_by, type_named}
use Rattle.index.specs.Standing.{body_at, entry_at}
use Rattle.index.specs.Meaning.{Rows, SizesOf}
use Rattle.index.specs.declared.Sizes.{Sizes}
use Rattle.index.specs.Lists.{number_at}
use Rattle.index_compare.specs.View.{Decides, viewed, reference_numbers, segments_at}
use Rattle.index_compare.specs.declared.compare.View.TheVariants.{Listed}
use Rattle.index_search.specs.Searchable.{Indexed}
use Rattle.check_rules.specs.Marks.{type_bytes}
use Rattle.read_record.specs.Marks.{mark}
use Rattle.read_record.specs.declared.mark.Kind.{Kind}
use Rattle.read_record.specs.declared.mark.Kind.TheVariants as kind
use Rattle.check_types.specs.declared.Sought.{Sought}
use Rattle.check_types.specs.declared.Sought.TheVariants as sought

-- r says the first type that is equal to the type of the term at an offset
pub record TypeSought (file : Bytes) (work : List ℕ) (sizes : Sizes) (o : ℕ) (r : rust.Option ℕ) : Type 0 where
  pub go : (f : TermFile) → Indexed file f work sizes.rows → SizesOf f sizes → (m : TermMark ℕ ℕ) (rs : List ℕ) → entry_at file o ≡ some (term m rs) → InRange (earlier f) (term m rs)
      → option_of r ≡ place (eq_ty (type_named f (type_by (cell work sizes.rows term_type) m rs))) (types f)

-- ---- fields of records

-- the width of a bit-vector type or value
unfoldable pub width_at : Bytes → ℕ → ℕ
width_at file o = number_at (body_at file o) 0

-- the code of an extension type or value
unfoldable pub code_at : Bytes → ℕ → ℕ
code_at file o = get_or (body_at file o) 0 0

-- the code of an extension value's type: 0 IPAddr has the values 0 V4 and 1 V6, and each other type the value that follows it
unfoldable pub value_code : Bytes → ℕ → ℕ
value_code file o = code_at file o - 1

-- the first type that a record refers to, or that a term has to which it refers, by the number of the first equal type
unfoldable pub part_at : Bytes → List ℕ → ℕ → ℕ → ℕ
part_at file work rows o = get_or (reference_numbers 2 (map (viewed work rows Listed) (segments_at file o))) 0 0

-- ---- what is sought

-- the kind of the type that is sought
abbrev pub kind_sought : Sought → Kind
kind_sought sought.Bool = kind.TB
kind_sought sought.String = kind.TS
kind_sought (sought.BitVec n) = kind.TV
kind_sought (sought.Extension c) = kind.TX
kind_sought (sought.Option n) = kind.TO
kind_sought (sought.Set n) = kind.TC
kind_sought (sought.Record p) = kind.TR

-- the second byte of its mark
unfoldable pub mark_letter : Sought → ℕ
mark_letter s = get_or (mark (kind_sought s)) 1 0

-- what is beside the kind is of the term at an offset: its width, the code of its type, the type that it first refers to, or the offset itself
abbrev pub FieldsOf : Bytes → List ℕ → ℕ → ℕ → Sought → Type 0
FieldsOf file work rows o sought.Bool = Unit {0}
FieldsOf file work rows o sought.String = Unit {0}
FieldsOf file work rows o (sought.BitVec n) = n ≡ width_at file o
FieldsOf file work rows o (sought.Extension c) = c ≡ value_code file o
FieldsOf file work rows o (sought.Option n) = n ≡ part_at file work rows o
FieldsOf file work rows o (sought.Set n) = n ≡ part_at file work rows o
FieldsOf file work rows o (sought.Record p) = p ≡ o

-- the kind is that of the type of the term at an offset, where the term does not refer to it
pub record KindSought (file : Bytes) (o : ℕ) (sought : Kind) : Type 0 where
  pub go : (m : TermMark ℕ ℕ) (rs : List ℕ) → entry_at file o ≡ some (term m rs) → (τ : ℕ → ℕ) (t : TypeMark) (parts : List ℕ) → type_by τ m rs ≡ listed t parts → mark sought ≡ type_bytes t

-- what is sought is the type of the term at an offset, where the term does not refer to it
pub record Wanted (file : Bytes) (work : List ℕ) (rows o : ℕ) (s : Sought) : Type 0 where
  pub kind_is : KindSought file o (kind_sought s)
  pub fields_are : FieldsOf file work rows o s

-- the term at an offset refers to its type
pub record Refers (file : Bytes) (o : ℕ) : Type 0 where
  pub go : (m : TermMark ℕ ℕ) (rs : List ℕ) → entry_at file o ≡ some (term m rs) → (τ : ℕ → ℕ) (t : TypeMark) (parts : List ℕ) → type_by τ m rs ≡ listed t parts → ⊥

-- the term at an offset does not refer to its type
pub record Unreferred (file : Bytes) (o : ℕ) : Type 0 where
  pub go : (m : TermMark ℕ ℕ) (rs : List ℕ) → entry_at file o ≡ some (term m rs) → (τ : ℕ → ℕ) → (t : TypeMark) × (parts : List ℕ) × (type_by τ m rs ≡ listed t parts)

-- what is sought by the term at an offset; none where the term refers to its type
abbrev pub SoughtBy : Bytes → List ℕ → ℕ → ℕ → rust.Option Sought → Type 0
SoughtBy file work rows o (rust.Some s) = Wanted file work rows o s × Unreferred file o
SoughtBy file work rows o rust.None = Refers file o

-- a term stands at an offset whose type is to be listed, by this mark and these parts
pub record Seeks (file : Bytes) (work : List ℕ) (rows o : ℕ) (f : TermFile) (t : TypeMark) (parts : List ℕ) : Type 0 where
  pub index : Rows file f work rows
  pub mark : TermMark ℕ ℕ
  pub refs : List ℕ
  pub reads : entry_at file o ≡ some (term mark refs)
  pub in_range : InRange (earlier f) (term mark refs)
  pub by : type_by (cell work rows term_type) mark refs ≡ listed t parts

-- r is whether the type at an offset p is that of the term at an offset o
pub record SameType (file : Bytes) (work : List ℕ) (rows p o : ℕ) (r : Bool) : Type 0 where
  pub go : (f : TermFile) (t : TypeMark) (parts : List ℕ) → Seeks file work rows o f t parts → (u : TypeMark) (rs : List ℕ) → entry_at file p ≡ some (type u rs) → Below (length (types f)) rs
      → Decides r (type_named f (listed u rs) ≡ type_named f (listed t parts))
