-- The attributes of a type and the members of an enum, by the record that was read again.
-- Assumes nothing.
use Prim.Native.Nat.{ℕ, ◌<◌}
use mathlib.Core.Path.{◌≡◌, sym, ap, ◌∙◌, subst}
use mathlib.Core.List.{List, [], map}
use mathlib.Core.Option.{Option, none, some}
use lib.ListN.{length, get_or}
use Rattle.script_spec.specs.Base.{Bytes, and_then}
use Rattle.script_spec.specs.Tree as tree
use Rattle.script_spec.specs.Tree.{TypeMark, Datatype, node, forest, entity, extension, record_of, datatype_mark, datatype, attributes_of, attributes}
use Rattle.script_spec.specs.Fields as fields
use Rattle.script_spec.specs.File.{TermFile, types, enums, type_at}
use Rattle.script_spec.proofs.Laws.{never}
use Rattle.index.specs.Cells.{cell, type_offset, enum_offset}
use Rattle.index.specs.Standing.{body_at}
use Rattle.index.specs.Meaning.{Rows}
use Rattle.index_entry.specs.Places.{texts_in}
use Rattle.index_entry.specs.Terms.{names_in, names_of}
use Rattle.index_entry.specs.Types.{ext_type_said, type_said, stands_in, TypeAt}
use Rattle.index_entry.specs.Symbols.{EnumSaid, EnumAt}
use Rattle.index_entry.specs.declared.lists.Texts.{Texts}
use Rattle.index_entry.specs.declared.terms.Children.{Children}
use Rattle.index_entry.specs.declared.types.TypeEntry.{TypeEntry}
use Rattle.index_entry.specs.declared.types.TypeEntry.TheVariants as entry
use Rattle.index_entry.proofs.Places.{names_are}
use Rattle.index_entry.proofs.Rows.{type_stands}

-- ---- datatypes

-- the entity, extension or record type that a type is
unfoldable pub datatype_said : TypeEntry → Option Datatype
datatype_said entry.Bool = none
datatype_said entry.String = none
datatype_said (entry.BitVec n) = none
datatype_said (entry.Option n) = none
datatype_said (entry.Set n) = none
datatype_said (entry.Entity name) = some (entity name.now)
datatype_said (entry.Ext x) = some (extension (ext_type_said x))
datatype_said (entry.Record c) = some (record_of (names_in c))
datatype_said entry.Unreadable = none

marked : (m n : TypeMark) → n ≡ m → datatype_mark m ≡ datatype_mark n
marked m n e = ap datatype_mark (sym e)

said_mark : (m : TypeMark) (rs : List ℕ) (r : TypeEntry) → type_said r ≡ some (fields.type m rs) → datatype_mark m ≡ datatype_said r
unfolding type_said datatype_said datatype_mark
said_mark m rs entry.Bool e = marked m tree.Bool· (cc)
said_mark m rs entry.String e = marked m tree.String· (cc)
said_mark m rs (entry.BitVec n) e = marked m (tree.BitVec· n) (cc)
said_mark m rs (entry.Option n) e = marked m tree.Option· (cc)
said_mark m rs (entry.Set n) e = marked m tree.Set· (cc)
said_mark m rs (entry.Entity name) e = marked m (tree.Declared (entity name.now)) (cc)
said_mark m rs (entry.Ext x) e = marked m (tree.Declared (extension (ext_type_said x))) (cc)
said_mark m rs (entry.Record c) e = marked m (tree.Declared (record_of (names_in c))) (cc)
said_mark m rs entry.Unreadable e = never (cc)

module _ {file : Bytes} {work : List ℕ} {k t : ℕ} {r : TypeEntry} (T : TypeAt file (cell work k type_offset t) r) where
  pub type_here : {A : Type 0} (f : TermFile) → Rows file f work k → t < length (types f)
      → ((m : TypeMark) (rs : List ℕ) → type_said r ≡ some (fields.type m rs) → node m (forest (map (type_at f) rs)) ≡ type_at f t → A) → A
  type_here f I l next = type_stands (I.type_row t l).stands (λ m rs reads below tree. next m rs (T.go m rs reads) tree)

  pub datatype_here : (f : TermFile) → Rows file f work k → t < length (types f) → datatype (type_at f t) ≡ datatype_said r
  unfolding datatype
  datatype_here f I l = type_here f I l (λ m rs said tree. ap datatype (sym tree) ∙ said_mark m rs r said)

  -- the attributes of a record type, and where they stand
  pub attributes_here : {c : Children} → r ≡ entry.Record c → (f : TermFile) → Rows file f work k → t < length (types f) → attributes (type_at f t) ≡ some (texts_in (names_of c))
  unfolding attributes datatype_said and_then attributes_of
  attributes_here {c} e f I l =
      ap (λ (d : Option Datatype). and_then d attributes_of) (datatype_here f I l ∙ ap datatype_said e) ∙ ap some (sym (names_are c))

-- the attributes of a record type stand in its body
pub attributes_inside : {file : Bytes} {o : ℕ} {r : TypeEntry} {c : Children} → TypeAt file o r → r ≡ entry.Record c → c.body.now ≡ body_at file o
unfolding stands_in
attributes_inside {file} {o} T e = subst (stands_in (body_at file o)) e T.within

-- the members of an enum
pub members_here : {file : Bytes} {work : List ℕ} {k e o : ℕ} {x : Texts} → o ≡ cell work k enum_offset e → EnumAt file o x
    → (f : TermFile) → Rows file f work k → e < length (enums f) → EnumSaid (body_at file o) x (get_or (enums f) e ([], [])).1
members_here {file} {e = e} {x = x} place_is E f I l = E.go (get_or (enums f) e ([], [])).0 (get_or (enums f) e ([], [])).1 (rw place_is (I.enum_row e l).stands)
