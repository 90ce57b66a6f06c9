-- What declares a type, by its entry: each kind of datatype, and the entries that are none.
-- Assumes nothing.
use mathlib.Core.Path.{◌≡◌, refl, sym, ap, ◌∙◌}
use mathlib.Core.List.{List, [], map}
use mathlib.Core.Option.{Option, none, some}
use Prim.Native.Nat.{ℕ, ◌<◌}
use native.Mathlib.Omega.{arith}
use lib.ListN.{length}
use denote.Ref.{Bor}
use Rattle.std.specs.Prelude as std
use Rattle.script_spec.specs.Base.{Bytes, and_then, place}
use Rattle.script_spec.specs.Tree.{TypeMark, Ty, Datatype, entity, extension, record_of, Declared, node, nil, forest, eq_ty, datatype, datatype_mark, entity_name, name_of_entity}
use Rattle.script_spec.specs.Fields as fields
use Rattle.script_spec.specs.Fields.{Entry}
use Rattle.script_spec.specs.File.{TermFile, types, members, type_at}
use Rattle.script_spec.specs.Command.{line, declare_datatype}
use Rattle.script_spec.specs.Spelling.{ext_name, ext_constructors}
use Rattle.script_spec.specs.Walk.{State}
use Rattle.refusal.specs.Numbers.{option_of}
use Rattle.write_bytes.specs.Writers.{Writes}
use Rattle.write_bytes.specs.declared.writer.Writer.{Writer}
use Rattle.index.specs.Cells.{cell, type_offset, type_first, type_list}
use Rattle.index.specs.First.{Below}
use Rattle.index.specs.Meaning.{counted}
use Rattle.index.specs.declared.Records.{Records}
use Rattle.index.proofs.Later.{below_more}
use Rattle.walk_names.specs.Naming.{type_names, name_at, place_of, IndexOf}
use Rattle.walk_names.proofs.Names.{place_type}
use Rattle.walk_names.proofs.Spelling.{written, spells_as, unwritten, knowing}
use Rattle.index_entry.specs.Types.{ext_type_said, type_said, TypeAt}
use Rattle.index_entry.specs.Terms.{children_in, names_in}
use Rattle.index_entry.specs.declared.terms.Children.{Children}
use Rattle.index_entry.proofs.Rows.{type_stands}
use Rattle.index_entry.specs.declared.types.ExtType.{ExtType}
use Rattle.index_entry.specs.declared.types.TypeEntry.{TypeEntry}
use Rattle.index_entry.specs.declared.types.TypeEntry.TheVariants as entry
use Rattle.write_types.specs.Lines.{type_lines, SpellsRecordLines, SpellsEntityLines, SpellsType}
use Rattle.write_types.proofs.Scripts.{declaring, entity_script, record_script, ext_script}

-- the lines of a datatype
lines_of : (f : TermFile) (S : State) (t : ℕ) (d : Datatype) (ty : Ty) → ty ≡ type_at f t → datatype ty ≡ some d → declaring (members f) S d ty ≡ type_lines f S t
unfolding type_lines declaring
lines_of f S t d ty tree is = let e : datatype (type_at f t) ≡ some d = ap datatype (sym tree) ∙ is in rw (type_lines, e, tree)

module _ (records : Records) {t : ℕ} {r : TypeEntry} (T : TypeAt records.file.now (cell records.work.now records.sizes.rows type_offset t) r) where
  -- the type that the entry names, whose parts have lower numbers
  type_here : {A : Type 0} (f : TermFile) → IndexOf f records → t < length (types f) → (m : TypeMark) (rs : List ℕ) → type_said r ≡ some (fields.type m rs)
      → (Below (length (types f)) rs → node m (forest (map (type_at f) rs)) ≡ type_at f t → A) → A
  unfolding counted
  type_here f I l m rs h next =
      type_stands (I.rows.type_row t l).stands (λ m' rs' reads below tree.
      let e : some (fields.type m rs) ≡ some (fields.type m' rs') = sym h ∙ T.go m' rs' reads in
      let em : m ≡ m' = cc in
      let er : rs ≡ rs' = cc in
      next (rw er (below_more t (length (types f)) (omega arith) rs' below)) (rw (em, er) tree))

  module _ {v w : Writer} where
    -- an entity type
    pub spells_entity : {text : Bor Bytes} {name : Option ℕ} {i : ℕ} → r ≡ entry.Entity text → name ≡ place_of (name_at records.work.now records.sizes.rows type_first type_names t)
        → i ≡ cell records.work.now records.sizes.rows type_list t → SpellsEntityLines records text.now name i v w → SpellsType records t v w
    unfolding type_said forest datatype datatype_mark entity_name and_then name_of_entity
    spells_entity {text} {name} e n noted L =
        spells_as (λ f S I N l.
        type_here f I l (Declared (entity text.now)) [] (rw e) (λ below tree.
        let known : name ≡ place (eq_ty (node (Declared (entity text.now)) nil)) S.types = rw (n, tree) (sym (place_type I.rows t N l)) in
        entity_script (members f) S name text.now known ∙ lines_of f S t (entity text.now) _ tree refl))
        (knowing (λ f I l. type_here f I l (Declared (entity text.now)) [] (rw e) (λ below tree. noted ∙ (I.noted t l).enum_is text.now (ap entity_name (sym tree)))) L)

    -- a record type
    pub spells_record_type : {c : Children} (name : std.Option ℕ) → r ≡ entry.Record c → option_of name ≡ place_of (name_at records.work.now records.sizes.rows type_first type_names t)
        → SpellsRecordLines records (record { name = name; attributes = c }) v w → SpellsType records t v w
    unfolding type_said datatype datatype_mark
    spells_record_type {c} name e n L =
        spells_as (λ f S I N l.
        type_here f I l (Declared (record_of (names_in c))) (children_in c) (rw e) (λ below tree.
        let known : option_of name ≡ place (eq_ty (node (Declared (record_of (names_in c))) (forest (map (type_at f) (children_in c))))) S.types = rw (n, tree) (sym (place_type I.rows t N l)) in
        record_script (members f) S (option_of name) f (names_in c) (children_in c) known ∙ lines_of f S t (record_of (names_in c)) _ tree refl))
        (knowing (λ f I l. type_here f I l (Declared (record_of (names_in c))) (children_in c) (rw e) (λ below tree. below)) L)

    -- an extension type
    pub spells_ext : {z : ExtType} → r ≡ entry.Ext z → Writes v w (line (declare_datatype (ext_name (ext_type_said z)) [] (ext_constructors (ext_type_said z)))) → SpellsType records t v w
    unfolding type_said forest datatype datatype_mark
    spells_ext {z} e A =
        spells_as (λ f S I N l.
        type_here f I l (Declared (extension (ext_type_said z))) [] (rw e) (λ below tree.
        ext_script (members f) S none (ext_type_said z) ∙ lines_of f S t (extension (ext_type_said z)) _ tree refl))
        (written A)

-- the datatype that an entry is
unfoldable datatype_said : Option Entry → Option Datatype
datatype_said none = none
datatype_said (some (fields.type m rs)) = datatype_mark m
datatype_said (some (fields.enum n ms)) = none
datatype_said (some (fields.func id a r)) = none
datatype_said (some (fields.term m rs)) = none
datatype_said (some (fields.input n)) = none

module _ (r : TypeEntry) (e : (name : Bor Bytes) → r ≡ entry.Entity name → ⊥) (x : (z : ExtType) → r ≡ entry.Ext z → ⊥) (c : (c : Children) → r ≡ entry.Record c → ⊥) where
  no_datatype : datatype_said (type_said r) ≡ none
  unfolding datatype_said type_said datatype_mark
  no_datatype = go r refl
    where
      go : (q : TypeEntry) → r ≡ q → datatype_said (type_said q) ≡ none
      go entry.Bool h = refl
      go entry.String h = refl
      go (entry.BitVec n) h = refl
      go (entry.Option n) h = refl
      go (entry.Set n) h = refl
      go (entry.Entity p) h = absurd (e p h)
      go (entry.Ext z) h = absurd (x z h)
      go (entry.Record d) h = absurd (c d h)
      go entry.Unreadable h = refl

  -- what is no datatype has nothing that declares it
  pub spells_none : {records : Records} {t : ℕ} {v : Writer} → TypeAt records.file.now (cell records.work.now records.sizes.rows type_offset t) r → SpellsType records t v v
  unfolding datatype_said datatype type_lines
  spells_none {records} {t} T =
      unwritten (λ f S I N l.
      type_stands (I.rows.type_row t l).stands (λ m' rs reads below tree.
      let no : datatype_mark m' ≡ none = ap datatype_said (sym (T.go m' rs reads)) ∙ no_datatype in
      rw (type_lines, ← tree, no)))
