-- The lines that declare a type, and what writing them promises.
-- Assumes nothing.
use Rattle.std.specs.Prelude.{ℕ, ◌≡◌, List, [], ◌∷◌, ◌++◌}
use Rattle.std.proofs.Math.Option.{Option, none, some}
use Rattle.script_spec.specs.Base.{Bytes, bytes, joined}
use Rattle.script_spec.specs.Tree.{datatype}
use Rattle.script_spec.specs.File.{TermFile, members, type_at}
use Rattle.script_spec.specs.Command.{◌⊹◌, line, script, comment, declare_datatype}
use Rattle.script_spec.specs.Spelling.{Names, entity_comment, entity_constructors, record_constructor, type_comment, type_declaration}
use Rattle.script_spec.specs.Walk.{State, names}
use Rattle.write_bytes.specs.declared.writer.Writer.{Writer}
use Rattle.index.specs.Names.{enum_number}
use Rattle.index.specs.declared.Records.{Records}
use Rattle.walk_names.specs.Spells.{Spells, HasType, HasEnum}
use Rattle.index_entry.specs.Terms.{names_in}
use Rattle.index_search.specs.Enums.{enum_at}
use Rattle.write_types.specs.Records.{named_of, parts_of, part_sorts, PartsIn}
use Rattle.write_types.specs.Members.{entity_symbol}
use Rattle.write_types.specs.declared.records.RecordType.{RecordType}

-- the comment and the declaration of an entity type by its text and its name, with its members if it is an enum
unfoldable pub entity_lines : Bytes → Option ℕ → Option (List Bytes) → Bytes
entity_lines text name ms = line (comment (entity_comment text ms)) ++ line (declare_datatype (entity_symbol name) [] (entity_constructors (entity_symbol name) ms))

-- the comment and the declaration of a record type by its name, its attributes and their types
unfoldable pub record_lines : Names → TermFile → Bytes → List Bytes → List ℕ → Bytes
record_lines ν f name attributes ps =
    line (comment (bytes "{" ⊹ joined (bytes ", ") attributes ⊹ bytes "}")) ++ line (declare_datatype name [] (record_constructor name (part_sorts ν f ps) ∷ []))

-- what declares the type with number t: nothing for one that is no datatype
unfoldable pub type_lines : TermFile → State → ℕ → Bytes
type_lines f S t =
    elim (datatype (type_at f t)) [
      | none ↦ []
      | some d ↦ script (type_comment (members f) d ++ (type_declaration (members f) (names S) d (type_at f t) ∷ []))
    ]

-- the lines of a record type are written
abbrev pub SpellsRecordLines : Records → RecordType → Writer → Writer → Type 0
SpellsRecordLines records ty = Spells records (PartsIn ty) (λ f S. record_lines (names S) f (named_of ty) (names_in ty.attributes) (parts_of ty))

-- so are those of an entity type that has the members of the enum with number i
abbrev pub SpellsEnumLines : Records → Bytes → Option ℕ → ℕ → Writer → Writer → Type 0
SpellsEnumLines records text name i = Spells records (HasEnum i) (λ f S. entity_lines text name (some (enum_at f i).1))

-- so are those of an entity type whose enum has the number i, how many there are where it is none
abbrev pub SpellsEntityLines : Records → Bytes → Option ℕ → ℕ → Writer → Writer → Type 0
SpellsEntityLines records text name i = Spells records (λ f. i ≡ enum_number f text) (λ f S. entity_lines text name (members f text))

-- so are those of the type with number t
abbrev pub SpellsType : Records → ℕ → Writer → Writer → Type 0
SpellsType records t = Spells records (HasType t) (λ f S. type_lines f S t)
