-- The parts of a record type's constructor, and what writing them promises.
-- Assumes nothing.
use Rattle.std.specs.Prelude.{ℕ, suc, List, [], ◌∷◌, ◌++◌, map, length}
use Rattle.std.proofs.Math.Option.{Option}
use Rattle.script_spec.specs.Base.{Bytes, bytes}
use Rattle.script_spec.specs.File.{TermFile, types, type_at}
use Rattle.script_spec.specs.Command.{headed, spaced, line, declare_datatype}
use Rattle.script_spec.specs.Spelling.{Names, sort, attribute_name, numbered_from, record_constructor}
use Rattle.script_spec.specs.Walk.{numbered, names}
use Rattle.refusal.specs.Numbers.{option_of}
use Rattle.write_bytes.specs.declared.writer.Writer.{Writer}
use Rattle.index.specs.First.{Below}
use Rattle.index.specs.declared.Records.{Records}
use Rattle.walk_names.specs.Spells.{Spells, HasType}
use Rattle.index_entry.specs.Terms.{children_in}
use Rattle.write_types.specs.declared.records.RecordType.{RecordType}

-- the i-th part of a record type with this name, after a space
unfoldable pub part_text : Names → TermFile → Bytes → ℕ → ℕ → Bytes
part_text ν f name i p = bytes " " ++ headed (attribute_name name i) (sort ν (type_at f p) ∷ [])

-- parts from the i-th on, each after a space
unfoldable pub parts_text : Names → TermFile → Bytes → ℕ → List ℕ → Bytes
parts_text ν f name i [] = []
parts_text ν f name i (p ∷ ps) = part_text ν f name i p ++ parts_text ν f name (suc i) ps

-- the name of a record type by its place
unfoldable pub record_name : Option ℕ → Bytes
record_name name = numbered (bytes "R") name

-- the name of a record type, and the numbers of its parts
abbrev pub named_of : RecordType → Bytes
named_of ty = record_name (option_of ty.name)

abbrev pub parts_of : RecordType → List ℕ
parts_of ty = children_in ty.attributes

-- its parts are types of the file
abbrev pub PartsIn : RecordType → TermFile → Type 0
PartsIn ty f = Below (length (types f)) (parts_of ty)

-- the i-th part of a record type is written
abbrev pub SpellsPart : Records → Option ℕ → ℕ → ℕ → Writer → Writer → Type 0
SpellsPart records name i p = Spells records (HasType p) (λ f S. part_text (names S) f (record_name name) i p)

-- so are its parts
abbrev pub SpellsParts : Records → RecordType → Writer → Writer → Type 0
SpellsParts records ty = Spells records (PartsIn ty) (λ f S. parts_text (names S) f (named_of ty) 0 (parts_of ty))

-- the sorts of parts, by their numbers
unfoldable pub part_sorts : Names → TermFile → List ℕ → List Bytes
part_sorts ν f ps = map (sort ν) (map (type_at f) ps)

-- the arguments of a record type's constructor, after a space
unfoldable pub arguments_text : Names → TermFile → Bytes → List ℕ → Bytes
arguments_text ν f name ps = bytes " " ++ spaced (numbered_from 0 (λ i part. headed (attribute_name name i) (part ∷ [])) (part_sorts ν f ps))

-- the arguments of the constructor are written
abbrev pub SpellsSpaced : Records → RecordType → Writer → Writer → Type 0
SpellsSpaced records ty = Spells records (PartsIn ty) (λ f S. arguments_text (names S) f (named_of ty) (parts_of ty))

-- the declaration of a record type is written as a line
abbrev pub SpellsRecordType : Records → RecordType → Writer → Writer → Type 0
SpellsRecordType records ty =
    Spells records (PartsIn ty) (λ f S. line (declare_datatype (named_of ty) [] (record_constructor (named_of ty) (part_sorts (names S) f (parts_of ty)) ∷ [])))
