-- The constructors of an enum's members, and what writing them promises.
-- Assumes nothing.
use Rattle.std.specs.Prelude.{ℕ, zero, suc, ◌≡◌, List, [], ◌∷◌, ◌++◌, length}
use Rattle.std.proofs.Math.Option.{Option, none, some}
use Rattle.script_spec.specs.Base.{Bytes, bytes, joined}
use Rattle.script_spec.specs.Command.{line, listed, declare_datatype}
use Rattle.script_spec.specs.Spelling.{member_name, entity_constructors}
use Rattle.script_spec.specs.Walk.{numbered}
use Rattle.write_bytes.specs.Writers.{Writes}
use Rattle.write_bytes.specs.declared.writer.Writer.{Writer}
use Rattle.walk_names.specs.Script.{Continues}

-- the name of an entity type by its place
unfoldable pub entity_symbol : Option ℕ → Bytes
entity_symbol name = numbered (bytes "E") name

-- the constructor of the i-th member, on a line of its own
unfoldable pub member_text : Bytes → ℕ → Bytes
member_text name i = bytes "\n  " ++ listed (member_name name i ∷ [])

-- those of n members from the i-th on
unfoldable pub members_text : Bytes → ℕ → ℕ → Bytes
members_text name i zero = []
members_text name i (suc n) = member_text name i ++ members_text name (suc i) n

-- the declaration of an entity type that is no enum is written as a line
abbrev pub SpellsEntity : Option ℕ → Writer → Writer → Type 0
SpellsEntity name v w = Writes v w (line (declare_datatype (entity_symbol name) [] (entity_constructors (entity_symbol name) none)))

-- the constructors of an enum with n members are written, each on a line of its own
pub record SpellsMembers (name : Option ℕ) (n : ℕ) (v w : Writer) : Type 0 where
  pub same : Continues v w
  pub go : (ms : List Bytes) → length ms ≡ n → Writes v w (bytes "\n  " ++ joined (bytes "\n  ") (entity_constructors (entity_symbol name) (some ms)))

-- the declaration of an enum with n members is written as a line
pub record SpellsEnum (name : Option ℕ) (n : ℕ) (v w : Writer) : Type 0 where
  pub same : Continues v w
  pub go : (ms : List Bytes) → length ms ≡ n → Writes v w (line (declare_datatype (entity_symbol name) [] (entity_constructors (entity_symbol name) (some ms))))
