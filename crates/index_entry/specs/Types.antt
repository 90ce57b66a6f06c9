-- What the types that are read again are.
-- Assumes nothing.
use Rattle.std.specs.Prelude.{ℕ, ◌≡◌, List, [], ◌∷◌}
use Rattle.std.proofs.Math.Option.{Option, none, some}
use Rattle.script_spec.specs.Base.{Bytes}
use Rattle.script_spec.specs.Tree as tree
use Rattle.script_spec.specs.Tree.{TypeMark, Bool·, String·, Option·, Set·, BitVec·, Declared, entity, extension, record_of}
use Rattle.script_spec.specs.Fields.{Entry, type}
use Rattle.index.specs.Standing.{entry_of, body_at, entry_at}
use Rattle.index_entry.specs.Terms.{children_in, names_in}
use Rattle.index_entry.specs.declared.types.ExtType.{ExtType}
use Rattle.index_entry.specs.declared.types.ExtType.TheVariants as ext
use Rattle.index_entry.specs.declared.types.TypeEntry.{TypeEntry}
use Rattle.index_entry.specs.declared.types.TypeEntry.TheVariants as entry

unfoldable pub ext_type_said : ExtType → tree.ExtType
ext_type_said ext.IPAddr = tree.IPAddr
ext_type_said ext.Decimal = tree.Decimal
ext_type_said ext.Datetime = tree.Datetime
ext_type_said ext.Duration = tree.Duration

-- the entry that a type stands for
unfoldable pub type_said : TypeEntry → Option Entry
type_said entry.Bool = some (type Bool· [])
type_said entry.String = some (type String· [])
type_said (entry.BitVec n) = some (type (BitVec· n) [])
type_said (entry.Option n) = some (type Option· (n ∷ []))
type_said (entry.Set n) = some (type Set· (n ∷ []))
type_said (entry.Entity name) = some (type (Declared (entity name.now)) [])
type_said (entry.Ext x) = some (type (Declared (extension (ext_type_said x))) [])
type_said (entry.Record c) = some (type (Declared (record_of (names_in c))) (children_in c))
type_said entry.Unreadable = none

-- a record type's attributes stand in this body
unfoldable pub stands_in : Bytes → TypeEntry → Type 0
stands_in body entry.Bool = Unit {0}
stands_in body entry.String = Unit {0}
stands_in body (entry.BitVec n) = Unit {0}
stands_in body (entry.Option n) = Unit {0}
stands_in body (entry.Set n) = Unit {0}
stands_in body (entry.Entity name) = Unit {0}
stands_in body (entry.Ext x) = Unit {0}
stands_in body (entry.Record c) = c.body.now ≡ body
stands_in body entry.Unreadable = Unit {0}

-- a body that is a type under a mark is this type
pub record IsType (mark : Option Bytes) (body : Bytes) (r : TypeEntry) : Type 0 where
  pub go : (m : Bytes) (t : TypeMark) (rs : List ℕ) → mark ≡ some m → entry_of m body ≡ some (type t rs) → type_said r ≡ some (type t rs)
  pub within : stands_in body r

-- a record that is a type at an offset of a file is this type
pub record TypeAt (file : Bytes) (offset : ℕ) (r : TypeEntry) : Type 0 where
  pub go : (t : TypeMark) (rs : List ℕ) → entry_at file offset ≡ some (type t rs) → type_said r ≡ some (type t rs)
  pub within : stands_in (body_at file offset) r

-- a record that is an option or a set at an offset of a file has this part
pub record PartAt (file : Bytes) (offset : ℕ) (r : ℕ) : Type 0 where
  pub option : (rs : List ℕ) → entry_at file offset ≡ some (type Option· rs) → rs ≡ r ∷ []
  pub set : (rs : List ℕ) → entry_at file offset ≡ some (type Set· rs) → rs ≡ r ∷ []
