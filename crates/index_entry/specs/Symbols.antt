-- What the enums and functions that are read again are.
-- Assumes nothing.
use Rattle.std.specs.Prelude.{ℕ, ◌≡◌, List}
use Rattle.std.proofs.Math.Option.{some}
use Rattle.script_spec.specs.Base.{Bytes}
use Rattle.script_spec.specs.Fields as fields
use Rattle.index.specs.Standing.{body_at, entry_at}
use Rattle.index_entry.specs.Places.{texts_in}
use Rattle.index_entry.specs.declared.lists.Texts.{Texts}
use Rattle.index_entry.specs.declared.symbols.Fun.{Fun}

-- an enum whose body is this has these members, with nothing between them
pub record EnumSaid (body : Bytes) (r : Texts) (members : List Bytes) : Type 0 where
  pub members_are : texts_in r ≡ members
  pub within : r.body.now ≡ body
  pub dense : r.skip ≡ 0

-- a function with these types
pub record FunSaid (r : Fun) (a b : ℕ) : Type 0 where
  pub argument_is : r.argument ≡ a
  pub result_is : r.result ≡ b

-- a record that is an enum or a function at an offset of a file is this one
pub record EnumAt (file : Bytes) (offset : ℕ) (r : Texts) : Type 0 where
  pub go : (name : Bytes) (members : List Bytes) → entry_at file offset ≡ some (fields.enum name members) → EnumSaid (body_at file offset) r members

pub record FunAt (file : Bytes) (offset : ℕ) (r : Fun) : Type 0 where
  pub go : (id : Bytes) (a b : ℕ) → entry_at file offset ≡ some (fields.func id a b) → FunSaid r a b
