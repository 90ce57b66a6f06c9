-- The rules of an enum that stands at an offset of the file.
-- Assumes nothing.
use Rattle.std.specs.Prelude.{◌≡◌, ℕ, Bool, not, List, drop}
use Rattle.std.proofs.Math.Option.{some}
use Rattle.script_spec.specs.Base.{Bytes, ascending, empty}
use Rattle.script_spec.specs.Fields.{got, text, enum}
use Rattle.index.specs.Standing.{entry_at}

-- the text at the start of a body, where there is one
pub record NameRead (body name : Bytes) : Type 0 where
  pub go : (t left : Bytes) → text body ≡ got t left → name ≡ t

-- what is left after that text starts here
pub record MembersFrom (body : Bytes) (at : ℕ) : Type 0 where
  pub go : (t left : Bytes) → text body ≡ got t left → left ≡ drop at body

module _ (file : Bytes) (o : ℕ) (b : Bool) where
  -- b is whether the members ascend
  pub record EnumAscends : Type 0 where
    pub go : (name : Bytes) (members : List Bytes) → entry_at file o ≡ some (enum name members) → b ≡ ascending members

  -- b is whether there are members
  pub record EnumGiven : Type 0 where
    pub go : (name : Bytes) (members : List Bytes) → entry_at file o ≡ some (enum name members) → b ≡ not (empty members)

-- r is the name of the enum at an offset
pub record NameAt (file : Bytes) (o : ℕ) (r : Bytes) : Type 0 where
  pub go : (name : Bytes) (members : List Bytes) → entry_at file o ≡ some (enum name members) → r ≡ name
