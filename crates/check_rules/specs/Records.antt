-- The rules of a record that stands at an offset of the file.
-- Assumes nothing.
use Rattle.std.specs.Prelude.{◌≡◌, ℕ, Bool, List}
use Rattle.std.proofs.Math.Option.{some}
use Rattle.script_spec.specs.Base.{Bytes, if_some, ascending}
use Rattle.script_spec.specs.Tree.{TypeMark, node, nil, attributes}
use Rattle.script_spec.specs.Fields.{type}
use Rattle.index.specs.Standing.{entry_at}

-- b is whether the type at an offset keeps rule 9
pub record TypeAscends (file : Bytes) (o : ℕ) (b : Bool) : Type 0 where
  pub go : (m : TypeMark) (rs : List ℕ) → entry_at file o ≡ some (type m rs) → b ≡ if_some ascending (attributes (node m nil))
