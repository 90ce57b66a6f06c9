-- Enums by name and members.
-- Assumes nothing.
use Rattle.std.specs.Prelude.{List}
use Rattle.script_spec.specs.Base.{Bytes}
use Rattle.script_spec.specs.File as file
use Rattle.script_spec.specs.File.{Named}

-- an enum by its name and members
unfoldable pub enum_named : Bytes × List Bytes → Named
enum_named p = file.enum p.0 p.1
