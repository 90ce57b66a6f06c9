-- The arguments of a defined function, as they are spelled.
-- Assumes nothing.
use Rattle.std.specs.Prelude.{List, [], ◌∷◌, map}
use Rattle.script_spec.specs.Base.{Bytes}
use Rattle.script_spec.specs.Command.{listed}

-- a name with its sort
abbrev pub argument : Bytes × Bytes → Bytes
argument p = listed (p.0 ∷ p.1 ∷ [])

abbrev pub arguments : List (Bytes × Bytes) → List Bytes
arguments ps = map argument ps
