-- The elements of a pattern as they are spelled.
-- Assumes nothing.
use Rattle.std.specs.Prelude.{List, ◌∷◌, ◌++◌, ℕ}
use Rattle.script_spec.specs.Base.{Bytes, bytes, collect}
use Rattle.script_spec.specs.Spelling.{pattern_element}
use Rattle.read_field.specs.Words.{elements}
use Rattle.write_pattern.specs.declared.Elements.{Elements}

-- the elements that are left
abbrev pub elements_in : Elements → List ℕ
elements_in e = elements e.bytes.now

-- an element with a space before it
unfoldable pub spaced_element : ℕ → Bytes
spaced_element c = 32 ∷ pattern_element c

-- an element and those after it, one after another
unfoldable pub several : ℕ → List ℕ → Bytes
several c cs = bytes "(re.++ " ++ (pattern_element c ++ (collect spaced_element cs ++ bytes ")"))
