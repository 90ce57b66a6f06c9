-- Parts of the lines of terms, and what writing them promises.
-- Assumes nothing.
use Rattle.std.specs.Prelude.{ℕ, Bool, true, false, ◌++◌}
use Rattle.script_spec.specs.Base.{Bytes, bytes}
use Rattle.script_spec.specs.File.{type_at}
use Rattle.script_spec.specs.Text.{decimal}
use Rattle.script_spec.specs.Spelling.{sort}
use Rattle.script_spec.specs.Walk.{numbered, names}
use Rattle.write_bytes.specs.declared.writer.Writer.{Writer}
use Rattle.index.specs.Cells.{term_first}
use Rattle.index.specs.declared.Records.{Records}
use Rattle.walk_names.specs.Naming.{term_names, name_at, place_of}
use Rattle.walk_names.specs.Spells.{Spells, HasType}

-- a truth value
unfoldable pub truth : Bool → Bytes
truth true = bytes "true"
truth false = bytes "false"

-- the name of the term with number n in memory
unfoldable pub term_name_of : Records → ℕ → Bytes
term_name_of records n = numbered (bytes "t") (place_of (name_at records.work.now records.sizes.rows term_first term_names n))

-- the sort of the type with number t before a mark and a place is written
abbrev pub SpellsNumbered : Records → ℕ → Bytes → ℕ → Writer → Writer → Type 0
SpellsNumbered records t mark i = Spells records (HasType t) (λ f S. sort (names S) (type_at f t) ++ (mark ++ decimal i))
