-- The memory that a search goes through: what the search needs of it, and the index with the depths beside.
-- Assumes nothing.
use Rattle.std.specs.Prelude.{ℕ, List}
use Rattle.script_spec.specs.Base.{Bytes}
use Rattle.script_spec.specs.File.{TermFile}
use Rattle.index.specs.Meaning.{Rows, Depths}
use Rattle.index_search.specs.Slots.{Slots}

-- the records f can be searched for in the memory; how is the search's own, and those above hand this on and never open it
abbrev pub Searchable : Bytes → TermFile → List ℕ → ℕ → Type 0
Searchable file f work rows = Slots file f work rows

-- the memory is the index of the records f, with their depths, and can be searched
pub record Indexed (file : Bytes) (f : TermFile) (work : List ℕ) (rows : ℕ) : Type 0 where
  pub index : Rows file f work rows
  pub depths : Depths file f work rows
  pub searchable : Searchable file f work rows
