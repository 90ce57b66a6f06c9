-- The search for the type of a term in the slots: its hash, its home, and what is found from there on.
-- Assumes nothing.
use Rattle.std.specs.Prelude.{◌≡◌, ℕ, ◌<◌, List, map, length, Option}
use Rattle.script_spec.specs.Base.{Bytes, place}
use Rattle.script_spec.specs.Tree.{TypeMark, eq_ty}
use Rattle.script_spec.specs.Fields.{type}
use Rattle.script_spec.specs.File.{TermFile, types}
use Rattle.refusal.specs.Numbers.{option_of}
use Rattle.index.specs.Cells.{cell, type_offset, type_first}
use Rattle.index.specs.First.{canonical}
use Rattle.index.specs.Names.{key_of}
use Rattle.index.specs.Rules.{listed, type_named}
use Rattle.index_compare.specs.Printed.{type_segments}
use Rattle.check_rules.specs.Marks.{type_bytes}
use Rattle.index_search.specs.Hash.{hashed}
use Rattle.index_search.specs.Slots.{home_of, AllReached}
use Rattle.check_types.specs.Sought.{Seeks}

-- r is the hash of the type of the term at an offset
pub record TypeHash (file : Bytes) (work : List ℕ) (rows o r : ℕ) : Type 0 where
  pub go : (f : TermFile) (t : TypeMark) (parts : List ℕ) → Seeks file work rows o f t parts → r ≡ hashed (key_of work rows) (type_bytes t) (type_segments t (map (cell work rows type_first) parts))

-- b is the home slot of that type
pub record TypeHome (file : Bytes) (work : List ℕ) (rows o b : ℕ) : Type 0 where
  pub go : (f : TermFile) (t : TypeMark) (parts : List ℕ) → Seeks file work rows o f t parts → 0 < rows → b ≡ home_of (key_of work rows) rows (canonical f (type t parts))

-- what is looked for, among `count` types, each of which is reached in the slots
pub record LooksForType (file : Bytes) (work : List ℕ) (rows count o : ℕ) (f : TermFile) (t : TypeMark) (parts : List ℕ) : Type 0 where
  pub seeks : Seeks file work rows o f t parts
  pub count_is : count ≡ length (types f)
  pub reached : AllReached file f work rows type_offset 0 count

-- r says the first type that is that of the term at an offset
pub record ListedSought (file : Bytes) (work : List ℕ) (rows count o : ℕ) (r : Option ℕ) : Type 0 where
  pub go : (f : TermFile) (t : TypeMark) (parts : List ℕ) → LooksForType file work rows count o f t parts → option_of r ≡ place (eq_ty (type_named f (listed t parts))) (types f)
