-- A set that stands in the file, its hash, and the test by notes whether another set has the same elements.
-- Assumes nothing.
use Rattle.std.specs.Prelude.{◌≡◌, ℕ, ◌<◌, Bool, List, map, length, get_or, Option, Some, None}
use Rattle.std.proofs.Math.Option.{some}
use Rattle.script_spec.specs.Base.{Bytes}
use Rattle.script_spec.specs.Tree.{Set}
use Rattle.script_spec.specs.Fields.{Entry, term}
use Rattle.index.specs.Cells.{cell, type_first, term_first, note}
use Rattle.index.specs.First.{NoSet}
use Rattle.index.specs.Standing.{entry_at}
use Rattle.index.specs.Names.{key_of}
use Rattle.index_compare.specs.View.{Decides}
use Rattle.check_rules.specs.Repeats.{References}
use Rattle.index_search.specs.Hash.{set_hash}
use Rattle.index_search.specs.declared.sets.Listed.{Listed}

-- the entry is the set l
pub record ListedAs (y : Entry) (l : Listed) : Type 0 where
  pub members : List ℕ
  pub is : y ≡ term (Set l.ty) members
  pub references : References l.elements.body.now l.elements.at members l.count

-- what an answer tells of an entry
abbrev pub SetTold : Option Listed → Entry → Type 0
SetTold (Some l) y = ListedAs y l
SetTold None y = NoSet y

-- r is the set that is read at an offset, or none where what is read is no set
pub record SetAt (file : Bytes) (o : ℕ) (r : Option Listed) : Type 0 where
  pub go : (y : Entry) → entry_at file o ≡ some y → SetTold r y

-- h is the hash of the set l
pub record SetHash (work : List ℕ) (rows : ℕ) (l : Listed) (h : ℕ) : Type 0 where
  pub go : (rs : List ℕ) → References l.elements.body.now l.elements.at rs l.count → h ≡ set_hash (key_of work rows) (cell work rows type_first l.ty) (map (cell work rows term_first) rs)

-- the entry is a set of so many elements, whose type has this first equal number, and the first equal number of each element has a note
pub record NotedSet (work : List ℕ) (rows ty count : ℕ) (y : Entry) : Type 0 where
  pub of : ℕ
  pub members : List ℕ
  pub is : y ≡ term (Set of) members
  pub type_is : cell work rows type_first of ≡ ty
  pub size : length members ≡ count
  pub noted : (i : ℕ) → i < count → cell work rows note (cell work rows term_first (get_or members i 0)) ≡ 0 → ⊥

-- r is whether the entry at an offset is such a set
pub record SameSet (file : Bytes) (work : List ℕ) (rows o ty count : ℕ) (r : Bool) : Type 0 where
  pub go : (y : Entry) → entry_at file o ≡ some y → Decides r (NotedSet work rows ty count y)
