-- What a search among the enums for a name finds: the enum of that name, or that there is none.
-- Assumes nothing.
use Rattle.std.specs.Prelude.{◌≡◌, ℕ, suc, ◌≤◌, ◌<◌, Bool, List, [], length, get_or, Option, Some, None}
use Rattle.script_spec.specs.Base.{Bytes}
use Rattle.script_spec.specs.File.{TermFile, enums}
use Rattle.index.specs.Names.{code_of, key_of, name_home, enum_name, EnumNames}
use Rattle.index.specs.Meaning.{EnumRow, SizesOf}
use Rattle.index.specs.Held.{Stays}
use Rattle.index.specs.declared.RecordsMut.{RecordsMut}
use Rattle.index_compare.specs.View.{Decides}
use Rattle.index_search.specs.Storing.{Stored}
use Rattle.index_search.specs.Searchable.{Indexed}

-- the rows of the enums of the records f, and their slots
pub record EnumRows (file : Bytes) (f : TermFile) (work : List ℕ) (rows : ℕ) : Type 0 where
  pub row : (n : ℕ) → n < length (enums f) → EnumRow file f work rows n (get_or (enums f) n ([], [])).0 (get_or (enums f) n ([], [])).1
  pub names : EnumNames f work rows

-- r is whether the enum with number n has the name
pub record IsNamed (file : Bytes) (work : List ℕ) (rows n : ℕ) (name : Bytes) (r : Bool) : Type 0 where
  pub go : (f : TermFile) → EnumRows file f work rows → n < length (enums f) → Decides r (enum_name f n ≡ name)

module _ (f : TermFile) (count : ℕ) (name : Bytes) where
  -- an enum of the name
  pub record HitNamed (r : ℕ) : Type 0 where
    pub below : r < count
    pub equal : enum_name f r ≡ name

  -- no enum has the name
  pub record MissNamed : Type 0 where
    pub none : (n : ℕ) → n < count → enum_name f n ≡ name → ⊥

-- an enum has the name, and the memory is as it was
pub record KnownName (work work' : List ℕ) (f : TermFile) (count : ℕ) (name : Bytes) (r : ℕ) : Type 0 where
  pub hit : HitNamed f count name r
  pub unchanged : work' ≡ work

-- no enum has the name, and it is entered with `count` for its number; how is the search's own
pub record NewName (work work' : List ℕ) (rows : ℕ) (f : TermFile) (count : ℕ) (name : Bytes) : Type 0 where
  pub miss : MissNamed f count name
  pub stored : Stored work work' rows (name_home (key_of work rows) rows name) (code_of count 3)

-- one or the other
abbrev pub NamedTold : List ℕ → List ℕ → ℕ → TermFile → ℕ → Bytes → Option ℕ → Type 0
NamedTold work work' rows f count name (Some r) = KnownName work work' f count name r
NamedTold work work' rows f count name None = NewName work work' rows f count name

-- what the search answers that enters the name, where there is room for one record more
pub record EnrolsNamed (v w : RecordsMut) (name : Bytes) (r : Option ℕ) : Type 0 where
  pub stays : Stays v w
  pub go : (f : TermFile) → Indexed v.file.now f v.work.now v.sizes.rows → SizesOf f v.sizes → suc (length f) ≤ v.sizes.rows → NamedTold v.work.now w.work.now v.sizes.rows f v.sizes.enums name r
