-- The lists of the attributes of types and the members of enums, as they are made: each in rows of its own, and nothing else changed. And
-- what is noted of other types where record types have their lists.
-- Assumes nothing.
use Rattle.std.specs.Prelude.{ℕ, zero, suc, ◌+◌, ◌*◌, ◌<◌, ◌≤◌, ◌≡◌, Bool, true, List, length, drop}
use denote.Ref.{Bor}
use Rattle.script_spec.specs.Base.{Bytes, ascending}
use Rattle.script_spec.specs.File as records
use Rattle.script_spec.specs.File.{TermFile, types, enums, type_at}
use Rattle.index.specs.Cells.{cell, store, Apart, type_offset, enum_offset, hash, enum_list, type_list, list_row}
use Rattle.index.specs.Lists.{ListsOf}
use Rattle.index.specs.Meaning.{used_entries, HasAttributes, HasMembers, Under, Rows, TypeNoted, SizesOf, CheckedIndex, Index, Unnamed}
use Rattle.index.specs.declared.Sizes.{Sizes}
use Rattle.index_entry.specs.Places.{rest_after_text}
use Rattle.index_entry.specs.Types.{TypeAt}
use Rattle.index_entry.specs.declared.terms.Children.{Children}
use Rattle.index_entry.specs.declared.types.TypeEntry.{TypeEntry}
use Rattle.index_entry.specs.declared.types.TypeEntry.TheVariants as entry

-- every record type's attributes and every enum's members ascend
pub record Ascends (f : TermFile) : Type 0 where
  pub attributes_ascend : (t : ℕ) (names : List Bytes) → t < length (types f) → HasAttributes f t names → ascending names ≡ true
  pub members_ascend : (e : ℕ) (names : List Bytes) → e < length (enums f) → HasMembers f e names → ascending names ≡ true

-- ---- one list

-- half of a count, upwards
pub record RowsOf (count taken : ℕ) : Type 0 where
  pub enough : count ≤ 2 * taken
  pub few : 2 * taken ≤ count + 1

-- so many rows fit from the next one on, before those of the terms
pub record Fits (rows terms next taken : ℕ) : Type 0 where
  pub room : next + taken + terms ≤ rows
  pub small : next + taken < 4294967295

-- after so many texts
unfoldable pub rest_after_texts : ℕ → ℕ → Bytes → Bytes
rest_after_texts skip zero s = s
rest_after_texts skip (suc n) s = rest_after_texts skip n (rest_after_text skip s)

-- so many rows are stored, from a row on, and nothing else
pub record RowsStored (rows base taken : ℕ) (work work' : List ℕ) : Type 0 where
  pub same_size : length work' ≡ length work
  pub same : (column i : ℕ) → ((j : ℕ) → j < taken → Apart rows list_row (base + j) column i) → cell work' rows column i ≡ cell work rows column i

-- each row has the place of every second text
pub record RowsFilled (body : Bytes) (rows base taken from skip : ℕ) (work : List ℕ) : Type 0 where
  pub place : (j : ℕ) → j < taken → drop (cell work rows list_row (base + j)) body ≡ rest_after_texts skip (2 * j) (drop from body)

-- the rows of a list are stored, and filled where the answer says so
pub record RowsMade (body : Bytes) (rows base taken from skip : ℕ) (work work' : List ℕ) (r : Bool) : Type 0 where
  pub stored : RowsStored rows base taken work work'
  pub filled : r ≡ true → 12 * rows ≤ length work → RowsFilled body rows base taken from skip work'

-- the list of a record is made in the next rows, or none is; the first row is noted, and what rows are free then is said
pub data ListAt (body : Bytes) (rows terms column n from count skip next : ℕ) (work : List ℕ) (next' : ℕ) (work' : List ℕ) : Type 0 where
  left_out : (taken : ℕ) (filled : List ℕ) → (0 < taken → next + taken + terms ≤ rows) → RowsStored rows next taken work filled → work' ≡ store filled rows column n 0 → next' ≡ next
      → ListAt body rows terms column n from count skip next work next' work'
  made : (taken : ℕ) (filled : List ℕ) → (0 < taken → next + taken + terms ≤ rows) → RowsStored rows next taken work filled → work' ≡ store filled rows column n (suc next) → next' ≡ next + taken
      → RowsOf count taken → (12 * rows ≤ length work → RowsFilled body rows next taken from skip filled)
      → ListAt body rows terms column n from count skip next work next' work'

-- ---- all lists

-- the lists that a column has of the first records of a kind, in rows before the next one
pub record Side (file : Bytes) (rows column offsets skip : ℕ) (has : ℕ → List Bytes → Type 0) (count next : ℕ) (work : List ℕ) : Type 0 where
  pub lists : ListsOf file work rows column offsets skip count has
  pub before : (n base : ℕ) → n < count → cell work rows column n ≡ suc base → (names : List Bytes) → has n names → (j : ℕ) → 2 * j < length names → base + j < next

-- the lists of so many types and enums are made in the index of the records f, which was work₀, and what is noted of so many types
pub record Listing (file : Bytes) (f : TermFile) (rows : ℕ) (work₀ : List ℕ) (ty en next : ℕ) (work : List ℕ) : Type 0 where
  pub same_size : length work ≡ length work₀
  pub same : (column i : ℕ) → i < used_entries f column → cell work rows column i ≡ cell work₀ rows column i
  pub slots : (i : ℕ) → cell work rows hash i ≡ cell work₀ rows hash i
  pub of_types : Side file rows type_list type_offset 4 (HasAttributes f) ty next work
  pub of_enums : Side file rows enum_list enum_offset 0 (HasMembers f) en next work
  pub noted : (t : ℕ) → t < ty → TypeNoted f t (cell work rows type_list t)

-- the records f, whose index a memory is, with so many terms
pub record KnownRecords (file : Bytes) (f : TermFile) (rows terms : ℕ) (work : List ℕ) : Type 0 where
  pub index : Rows file f work rows
  pub ascends : Ascends f
  pub terms_are : terms ≡ length (records.terms f)

-- r is a type that the type p is, or that is under it, where it is one of those of which something is noted
pub record UnderAt (file : Bytes) (sizes : Sizes) (p : ℕ) (work : List ℕ) (r : ℕ) : Type 0 where
  pub go : (f : TermFile) (work₀ : List ℕ) (ty next : ℕ) → KnownRecords file f sizes.rows sizes.terms work₀ → p < length (types f) → p < ty → Listing file f sizes.rows work₀ ty 0 next work
      → (r < length (types f)) × Under (type_at f p) (type_at f r)

-- a type has no enum's number and no list
abbrev pub Sole : TypeEntry → Type 0
Sole r = ((name : Bor Bytes) → r ≡ entry.Entity name → ⊥) × ((c : Children) → r ≡ entry.Record c → ⊥)

-- v is what is noted of the next type, which is this and neither an entity type nor a record type
pub record NotesSole (file : Bytes) (sizes : Sizes) (r : TypeEntry) (work : List ℕ) (v : ℕ) : Type 0 where
  pub go : (f : TermFile) (work₀ : List ℕ) (t next : ℕ) → KnownRecords file f sizes.rows sizes.terms work₀ → t < length (types f) → Listing file f sizes.rows work₀ t 0 next work
      → TypeAt file (cell work sizes.rows type_offset t) r → Sole r → TypeNoted f t v

-- the list of the type t, or what is noted of it, after those of the types before it
pub record ListsType (file : Bytes) (sizes : Sizes) (t next : ℕ) (work : List ℕ) (next' : ℕ) (work' : List ℕ) : Type 0 where
  pub go : (f : TermFile) (work₀ : List ℕ) → KnownRecords file f sizes.rows sizes.terms work₀ → SizesOf f sizes → t < length (types f) → Listing file f sizes.rows work₀ t 0 next work
      → Listing file f sizes.rows work₀ (t + 1) 0 next' work'

-- the list of the enum e, after those of the types and the enums before it
pub record ListsEnum (file : Bytes) (rows terms : ℕ) (e next : ℕ) (work : List ℕ) (next' : ℕ) (work' : List ℕ) : Type 0 where
  pub go : (f : TermFile) (work₀ : List ℕ) → KnownRecords file f rows terms work₀ → e < length (enums f) → Listing file f rows work₀ (length (types f)) e next work
      → Listing file f rows work₀ (length (types f)) (e + 1) next' work'

-- ---- the whole

-- the memory with all lists and enums is the index that the walk builds on, and has a name of no record that had none before
pub record IndexWithLists (file : Bytes) (f : TermFile) (sizes : Sizes) (work₀ work : List ℕ) : Type 0 where
  pub index : Index file f work sizes
  pub unnamed : Unnamed file f work₀ sizes.rows → Unnamed file f work sizes.rows

-- all lists, where attributes and members ascend
pub record MakesLists (file : Bytes) (sizes : Sizes) (work work' : List ℕ) : Type 0 where
  pub go : (f : TermFile) → CheckedIndex file f work sizes → Ascends f → IndexWithLists file f sizes work work'
