-- The enums of a file by their numbers, and what the search of a name promises.
-- Assumes nothing.
use Rattle.std.specs.Prelude.{◌≡◌, ℕ, true, false, List, [], ltb, length, get_or}
use Rattle.std.proofs.Math.Option.{Option, none, some}
use Rattle.std.specs.Prelude as rust
use Rattle.script_spec.specs.Base.{Bytes, same, place, firsts}
use Rattle.script_spec.specs.File.{TermFile, enums}
use Rattle.refusal.specs.Numbers.{option_of}
use Rattle.index.specs.Meaning.{SizesOf}
use Rattle.index.specs.declared.Sizes.{Sizes}
use Rattle.index_search.specs.Named.{EnumRows}

-- the enum with a number: its name and its members
unfoldable pub enum_at : TermFile → ℕ → Bytes × List Bytes
enum_at f n = get_or (enums f) n ([], [])

-- the members of the enum with a number, if there is one
unfoldable pub members_at : TermFile → ℕ → Option (List Bytes)
members_at f n = elim (ltb n (length (enums f))) [ true ↦ some (enum_at f n).1 | false ↦ none ]

-- the number that was found is that of the enum with the name, and none is found where no enum has it
pub record FindsEnum (file : Bytes) (work : List ℕ) (sizes : Sizes) (name : Bytes) (r : rust.Option ℕ) : Type 0 where
  pub go : (f : TermFile) → EnumRows file f work sizes.rows → SizesOf f sizes → option_of r ≡ place (same name) (firsts (enums f))
