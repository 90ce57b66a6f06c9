-- The sorts of types by their entries, and what writing a sort promises.
-- Assumes nothing.
use Rattle.std.specs.Prelude.{ℕ, ◌≡◌, List, [], ◌∷◌}
use Rattle.std.proofs.Math.Option.{Option, some}
use Rattle.script_spec.specs.Base.{Bytes, bytes}
use Rattle.script_spec.specs.Tree.{TypeMark, Bool·, Option·, Set·}
use Rattle.script_spec.specs.Fields.{type}
use Rattle.script_spec.specs.File.{type_at}
use Rattle.script_spec.specs.Spelling.{sort, ext_name, bit_vec_sort}
use Rattle.script_spec.specs.Walk.{numbered, names}
use Rattle.write_bytes.specs.declared.writer.Writer.{Writer}
use Rattle.index.specs.Standing.{entry_at}
use Rattle.index.specs.declared.Records.{Records}
use Rattle.walk_names.specs.Spells.{Spells, HasType}
use Rattle.index_entry.specs.Types.{ext_type_said}
use Rattle.index_entry.specs.declared.types.TypeEntry.{TypeEntry}
use Rattle.index_entry.specs.declared.types.TypeEntry.TheVariants as entry
use Rattle.write_types.specs.declared.sorts.Over.{Over}
use Rattle.write_types.specs.declared.sorts.Over.TheVariants as over
use Rattle.write_types.specs.declared.sorts.Whole.{Whole}
use Rattle.write_types.specs.declared.sorts.Whole.TheVariants as whole

-- the mark of what has a part
unfoldable pub over_mark : Whole → TypeMark
over_mark whole.Option = Option·
over_mark whole.Set = Set·

-- what a type's record has where the type stands over this
unfoldable pub over_said : TypeMark → List ℕ → Over → Type 0
over_said m rs (over.Part k n) = (m ≡ over_mark k) × (rs ≡ n ∷ [])
over_said m rs over.Truth = m ≡ Bool·
over_said m rs over.Nothing = (k : Whole) → m ≡ over_mark k → ⊥

-- a record that is a type at an offset of a file stands over this
pub record OverAt (file : Bytes) (offset : ℕ) (r : Over) : Type 0 where
  pub go : (m : TypeMark) (rs : List ℕ) → entry_at file offset ≡ some (type m rs) → over_said m rs r

-- what stands before the part of an option or of a set
unfoldable pub opened_part : Whole → Bytes
opened_part whole.Option = bytes "(Option "
opened_part whole.Set = bytes "(Set "

-- the sort of a type that stands over no part, by its name in memory
unfoldable pub plain_sort : TypeEntry → Option ℕ → Bytes
plain_sort entry.Bool name = bytes "Bool"
plain_sort entry.String name = bytes "String"
plain_sort (entry.BitVec n) name = bit_vec_sort n
plain_sort (entry.Option n) name = []
plain_sort (entry.Set n) name = []
plain_sort (entry.Entity p) name = numbered (bytes "E") name
plain_sort (entry.Ext x) name = ext_name (ext_type_said x)
plain_sort (entry.Record c) name = numbered (bytes "R") name
plain_sort entry.Unreadable name = []

-- the sort of the type with number t is written
abbrev pub SpellsSort : Records → ℕ → Writer → Writer → Type 0
SpellsSort records t = Spells records (HasType t) (λ f S. sort (names S) (type_at f t))
