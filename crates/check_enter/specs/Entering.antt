-- What entering a record into the index promises.
-- Assumes nothing.
use Rattle.std.specs.Prelude.{◌≡◌, ℕ, suc, ◌+◌, ◌≤◌, ◌<◌, true, false, [], ◌∷◌, ◌++◌, length, get_or, Result, Ok, Err}
use Rattle.std.proofs.Math.Option.{Option, none, some}
use Rattle.script_spec.specs.Base.{Bytes}
use Rattle.script_spec.specs.Tree.{Ty, depth}
use Rattle.script_spec.specs.Fields.{is_typed}
use Rattle.script_spec.specs.File.{TermFile, Named, type, types, written, earlier, rules, broken}
use Rattle.index.specs.Lists.{number_at}
use Rattle.index.specs.Meaning.{Stands, SizesOf}
use Rattle.index.specs.declared.RecordsMut.{RecordsMut}
use Rattle.index_search.specs.Searchable.{Indexed}
use Rattle.refusal.specs.Numbers.{number}
use Rattle.refusal.specs.declared.Refusal.{Refusal}

-- w is v, with some memory of the same length in the same place, and as many rows
pub record Keeps (v w : RecordsMut) : Type 0 where
  pub file_is : w.file ≡ v.file
  pub rows_are : w.sizes.rows ≡ v.sizes.rows
  pub lent : w.work.ghost_name ≡ v.work.ghost_name
  pub size : length w.work.now ≡ length v.work.now

-- the rule that is broken, by document 01's number, as an answer says it
abbrev pub entered_rule : Result (Unit {0}) Refusal → Option ℕ
entered_rule (Ok u) = none
entered_rule (Err e) = some (number e)

-- the memory of w is the index of the records f, and these are its sizes
pub record Counted (f : TermFile) (w : RecordsMut) : Type 0 where
  pub indexed : Indexed w.file.now f w.work.now w.sizes.rows
  pub sizes_are : SizesOf f w.sizes

-- the memory and the sizes are as they were
pub record Unchanged (v w : RecordsMut) : Type 0 where
  pub memory : w.work.now ≡ v.work.now
  pub sizes_are : w.sizes ≡ v.sizes

-- the records after an answer: with the record x, or as they were
abbrev pub Memory : TermFile → RecordsMut → RecordsMut → Named → Result (Unit {0}) Refusal → Type 0
Memory f v w x (Ok u) = Counted (f ++ (x ∷ [])) w
Memory f v w x (Err e) = Unchanged v w

-- the number of the type that is written in the record at an offset, its last four bytes, if one is
unfoldable pub written_at : Bytes → ℕ → Option ℕ
written_at file o = elim (is_typed (get_or file o 0)) [ true ↦ some (number_at file (o + 2 + number_at file (o + 2))) | false ↦ none ]

-- that type is one of the records f
pub record WrittenBelow (file : Bytes) (f : TermFile) (o : ℕ) : Type 0 where
  pub go : (n : ℕ) → written_at file o ≡ some n → n < length (types f)

-- the answer says the first rule that the record x breaks after the records f, if it breaks one; ty is the type that is written in it
pub record Outcome (f : TermFile) (v w : RecordsMut) (ty : Option Ty) (x : Named) (r : Result (Unit {0}) Refusal) : Type 0 where
  pub rule : broken (rules f ty x) ≡ entered_rule r
  pub memory : Memory f v w x r

-- a record of one kind at an offset is entered after the records f
pub record Enters {A : Type 0} (wrap : A → Named) (v w : RecordsMut) (o : ℕ) (r : Result (Unit {0}) Refusal) : Type 0 where
  pub kept : Keeps v w
  pub go : (f : TermFile) → Counted f v → suc (length f) ≤ v.sizes.rows → (a : A) → Stands v.file.now f (earlier f) o (wrap a) → WrittenBelow v.file.now f o
      → Outcome f v w (written f (written_at v.file.now o)) (wrap a) r

-- the row of a type of this depth is stored, and the type is counted
pub record StoresType (v w : RecordsMut) (o deep : ℕ) : Type 0 where
  pub kept : Keeps v w
  pub go : (f : TermFile) → Counted f v → suc (length f) ≤ v.sizes.rows → (t : Ty) → Stands v.file.now f (earlier f) o (type t) → deep ≡ depth t → deep ≤ 256 → Counted (f ++ (type t ∷ [])) w
