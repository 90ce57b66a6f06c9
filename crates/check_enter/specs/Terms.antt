-- What entering a term asks for: its type among the types that are listed, and its row.
-- Assumes nothing.
use Rattle.std.specs.Prelude.{◌≡◌, ℕ, suc, ◌≤◌, ◌<◌, Bool, true, false, not, eqb, List, [], ◌∷◌, ◌++◌, length, Result, Option, Some}
use Rattle.std.proofs.Math.Option.{none, some}
use Rattle.script_spec.specs.Base.{Bytes}
use Rattle.script_spec.specs.Tree.{Tm, type_of, depth}
use Rattle.script_spec.specs.File.{TermFile, term, types, type_at, earlier}
use Rattle.index.specs.Cells.{cell, type_first}
use Rattle.index.specs.First.{first_type}
use Rattle.index.specs.Rules.{elements_differ}
use Rattle.index.specs.Meaning.{Stands}
use Rattle.index.specs.Standing.{mark_at}
use Rattle.index.specs.declared.RecordsMut.{RecordsMut}
use Rattle.read_record.specs.Marks.{Marked}
use Rattle.read_record.specs.declared.mark.Kind.{Kind}
use Rattle.refusal.specs.declared.Refusal.{Refusal}
use Rattle.check_types.specs.Sought.{TypeSought}
use Rattle.check_enter.specs.Entering.{Keeps, Counted, Enters, written_at}

-- the row of a term of this type and depth is stored, and the term is counted
pub record StoresTerm (v w : RecordsMut) (o ty deep : ℕ) : Type 0 where
  pub kept : Keeps v w
  pub go : (f : TermFile) → Counted f v → suc (length f) ≤ v.sizes.rows → (t : Tm) → Stands v.file.now f (earlier f) o (term t)
      → elements_differ t ≡ true → ty < length (types f) → type_at f ty ≡ type_of t → first_type f ty ≡ ty → deep ≡ depth t → deep ≤ 256 → Counted (f ++ (term t ∷ [])) w

-- a term of this kind is entered where `found` says its type
pub record EntersTyped (v w : RecordsMut) (o : ℕ) (kind : Kind) (found : Option ℕ) (r : Result (Unit {0}) Refusal) : Type 0 where
  pub kept : Keeps v w
  pub go : Marked (mark_at v.file.now o) (Some kind) → TypeSought v.file.now v.work.now v.sizes o found → Enters term v w o r

-- r is whether a type is written in the term at an offset, and it is another than the type of this number, the first of its equals
pub record WritesOther (file : Bytes) (work : List ℕ) (rows o ty : ℕ) (r : Bool) : Type 0 where
  pub go : (n : ℕ) → written_at file o ≡ some n → r ≡ not (eqb (cell work rows type_first n) ty)
  pub unwritten : written_at file o ≡ none → r ≡ false
