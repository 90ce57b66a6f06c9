-- The walk over types and functions by their numbers, and what a step of it asks of what came before.
-- Assumes nothing.
use Rattle.std.specs.Prelude.{ℕ, ◌<◌, ◌≡◌, Bool, true, false, ◌||◌, eqb, List, [], ◌∷◌, map, length}
use Rattle.std.proofs.Math.Option.{none, some}
use Rattle.script_spec.specs.Base.{Bytes, any, is_some}
use Rattle.script_spec.specs.Tree.{TypeMark, forest, eq_ty, eq_fun, datatype, datatype_mark}
use Rattle.script_spec.specs.Fields.{type}
use Rattle.script_spec.specs.File.{TermFile, types, funs, members, type_at, fun_at}
use Rattle.script_spec.specs.Command.{comment}
use Rattle.script_spec.specs.Walk.{State, went, Walk, writing, declare_type, encode_type, encode_types, declare_function, encode_uuf}
use Rattle.index.specs.First.{Below}
use Rattle.index.specs.Standing.{entry_at}
use Rattle.index.specs.declared.Records.{Records}
use Rattle.index.specs.Cells.{type_first}
use Rattle.walk_names.specs.Naming.{type_names, name_at, place_of, IndexOf, NumbersOf}
use Rattle.walk_names.specs.Progress.{memory, rows, Passes}
use Rattle.walk_names.specs.declared.walk.Walk as names
use Rattle.index_entry.specs.Terms.{children_in}
use Rattle.index_entry.specs.declared.terms.Children.{Children}
use Rattle.write_types.specs.Functions.{id_of}
use Rattle.walk_types.specs.declared.settled.SettledBy.{SettledBy}
use Rattle.walk_types.specs.declared.settled.SettledBy.TheVariants as by

-- ---- types

-- the type with number t is one of the file's
unfoldable pub type_ready : ℕ → TermFile → State → Type 0
type_ready t f S = t < length (types f)

-- it is encoded
unfoldable pub type_walk : ℕ → TermFile → Walk
type_walk t f = encode_type (members f) (type_at f t)

-- a record that is a type at an offset of a file has these parts
pub record PartsAt (file : Bytes) (offset : ℕ) (r : Children) : Type 0 where
  pub go : (m : TypeMark) (rs : List ℕ) → entry_at file offset ≡ some (type m rs) → children_in r ≡ rs

-- parts with these numbers belong to a type with number t, which is above them
pub record PartsReady (t : ℕ) (ps : List ℕ) (f : TermFile) (S : State) : Type 0 where
  pub inside : t < length (types f)
  pub below : Below t ps

-- they are encoded one after the other
unfoldable pub parts_walk : List ℕ → TermFile → Walk
parts_walk ps f = encode_types (members f) (forest (map (type_at f) ps))

-- the type with number t is one of the file's, and the table does not have it
pub record NewType (t : ℕ) (f : TermFile) (S : State) : Type 0 where
  pub inside : t < length (types f)
  pub new : any (eq_ty (type_at f t)) S.types ≡ false

-- it is entered and declared, if it is a datatype
unfoldable pub declare_walk : ℕ → TermFile → Walk
declare_walk t f = declare_type (members f) (type_at f t)

-- whether this is the second byte of a datatype's mark: TE, TX or TR
unfoldable pub declared_letter : ℕ → Bool
declared_letter l = eqb l 69 || (eqb l 88 || eqb l 82)

-- whether the type with number t is a datatype, whatever file was accepted
pub record IsDatatype (records : Records) (t : ℕ) (r : Bool) : Type 0 where
  pub go : (f : TermFile) → IndexOf f records → t < length (types f) → r ≡ is_some (datatype (type_at f t))

-- ---- settled types

-- what a type's record has where this tells whether the type is settled
unfoldable pub settled_said : TypeMark → List ℕ → SettledBy → Type 0
settled_said m rs by.Mark = (rs ≡ []) × (datatype_mark m ≡ none)
settled_said m rs by.Part = (n : ℕ) × (rs ≡ n ∷ []) × (datatype_mark m ≡ none)
settled_said m rs by.Name = Unit {0}

-- this tells whether a record that is a type at an offset of a file is settled
pub record SettlesBy (file : Bytes) (offset : ℕ) (r : SettledBy) : Type 0 where
  pub go : (m : TypeMark) (rs : List ℕ) → entry_at file offset ≡ some (type m rs) → settled_said m rs r

-- the walk over a settled type changes nothing, whatever file was accepted and whatever tables the memory has
pub record Settled (records : Records) (t : ℕ) (r : Bool) : Type 0 where
  pub go : r ≡ true → (f : TermFile) (S : State) → IndexOf f records → NumbersOf f records S → t < length (types f) → type_walk t f S ≡ went S

-- r is whether the type with number t is left: nothing is done for it, and else it has no name
pub record IsLeft (t : ℕ) (v : names.Walk) (r : Bool) : Type 0 where
  pub left : r ≡ true → Passes (type_ready t) (type_walk t) v v
  pub new : r ≡ false → place_of (name_at (memory v) (rows v) type_first type_names t) ≡ none

-- ---- functions

-- the function with number g is one of the file's
unfoldable pub fun_ready : ℕ → TermFile → State → Type 0
fun_ready g f S = g < length (funs f)

-- it is encoded
unfoldable pub fun_walk : ℕ → TermFile → Walk
fun_walk g f = encode_uuf (members f) (fun_at f g)

-- its comment is written
unfoldable pub id_walk : ℕ → TermFile → Walk
id_walk g f = writing (comment (id_of (fun_at f g)) ∷ [])

-- the function with number g is one of the file's, and the table does not have it
pub record NewFun (g : ℕ) (f : TermFile) (S : State) : Type 0 where
  pub inside : g < length (funs f)
  pub new : any (eq_fun (fun_at f g)) S.funs ≡ false

-- it is entered and declared
unfoldable pub declare_fun_walk : ℕ → TermFile → Walk
declare_fun_walk g f = declare_function (fun_at f g)
