-- A row of the index has the entry of a type, whose parts have lower numbers, or of a function, whose types there are.
-- Assumes nothing.
use mathlib.Core.Path.{◌≡◌}
use mathlib.Core.List.{List, map}
use mathlib.Core.Option.{some}
use Prim.Native.Nat.{ℕ, ◌<◌}
use Rattle.script_spec.specs.Base.{Bytes}
use Rattle.script_spec.specs.Tree.{TypeMark, Ty, Fun, uuf, node, forest}
use Rattle.script_spec.specs.Fields as fields
use Rattle.script_spec.specs.Fields.{Entry, Earlier}
use Rattle.script_spec.specs.File as file
use Rattle.script_spec.specs.File.{TermFile, type_at, named}
use Rattle.script_spec.proofs.Laws.{never}
use Rattle.index.specs.First.{InRange, Below}
use Rattle.index.specs.Standing.{entry_at}
use Rattle.index.specs.Meaning.{Stands}

-- what a record that names a type is
pub type_stands : {P : Type 0} {s : Bytes} {f : TermFile} {e : Earlier} {o : ℕ} {ty : Ty} → Stands s f e o (file.type ty)
    → ((m : TypeMark) (rs : List ℕ) → entry_at s o ≡ some (fields.type m rs) → Below e.types rs → node m (forest (map (type_at f) rs)) ≡ ty → P) → P
unfolding named InRange
type_stands {P} {s} {f} {e} {o} {ty} row next = go row.entry row.reads row.in_range row.names
  where
    go : (x : Entry) → entry_at s o ≡ some x → InRange e x → named f x ≡ file.type ty → P
    go (fields.type m rs) reads below names = next m rs reads below (cc)
    go (fields.enum n ms) reads below names = never (cc)
    go (fields.func id a r) reads below names = never (cc)
    go (fields.term m rs) reads below names = never (cc)
    go (fields.input n) reads below names = never (cc)

-- what a record that names a function is
pub fun_stands : {P : Type 0} {s : Bytes} {f : TermFile} {e : Earlier} {o : ℕ} {g : Fun} → Stands s f e o (file.func g)
    → ((id : Bytes) (a b : ℕ) → entry_at s o ≡ some (fields.func id a b) → a < e.types → b < e.types → uuf id (type_at f a) (type_at f b) ≡ g → P) → P
unfolding named InRange
fun_stands {P} {s} {f} {e} {o} {g} row next = go row.entry row.reads row.in_range row.names
  where
    go : (x : Entry) → entry_at s o ≡ some x → InRange e x → named f x ≡ file.func g → P
    go (fields.type m rs) reads below names = never (cc)
    go (fields.enum n ms) reads below names = never (cc)
    go (fields.func id a b) reads below names = next id a b reads below.0 below.1 (cc)
    go (fields.term m rs) reads below names = never (cc)
    go (fields.input n) reads below names = never (cc)
