-- A row of the index has the entry of a term, whose types and functions there are and whose children have lower numbers.
-- Assumes nothing.
use mathlib.Core.Path.{◌≡◌}
use mathlib.Core.List.{List, map}
use mathlib.Core.Option.{some}
use Prim.Native.Nat.{ℕ}
use Rattle.script_spec.specs.Base.{Bytes}
use Rattle.script_spec.specs.Tree.{TermMark, Tm, node, forest}
use Rattle.script_spec.specs.Fields as fields
use Rattle.script_spec.specs.Fields.{Entry, Earlier}
use Rattle.script_spec.specs.File as file
use Rattle.script_spec.specs.File.{TermFile, term_at, named_mark, named}
use Rattle.index.specs.First.{InRange, MarkInRange, Below}
use Rattle.index.specs.Standing.{entry_at}
use Rattle.index.specs.Meaning.{Stands}
use Rattle.script_spec.proofs.Laws.{never}

-- what a record that names a term is
pub term_stands : {P : Type 0} {s : Bytes} {f : TermFile} {e : Earlier} {o : ℕ} {t : Tm} → Stands s f e o (file.term t)
    → ((m : TermMark ℕ ℕ) (rs : List ℕ) → entry_at s o ≡ some (fields.term m rs) → MarkInRange e m → Below e.terms rs → node (named_mark f m) (forest (map (term_at f) rs)) ≡ t → P) → P
unfolding named InRange
term_stands {P} {s} {f} {e} {o} {t} row next = go row.entry row.reads row.in_range row.names
  where
    go : (x : Entry) → entry_at s o ≡ some x → InRange e x → named f x ≡ file.term t → P
    go (fields.type m rs) reads below names = never (cc)
    go (fields.enum n ms) reads below names = never (cc)
    go (fields.func id a b) reads below names = never (cc)
    go (fields.term m rs) reads below names = next m rs reads below.0 below.1 (cc)
    go (fields.input n) reads below names = never (cc)
