-- What the terms that are read again are.
-- Assumes nothing.
use Rattle.std.specs.Prelude.{ℕ, zero, suc, ◌≡◌, ◌<◌, ◌^◌, true, false, List, [], ◌∷◌, drop}
use Rattle.std.proofs.Math.Option.{Option, none, some}
use Rattle.script_spec.specs.Base.{Bytes, firsts, seconds}
use Rattle.script_spec.specs.Tree as tree
use Rattle.script_spec.specs.Tree.{TermMark}
use Rattle.script_spec.specs.Fields.{Entry, term}
use Rattle.index.specs.Standing.{entry_of, entry_at}
use Rattle.read_field.specs.Takes.{prefix_number, IsPrefix}
use Rattle.read_operator.specs.Operators.{op_of}
use Rattle.index.specs.Lists.{number_at}
use Rattle.index_entry.specs.Places.{named_items}
use Rattle.index_entry.specs.declared.lists.Texts.{Texts}
use Rattle.index_entry.specs.declared.terms.Children.{Children}
use Rattle.index_entry.specs.declared.terms.Value.{Value}
use Rattle.index_entry.specs.declared.terms.Value.TheVariants as value
use Rattle.index_entry.specs.declared.terms.TermEntry.{TermEntry}
use Rattle.index_entry.specs.declared.terms.TermEntry.TheVariants as entry

-- n numbers of four bytes each
unfoldable pub references : ℕ → Bytes → List ℕ
references zero s = []
references (suc n) s = number_at s 0 ∷ references n (drop 4 s)

-- the numbers of the terms that a record refers to, or of a type's parts
unfoldable pub children_in : Children → List ℕ
children_in c = elim c.named [ true ↦ seconds (named_items c.left (drop c.from c.body.now)) | false ↦ references c.left (drop c.from c.body.now) ]

-- the names of children that have some
unfoldable pub names_in : Children → List Bytes
names_in c = firsts (named_items c.left (drop c.from c.body.now))

-- the texts that these names are
unfoldable pub names_of : Children → Texts
names_of c = record { body = c.body; from = c.from; left = c.left; skip = 4 }

-- an extension value
unfoldable pub value_of : Value → tree.Value
value_of (value.V4 a p) = tree.V4 a (prefix_number p)
value_of (value.V6 a p) = tree.V6 a (prefix_number p)
value_of (value.Decimal n) = tree.DecimalV n
value_of (value.Datetime n) = tree.DatetimeV n
value_of (value.Duration n) = tree.DurationV n

-- the entry that a term stands for
unfoldable pub term_said : TermEntry → Option Entry
term_said (entry.Var id t) = some (term (tree.Var id.now t) [])
term_said (entry.BoolLit b) = some (term (tree.BoolLit b) [])
term_said (entry.BitVecLit n v) = some (term (tree.BitVecLit n v) [])
term_said (entry.StringLit s) = some (term (tree.StringLit s.now) [])
term_said (entry.Entity t id) = some (term (tree.Entity t id.now) [])
term_said (entry.ExtLit v) = some (term (tree.ExtLit (value_of v)) [])
term_said (entry.None t) = some (term (tree.None t) [])
term_said (entry.Some n) = some (term tree.Some (n ∷ []))
term_said (entry.Set t c) = some (term (tree.Set t) (children_in c))
term_said (entry.Record c) = some (term (tree.Record (names_in c)) (children_in c))
term_said (entry.App t o c) = some (term (tree.App t (op_of o)) (children_in c))
term_said entry.Unreadable = none

-- an extension value as it is read: an address has its bits, and none is `None` alone
abbrev pub ValueFits : Value → Type 0
ValueFits (value.V4 a p) = (a < 2 ^ 32) × IsPrefix p
ValueFits (value.V6 a p) = IsPrefix p
ValueFits (value.Decimal n) = Unit {0}
ValueFits (value.Datetime n) = Unit {0}
ValueFits (value.Duration n) = Unit {0}

-- so is the value of a term
abbrev pub TermFits : TermEntry → Type 0
TermFits (entry.Var id t) = Unit {0}
TermFits (entry.BoolLit b) = Unit {0}
TermFits (entry.BitVecLit n v) = Unit {0}
TermFits (entry.StringLit s) = Unit {0}
TermFits (entry.Entity t id) = Unit {0}
TermFits (entry.ExtLit v) = ValueFits v
TermFits (entry.None t) = Unit {0}
TermFits (entry.Some n) = Unit {0}
TermFits (entry.Set t c) = Unit {0}
TermFits (entry.Record c) = Unit {0}
TermFits (entry.App t o c) = Unit {0}
TermFits entry.Unreadable = Unit {0}

-- a body that is a term under a mark is this term
pub record IsTerm (mark : Option Bytes) (body : Bytes) (r : TermEntry) : Type 0 where
  pub go : (m : Bytes) (t : TermMark ℕ ℕ) (rs : List ℕ) → mark ≡ some m → entry_of m body ≡ some (term t rs) → term_said r ≡ some (term t rs)

-- a record that is a term at an offset of a file is this term
pub record TermAt (file : Bytes) (offset : ℕ) (r : TermEntry) : Type 0 where
  pub go : (t : TermMark ℕ ℕ) (rs : List ℕ) → entry_at file offset ≡ some (term t rs) → term_said r ≡ some (term t rs)
