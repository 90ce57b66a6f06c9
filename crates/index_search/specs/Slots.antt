-- What the slots of the hash table hold: for each type, function and term an equal one, which is met on the way from its home slot.
-- Assumes nothing.
use Rattle.std.specs.Prelude.{ℕ, ◌+◌, ◌≤◌, ◌<◌, List, length}
use Rattle.std.proofs.Math.Option.{Option, none, some}
use Rattle.script_spec.specs.Base.{Bytes}
use Rattle.script_spec.specs.Tree.{TermMark, Var, BoolLit, BitVecLit, StringLit, Entity, ExtLit, None, Some, Set, Record, App}
use Rattle.script_spec.specs.Fields.{Entry, type, enum, func, term, input}
use Rattle.script_spec.specs.File.{TermFile, types, funs, terms}
use Rattle.index.specs.Cells.{cell, type_offset, fun_offset, term_offset, hash}
use Rattle.index.specs.Empties.{empties}
use Rattle.index.specs.First.{canonical}
use Rattle.index.specs.Standing.{entry_at}
use Rattle.index.specs.Names.{key_of, scaled, Reached}
use Rattle.index_compare.specs.Printed.{segments_of}
use Rattle.check_rules.specs.Marks.{mark_of}
use Rattle.index_search.specs.Hash.{hashed, set_hash}

-- ---- slots

-- the hash of an entry under a key, by its mark and segments
unfoldable pub plain_hash : ℕ → Entry → ℕ
plain_hash k x = hashed k (mark_of x) (segments_of x)

-- the hash of a term: that of a set by its type and its elements, whatever their order
unfoldable pub term_hash : ℕ → TermMark ℕ ℕ → List ℕ → ℕ
term_hash k (Var id n) rs = plain_hash k (term (Var id n) rs)
term_hash k (BoolLit b) rs = plain_hash k (term (BoolLit b) rs)
term_hash k (BitVecLit n v) rs = plain_hash k (term (BitVecLit n v) rs)
term_hash k (StringLit s) rs = plain_hash k (term (StringLit s) rs)
term_hash k (Entity n id) rs = plain_hash k (term (Entity n id) rs)
term_hash k (ExtLit v) rs = plain_hash k (term (ExtLit v) rs)
term_hash k (None n) rs = plain_hash k (term (None n) rs)
term_hash k Some rs = plain_hash k (term Some rs)
term_hash k (Set n) rs = set_hash k n rs
term_hash k (Record names) rs = plain_hash k (term (Record names) rs)
term_hash k (App n op) rs = plain_hash k (term (App n op) rs)

-- the hash of an entry
unfoldable pub entry_hash : ℕ → Entry → ℕ
entry_hash k (type m rs) = plain_hash k (type m rs)
entry_hash k (enum n ms) = plain_hash k (enum n ms)
entry_hash k (func id a r) = plain_hash k (func id a r)
entry_hash k (term m rs) = term_hash k m rs
entry_hash k (input n) = plain_hash k (input n)

-- the home slot of an entry, by its hash under a key
unfoldable pub home_of : ℕ → ℕ → Entry → ℕ
home_of k rows x = scaled rows (entry_hash k x)

-- ---- what they hold

-- the entry that was read; any entry where there is none
unfoldable pub entry_or : Option Entry → Entry
entry_or none = input 0
entry_or (some x) = x

-- the entries at the offsets of a column
unfoldable pub entries : Bytes → List ℕ → ℕ → ℕ → ℕ → Entry
entries file work rows offsets n = entry_or (entry_at file (cell work rows offsets n))

-- every record of a kind is reached, with first equal numbers for its references
abbrev pub AllReached : Bytes → TermFile → List ℕ → ℕ → ℕ → ℕ → ℕ → Type 0
AllReached file f work rows offsets kind count = (n : ℕ) → n < count → Reached (home_of (key_of work rows) rows) rows (cell work rows hash) kind count (λ m. canonical f (entries file work rows offsets m)) n

-- the slots for the records f: each is reached, and at most one slot a record is taken
pub record Slots (file : Bytes) (f : TermFile) (work : List ℕ) (rows : ℕ) : Type 0 where
  pub small : rows ≤ 1048576
  pub type_slots : AllReached file f work rows type_offset 0 (length (types f))
  pub fun_slots : AllReached file f work rows fun_offset 1 (length (funs f))
  pub term_slots : AllReached file f work rows term_offset 2 (length (terms f))
  pub taken : rows ≤ length f + empties (cell work rows hash) rows
