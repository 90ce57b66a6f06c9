-- What the record of an accepted term says of the term.
-- Assumes nothing.
use Rattle.std.specs.Prelude.{ℕ, ◌≡◌, true, List, map, length}
use Rattle.script_spec.specs.Utf8.{is_utf8}
use Rattle.script_spec.specs.Tree.{node, forest}
use Rattle.script_spec.specs.Tree.{TermMark, Var, BoolLit, BitVecLit, StringLit, Entity, ExtLit, None, Some, Set, Record, App}
use Rattle.script_spec.specs.File.{TermFile, types, funs, term_at, named_mark}
use Rattle.index.specs.First.{MarkInRange, Below}
use Rattle.index.specs.Meaning.{counted}

-- the text of a variable, a literal or an entity is UTF-8
unfoldable pub TermSound : TermMark ℕ ℕ → Type 0
TermSound (Var id n) = is_utf8 id ≡ true
TermSound (BoolLit b) = Unit {0}
TermSound (BitVecLit n v) = Unit {0}
TermSound (StringLit s) = is_utf8 s ≡ true
TermSound (Entity n id) = is_utf8 id ≡ true
TermSound (ExtLit v) = Unit {0}
TermSound (None n) = Unit {0}
TermSound Some = Unit {0}
TermSound (Set n) = Unit {0}
TermSound (Record names) = Unit {0}
TermSound (App n op) = Unit {0}

-- the term with number n has this mark and these children, which have lower numbers
pub record TermIs (f : TermFile) (n : ℕ) (m : TermMark ℕ ℕ) (rs : List ℕ) : Type 0 where
  pub tree : node (named_mark f m) (forest (map (term_at f) rs)) ≡ term_at f n
  pub in_range : MarkInRange (counted (length (types f)) (length (funs f)) n) m
  pub below : Below n rs
  pub sound : TermSound m
