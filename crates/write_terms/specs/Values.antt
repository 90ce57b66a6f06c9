-- What writing options, sets and records promises.
-- Assumes nothing.
use Rattle.std.specs.Prelude.{ℕ, ◌<◌, [], ◌∷◌, length}
use Rattle.script_spec.specs.Base.{Bytes, bytes}
use Rattle.script_spec.specs.Tree.{type_of}
use Rattle.script_spec.specs.File.{TermFile, terms, term_at, members}
use Rattle.script_spec.specs.Command.{headed}
use Rattle.script_spec.specs.Spelling.{sort, as_sort, set_value, record_value, atom}
use Rattle.script_spec.specs.Walk.{State, names}
use Rattle.write_bytes.specs.declared.writer.Writer.{Writer}
use Rattle.index.specs.First.{Below}
use Rattle.index.specs.declared.Records.{Records}
use Rattle.index_entry.specs.Terms.{children_in}
use Rattle.index_entry.specs.declared.terms.Compound.{Compound}
use Rattle.walk_names.specs.Spells.{Spells, HasTerm}
use Rattle.write_terms.specs.Arguments.{atoms}

-- the sort of the term with number n
unfoldable pub sort_at : TermFile → State → ℕ → Bytes
sort_at f S n = sort (names S) (type_of (term_at f n))

-- the sort of the term with number n is written
abbrev pub SpellsTermSort : Records → ℕ → Writer → Writer → Type 0
SpellsTermSort records n = Spells records (HasTerm n) (λ f S. sort_at f S n)

-- a constant at that sort is written
abbrev pub SpellsConstant : Records → ℕ → Bytes → Writer → Writer → Type 0
SpellsConstant records n constant = Spells records (HasTerm n) (λ f S. as_sort constant (sort_at f S n))

-- the option of the term with number m is written
abbrev pub SpellsSome : Records → ℕ → Writer → Writer → Type 0
SpellsSome records m = Spells records (HasTerm m) (λ f S. headed (bytes "some") (atom (members f) (names S) (term_at f m) ∷ []))

-- the file has a term and its children
pub record HasCompound (c : Compound) (f : TermFile) : Type 0 where
  pub inside : c.number < length (terms f)
  pub below : Below (length (terms f)) (children_in c.children)

-- the children are written as a set of the term's sort
abbrev pub SpellsSet : Records → Compound → Writer → Writer → Type 0
SpellsSet records c = Spells records (HasCompound c) (λ f S. set_value (sort_at f S c.number) (atoms f S (children_in c.children)))

-- they are written as a record of that sort
abbrev pub SpellsRecord : Records → Compound → Writer → Writer → Type 0
SpellsRecord records c = Spells records (HasCompound c) (λ f S. record_value (sort_at f S c.number) (atoms f S (children_in c.children)))
