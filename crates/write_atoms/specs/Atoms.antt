-- What writing a term where it is used promises.
-- Assumes nothing.
use Rattle.std.specs.Prelude.{ℕ, ◌<◌, ◌≡◌, length}
use Rattle.script_spec.specs.Base.{Bytes}
use Rattle.script_spec.specs.Tree.{Forest, Mark, Ty, Fun, Op, Enums, node, Entity, App}
use Rattle.script_spec.specs.File.{TermFile, types, terms, type_at, term_at, members}
use Rattle.script_spec.specs.Spelling.{atom}
use Rattle.script_spec.specs.Walk.{names}
use Rattle.write_bytes.specs.declared.writer.Writer.{Writer}
use Rattle.index.specs.declared.Records.{Records}
use Rattle.walk_names.specs.Spells.{Spells, HasTerm}

-- ---- what is known of the term with number n

-- it is an entity of the type with number t with this id
pub record EntityIs (n t : ℕ) (id : Bytes) (f : TermFile) : Type 0 where
  pub inside : n < length (terms f)
  pub type_inside : t < length (types f)
  pub children : Forest Mark
  pub tree : node (Entity (type_at f t) id) children ≡ term_at f n

-- it is no application
pub record LeafIs (n : ℕ) (f : TermFile) : Type 0 where
  pub inside : n < length (terms f)
  pub other : (ty : Ty) (op : Op Fun) (ts : Forest Mark) → node (App ty op) ts ≡ term_at f n → ⊥

-- it is one
pub record CallIs (n : ℕ) (f : TermFile) : Type 0 where
  pub inside : n < length (terms f)
  pub result : Ty
  pub op : Op Fun
  pub children : Forest Mark
  pub tree : node (App result op) children ≡ term_at f n

-- ---- the term is written

-- where so much is known of it
abbrev pub SpellsTerm : Records → ℕ → (TermFile → Type 0) → Writer → Writer → Type 0
SpellsTerm records n known = Spells records known (λ f S. atom (members f) (names S) (term_at f n))

-- an entity of the type with number t with this id
abbrev pub SpellsEntity : Records → ℕ → ℕ → Bytes → Writer → Writer → Type 0
SpellsEntity records n t id = SpellsTerm records n (EntityIs n t id)

-- a term that is no application
abbrev pub SpellsLeaf : Records → ℕ → Writer → Writer → Type 0
SpellsLeaf records n = SpellsTerm records n (LeafIs n)

-- any term
abbrev pub SpellsAtom : Records → ℕ → Writer → Writer → Type 0
SpellsAtom records n = SpellsTerm records n (HasTerm n)

-- an application, whatever the enums are
abbrev pub SpellsCall : Records → ℕ → Writer → Writer → Type 0
SpellsCall records n v w = (e : Enums) → Spells records (CallIs n) (λ f S. atom e (names S) (term_at f n)) v w
