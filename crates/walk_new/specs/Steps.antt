-- What a step over a new term is ready for, the steps over the term with number n, and what a test of its text promises.
-- Assumes nothing.
use Rattle.std.specs.Prelude.{ℕ, ◌<◌, ◌≡◌, true, false, List, [], ◌∷◌, map, length, Option, None, Some, Result, Ok, Err}
use Rattle.script_spec.specs.Base.{Bytes, any}
use Rattle.script_spec.specs.Utf8.{is_utf8}
use Rattle.script_spec.specs.Tree.{Forest, Mark, node, StringLit, type_of, children, eq_tm}
use Rattle.script_spec.specs.File.{TermFile, types, terms, members, type_at, term_at}
use Rattle.script_spec.specs.Walk as walk
use Rattle.script_spec.specs.Walk.{State, refuse_high, record_get, encode_new}
use Rattle.refusal.specs.declared.Refusal.{Refusal}
use Rattle.index.specs.First.{Below}
use Rattle.walk_names.specs.declared.walk.Stopped.{Stopped}

-- ---- what a step is ready for

-- the term with number n is one of the file's
unfoldable pub term_ready : ℕ → TermFile → State → Type 0
term_ready n f S = n < length (terms f)

-- it is one of them, and the table does not have it
pub record NewAt (n : ℕ) (f : TermFile) (S : State) : Type 0 where
  pub below : n < length (terms f)
  pub new : any (eq_tm (term_at f n)) S.terms ≡ false

-- it is one of them and a string literal, and its text is UTF-8
pub record LiteralAt (n : ℕ) (s : Bytes) (f : TermFile) (S : State) : Type 0 where
  pub below : n < length (terms f)
  pub utf8 : is_utf8 s ≡ true
  pub rest : Forest Mark
  pub is : term_at f n ≡ node (StringLit s) rest

-- it is one of them, and t is the number of a type
pub record TypedAt (n t : ℕ) (f : TermFile) (S : State) : Type 0 where
  pub below : n < length (terms f)
  pub type_below : t < length (types f)

-- it is one of them, and its children are the terms with these numbers, which are lower
pub record ParentAt (n : ℕ) (rs : List ℕ) (f : TermFile) (S : State) : Type 0 where
  pub below : n < length (terms f)
  pub lower : Below n rs
  pub are : children (term_at f n) ≡ map (term_at f) rs

-- ---- steps over the term with number n

-- it is entered
unfoldable pub enter_walk : ℕ → TermFile → walk.Walk
enter_walk n f = walk.enter (term_at f n)

-- a test of its text, with the number of its refusal and the code points
unfoldable pub high_walk : ℕ → List ℕ → ℕ → TermFile → walk.Walk
high_walk c cs n f = refuse_high c (term_at f n) cs

-- an attribute of the type with number t
unfoldable pub attribute_walk : ℕ → ℕ → Bytes → TermFile → walk.Walk
attribute_walk n t a f = record_get (term_at f n) a (type_at f t ∷ [])

-- an attribute of the first child
unfoldable pub get_walk : ℕ → Bytes → TermFile → walk.Walk
get_walk n a f = record_get (term_at f n) a (map type_of (children (term_at f n)))

-- whatever term it is
unfoldable pub new_walk : ℕ → TermFile → walk.Walk
new_walk n f = encode_new (members f) (term_at f n)

-- ---- promises

-- what a test of a text answers by the position of its first high code point: nothing, or the refusal of the term with number n
abbrev pub high_told : Option ℕ → Refusal → ℕ → Result (Unit {0}) Stopped
high_told None refusal n = Ok tt
high_told (Some q) refusal n = Err (record { refusal = refusal; term = n; position = q })
