-- What the walk over the terms of a file promises, by the numbers of terms.
-- Assumes nothing.
use Rattle.std.specs.Prelude.{ℕ, ◌<◌, ◌≡◌, List, map, length, Result}
use Rattle.script_spec.specs.Tree.{Tm, Mark, Forest, node, forest, type_of, is_falsehood}
use Rattle.script_spec.specs.File.{TermFile, terms, members, term_at}
use Rattle.script_spec.specs.Walk as walk
use Rattle.script_spec.specs.Walk.{State, unless, encode_type, encode_term, encode_terms}
use Rattle.index.specs.Cells.{term_first}
use Rattle.index.specs.First.{Below}
use Rattle.walk_names.specs.Naming.{term_names, name_at}
use Rattle.walk_names.specs.Progress.{memory, rows, Indexed, Advances}
use Rattle.walk_names.specs.declared.walk.Stopped.{Stopped}
use Rattle.walk_names.specs.declared.walk.Walk.{Walk}
use Rattle.index_entry.specs.Terms.{children_in}
use Rattle.index_entry.specs.declared.terms.Children.{Children}
use Rattle.walk_new.specs.Steps.{term_ready}

-- the term with number n is encoded
unfoldable pub term_walk : ℕ → TermFile → walk.Walk
term_walk n f = encode_term (members f) (term_at f n)

-- its type is encoded
unfoldable pub own_type_walk : ℕ → TermFile → walk.Walk
own_type_walk n f = encode_type (members f) (type_of (term_at f n))

-- a term's children
unfoldable pub below : Tm → Forest Mark
below (node m ts) = ts

-- its children are encoded; those under the `false` of a `Bvnego` are not
unfoldable pub children_walk : ℕ → TermFile → walk.Walk
children_walk n f = unless (λ s. is_falsehood (term_at f n)) (encode_terms (members f) (below (term_at f n)))

-- the terms with these numbers are encoded one after the other
unfoldable pub terms_walk : List ℕ → TermFile → walk.Walk
terms_walk rs f = encode_terms (members f) (forest (map (term_at f) rs))

-- encoding the terms with these numbers is encoding the children of the term with number n
pub record ChildrenAre (f : TermFile) (n : ℕ) (rs : List ℕ) : Type 0 where
  pub lower : Below n rs
  pub walks : (S : State) → children_walk n f S ≡ terms_walk rs f S

-- the children that are encoded, whatever file was accepted
pub record ToEncode (v : Walk) (n : ℕ) (r : Children) : Type 0 where
  pub go : (f : TermFile) → Indexed f v → n < length (terms f) → ChildrenAre f n (children_in r)

-- where the term with number n has no name, the walk goes on by encoding it
pub record EncodesUnnamed (n : ℕ) (v w : Walk) (r : Result (Unit {0}) Stopped) : Type 0 where
  pub go : name_at (memory v) (rows v) term_first term_names n ≡ 0 → Advances (term_ready n) (term_walk n) v w r
