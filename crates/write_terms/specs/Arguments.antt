-- The arguments of a term, and what writing them promises.
-- Assumes nothing.
use Rattle.std.specs.Prelude.{ℕ, List, ◌++◌, map, length}
use Rattle.script_spec.specs.Base.{Bytes, bytes, collect}
use Rattle.script_spec.specs.File.{TermFile, terms, term_at, members}
use Rattle.script_spec.specs.Command.{spaced}
use Rattle.script_spec.specs.Spelling.{atom}
use Rattle.script_spec.specs.Walk.{State, names}
use Rattle.write_bytes.specs.declared.writer.Writer.{Writer}
use Rattle.index.specs.First.{Below}
use Rattle.index.specs.declared.Records.{Records}
use Rattle.index_entry.specs.Terms.{children_in}
use Rattle.index_entry.specs.declared.terms.Children.{Children}
use Rattle.walk_names.specs.Spells.{Spells}

-- terms as they are spelled where they are used, by their numbers
unfoldable pub atoms : TermFile → State → List ℕ → List Bytes
atoms f S ns = map (atom (members f) (names S)) (map (term_at f) ns)

-- texts, each after a space
unfoldable pub spaced_before : List Bytes → Bytes
spaced_before xs = collect (λ x. bytes " " ++ x) xs

-- what stands after an operator or a constructor: its arguments after a space, and the end
unfoldable pub closed_list : List Bytes → Bytes
closed_list xs = bytes " " ++ (spaced xs ++ bytes ")")

-- the file has the terms with these numbers
abbrev pub HasTerms : List ℕ → TermFile → Type 0
HasTerms ns f = Below (length (terms f)) ns

-- a text over children is written
abbrev pub SpellsOver : Records → Children → (List Bytes → Bytes) → Writer → Writer → Type 0
SpellsOver records c text = Spells records (HasTerms (children_in c)) (λ f S. text (atoms f S (children_in c)))

-- each child is written after a space
abbrev pub SpellsArguments : Records → Children → Writer → Writer → Type 0
SpellsArguments records c = SpellsOver records c spaced_before

-- the children are written, and the end
abbrev pub SpellsClosed : Records → Children → Writer → Writer → Type 0
SpellsClosed records c = SpellsOver records c closed_list
