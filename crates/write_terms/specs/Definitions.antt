-- What writing the definition of a term as a line promises.
-- Assumes nothing.
use Rattle.std.specs.Prelude.{ℕ, ◌≡◌, false, List, [], ◌∷◌}
use Rattle.script_spec.specs.Base.{Bytes}
use Rattle.script_spec.specs.Tree.{Op, Some, Set, Record, App, type_of, ordinary, comparison, negation}
use Rattle.script_spec.specs.File.{TermFile, term_at}
use Rattle.script_spec.specs.Command.{line, define_fun}
use Rattle.script_spec.specs.Spelling.{sort}
use Rattle.script_spec.specs.Walk.{State, names}
use Rattle.write_bytes.specs.declared.writer.Writer.{Writer}
use Rattle.read_operator.specs.Operators.{op_of}
use Rattle.index.specs.declared.Records.{Records}
use Rattle.index_entry.specs.Terms.{children_in}
use Rattle.index_entry.specs.declared.terms.Application.{Application}
use Rattle.write_atoms.specs.Records.{TermIs}
use Rattle.walk_names.specs.Spells.{Spells}
use Rattle.write_terms.specs.Lines.{is_compound, own_body, Known}
use Rattle.write_terms.specs.declared.definitions.Body.{Body}
use Rattle.write_terms.specs.declared.definitions.Body.TheVariants as body

-- ---- what is known of the term with number n

-- it is not compound
pub record PlainIs (n : ℕ) (f : TermFile) : Type 0 where
  pub plain : is_compound (term_at f n) ≡ false

-- it is the option of the term with number m
pub record SomeIs (n m : ℕ) (f : TermFile) : Type 0 where
  pub is : TermIs f n Some (m ∷ [])

-- it is a set of the terms with these numbers
pub record SetIs (n : ℕ) (rs : List ℕ) (f : TermFile) : Type 0 where
  pub element : ℕ
  pub is : TermIs f n (Set element) rs

-- it is a record of them
pub record RecordIs (n : ℕ) (rs : List ℕ) (f : TermFile) : Type 0 where
  pub names : List Bytes
  pub is : TermIs f n (Record names) rs

-- it is this application, and is written by its operator
pub record OrdinaryIs (call : Application) (f : TermFile) : Type 0 where
  pub result : ℕ
  pub is : TermIs f call.number (App result (op_of call.op)) (children_in call.arguments)
  pub becomes : negation (term_at f call.number) ≡ ordinary

-- it is an application to the terms with these numbers that is written as a comparison of w bits
pub record ComparisonIs (n w : ℕ) (rs : List ℕ) (f : TermFile) : Type 0 where
  pub result : ℕ
  pub op : Op ℕ
  pub is : TermIs f n (App result op) rs
  pub becomes : negation (term_at f n) ≡ comparison w

-- it is what a body says
unfoldable pub BodyIs : ℕ → Body → TermFile → Type 0
BodyIs n body.Plain = PlainIs n
BodyIs n (body.Some m) = SomeIs n m
BodyIs n (body.Set c) = SetIs n (children_in c)
BodyIs n (body.Record c) = RecordIs n (children_in c)
BodyIs n (body.Ordinary op c) = OrdinaryIs (record { op = op; arguments = c; number = n })
BodyIs n (body.Comparison c) = ComparisonIs n c.width (children_in c.arguments)

-- ---- its line

-- the term is written in full, where that is known of it
abbrev pub SpellsBodyOf : Records → ℕ → (TermFile → Type 0) → Writer → Writer → Type 0
SpellsBodyOf records n is = Spells records (Known n is) (λ f S. own_body f S n)

-- the definition of the term with number n
abbrev pub definition_line : ℕ → TermFile → State → Bytes
definition_line n f S = line (define_fun ((names S).term (term_at f n)) [] (sort (names S) (type_of (term_at f n))) (own_body f S n))

-- the definition is written, where that is known of the term
abbrev pub SpellsDefinition : Records → ℕ → (TermFile → Type 0) → Writer → Writer → Type 0
SpellsDefinition records n is = Spells records (Known n is) (definition_line n)
