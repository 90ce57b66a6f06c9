-- What the steps that declare or define a new term are ready for, and the steps over it.
-- Assumes nothing.
use Rattle.std.specs.Prelude.{ℕ, ◌≡◌, true}
use Rattle.script_spec.specs.Base.{Bytes}
use Rattle.script_spec.specs.Utf8.{is_utf8, code_points}
use Rattle.script_spec.specs.Tree.{Op, App, enum_of, is_variable, negation}
use Rattle.script_spec.specs.File.{TermFile, members, type_at, term_at, named_op}
use Rattle.script_spec.specs.Walk as walk
use Rattle.script_spec.specs.Walk.{State, ◌>>◌, define_term, define_entity, operator_step, define_app}
use Rattle.read_operator.specs.Operators.{op_of}
use Rattle.index_entry.specs.Terms.{children_in}
use Rattle.index_entry.specs.declared.terms.Application.{Application}
use Rattle.write_atoms.specs.Atoms.{EntityIs}
use Rattle.write_atoms.specs.Records.{TermIs}
use Rattle.write_terms.specs.Definitions.{PlainIs}
use Rattle.walk_new.specs.Steps.{NewAt, high_walk}

-- ---- what a step is ready for

-- the term with number n is new, and a variable
pub record VariableAt (n : ℕ) (f : TermFile) (S : State) : Type 0 where
  pub at : NewAt n f S
  pub is : is_variable (term_at f n) ≡ true

-- it is new, and this is known of it
pub record KnownAt (n : ℕ) (known : TermFile → Type 0) (f : TermFile) (S : State) : Type 0 where
  pub at : NewAt n f S
  pub is : known f

-- it is new and not compound, and the text is UTF-8
pub record StringAt (n : ℕ) (s : Bytes) (f : TermFile) (S : State) : Type 0 where
  pub at : KnownAt n (PlainIs n) f S
  pub utf8 : is_utf8 s ≡ true

-- it is new and an entity of the type with number t, and its id is UTF-8
pub record EntityAt (n t : ℕ) (id : Bytes) (f : TermFile) (S : State) : Type 0 where
  pub at : KnownAt n (EntityIs n t id) f S
  pub utf8 : is_utf8 id ≡ true

-- the term with the number of an application is new, and is this application
pub record AppAt (call : Application) (f : TermFile) (S : State) : Type 0 where
  pub at : NewAt call.number f S
  pub result : ℕ
  pub is : TermIs f call.number (App result (op_of call.op)) (children_in call.arguments)

-- ---- steps over the term with number n

-- it is defined
unfoldable pub define_walk : ℕ → TermFile → walk.Walk
define_walk n f = define_term (members f) (term_at f n)

-- an entity whose type is no enum
unfoldable pub string_walk : ℕ → Bytes → TermFile → walk.Walk
string_walk n s f = ◌>>◌ (high_walk 15 (code_points s) n f) (define_walk n f)

-- an entity of the type with number t
unfoldable pub entity_walk : ℕ → ℕ → Bytes → TermFile → walk.Walk
entity_walk n t id f = define_entity (members f) (term_at f n) id (enum_of (members f) (type_at f t))

-- what an operator asks for
unfoldable pub operator_walk : ℕ → Op ℕ → TermFile → walk.Walk
operator_walk n op f = operator_step (members f) (term_at f n) (named_op f op)

-- and the definition after it
unfoldable pub ordinary_walk : ℕ → Op ℕ → TermFile → walk.Walk
ordinary_walk n op f = ◌>>◌ (operator_walk n op f) (define_walk n f)

-- an application
unfoldable pub app_walk : ℕ → Op ℕ → TermFile → walk.Walk
app_walk n op f = define_app (members f) (term_at f n) (named_op f op) (negation (term_at f n))
