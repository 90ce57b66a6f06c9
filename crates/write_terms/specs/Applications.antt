-- The heads of applications, and what writing an application promises.
-- Assumes nothing.
use Rattle.std.specs.Prelude.{ℕ, ◌-◌, ◌^◌, ◌%◌, List, [], ◌∷◌, ◌++◌, map, length}
use Rattle.script_spec.specs.Base.{Bytes, bytes}
use Rattle.script_spec.specs.Tree.{Fun, TypeMark, Forest, forest, types_of, Op, Plain, Ext, RecordGet, StringLike, Uuf, ZeroExtend}
use Rattle.script_spec.specs.File.{TermFile, types, funs, terms, term_at, named_op}
use Rattle.script_spec.specs.Text.{decimal}
use Rattle.script_spec.specs.Command.{headed}
use Rattle.script_spec.specs.Spelling.{Names, plain_name, ext_op_name, bit_vec, pattern, selector, application}
use Rattle.script_spec.specs.Walk.{names}
use Rattle.write_bytes.specs.declared.writer.Writer.{Writer}
use Rattle.read_field.specs.Words.{elements}
use Rattle.read_operator.specs.Operators.{op_of}
use Rattle.index.specs.First.{OpInRange, Below}
use Rattle.index.specs.Meaning.{counted}
use Rattle.index.specs.declared.Records.{Records}
use Rattle.index_entry.specs.Terms.{children_in}
use Rattle.index_entry.specs.declared.terms.Application.{Application}
use Rattle.index_entry.specs.declared.terms.Children.{Children}
use Rattle.walk_names.specs.Spells.{Spells}
use Rattle.write_terms.specs.Arguments.{atoms, HasTerms, SpellsOver}
use Rattle.write_terms.specs.declared.applications.Comparison.{Comparison}

-- the types of the terms with these numbers
unfoldable pub types_at : TermFile → List ℕ → Forest TypeMark
types_at f ns = types_of (forest (map (term_at f) ns))

-- what stands before the arguments of an operator of these types; a pattern stands after them
unfoldable pub head_of : Names → Op Fun → Forest TypeMark → Bytes
head_of ν (Plain o) tys = plain_name o
head_of ν (Ext o) tys = ext_op_name o
head_of ν (RecordGet a) tys = selector ν a tys
head_of ν (StringLike p) tys = []
head_of ν (Uuf g) tys = ν.func g
head_of ν (ZeroExtend n) tys = headed (bytes "_") (bytes "zero_extend" ∷ decimal n ∷ [])

-- the selector of an attribute is written
abbrev pub SpellsSelector : Records → Children → Bytes → Writer → Writer → Type 0
SpellsSelector records c name = Spells records (HasTerms (children_in c)) (λ f S. selector (names S) name (types_at f (children_in c)))

-- the file has what an application refers to
pub record HasCall (call : Application) (f : TermFile) : Type 0 where
  pub number : ℕ
  pub op_in_range : OpInRange (counted (length (types f)) (length (funs f)) number) (op_of call.op)
  pub below : Below (length (terms f)) (children_in call.arguments)

-- the head is written
abbrev pub SpellsOperatorHead : Records → Application → Writer → Writer → Type 0
SpellsOperatorHead records call = Spells records (HasCall call) (λ f S. head_of (names S) (named_op f (op_of call.op)) (types_at f (children_in call.arguments)))

-- the head before the arguments is written
abbrev pub SpellsApplied : Records → Application → Writer → Writer → Type 0
SpellsApplied records call =
    Spells records (HasCall call) (λ f S. headed (head_of (names S) (named_op f (op_of call.op)) (types_at f (children_in call.arguments))) (atoms f S (children_in call.arguments)))

-- the application is written
abbrev pub SpellsOperator : Records → Application → Writer → Writer → Type 0
SpellsOperator records call =
    Spells records (HasCall call) (λ f S. application (names S) (named_op f (op_of call.op)) (types_at f (children_in call.arguments)) (atoms f S (children_in call.arguments)))

-- the comparison with the least signed number of a width is written
abbrev pub SpellsComparison : Records → Comparison → Writer → Writer → Type 0
SpellsComparison records c = SpellsOver records c.arguments (λ xs. headed (bytes "=") (xs ++ (bit_vec c.width (2 ^ (c.width - 1) % 2 ^ 128) ∷ [])))

-- the match with a pattern is written
abbrev pub SpellsLike : Records → Children → Bytes → Writer → Writer → Type 0
SpellsLike records c p = SpellsOver records c (λ xs. headed (bytes "str.in_re") (xs ++ (pattern (elements p) ∷ [])))
