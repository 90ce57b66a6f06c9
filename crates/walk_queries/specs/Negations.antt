-- What a term is as a `Bvnego`, by what its record and those that it refers to have.
-- Assumes nothing.
use Rattle.std.specs.Prelude.{ℕ, ◌<◌, ◌≡◌, Bool, true, false, List, map, length}
use Rattle.std.proofs.Math.Option.{some}
use Rattle.script_spec.specs.Base.{Bytes, bytes}
use Rattle.script_spec.specs.Tree.{node, nil, cons, forest, Bool·, App, Plain, Bvnego, Negation, ordinary, falsehood, comparison, negation_with, negation}
use Rattle.script_spec.specs.Fields.{term}
use Rattle.script_spec.specs.File.{TermFile, types, terms, type_at, term_at}
use Rattle.index.specs.First.{Below}
use Rattle.index.specs.Standing.{entry_of, entry_at}
use Rattle.index.specs.Meaning.{Index}
use Rattle.index.specs.declared.Sizes.{Sizes}
use Rattle.read_operator.specs.Operators.{op_of}
use Rattle.read_operator.specs.declared.Op.{Op}
use Rattle.index_entry.specs.Terms.{children_in}
use Rattle.index_entry.specs.declared.terms.Children.{Children}
use Rattle.walk_queries.specs.declared.queries.Negated.{Negated}
use Rattle.walk_queries.specs.declared.queries.Negated.TheVariants as negated

-- what an answer says
unfoldable pub negation_said : Negated → Negation
negation_said negated.Ordinary = ordinary
negation_said negated.Falsehood = falsehood
negation_said (negated.Comparison n) = comparison n

-- whether an operator is `Bvnego`
pub record IsNego (o : Op) (r : Bool) : Type 0 where
  pub if_so : r ≡ true → op_of o ≡ Plain Bvnego
  pub if_not : r ≡ false → op_of o ≡ Plain Bvnego → ⊥

-- a body of an application that is told by its code is no `Bvnego`
pub record OtherCode (body : Bytes) (r : Bool) : Type 0 where
  pub go : r ≡ true → (t : ℕ) (rs : List ℕ) → entry_of (bytes "XA") body ≡ some (term (App t (Plain Bvnego)) rs) → ⊥

-- a record at an offset that is told by its mark and its code is no `Bvnego`
pub record IsOther (file : Bytes) (o : ℕ) (r : Bool) : Type 0 where
  pub go : r ≡ true → (t : ℕ) (rs : List ℕ) → entry_at file o ≡ some (term (App t (Plain Bvnego)) rs) → ⊥

module _ (file : Bytes) (work : List ℕ) (sizes : Sizes) where
  -- whether the type with number t is Bool, whatever file was accepted
  pub record IsBool (t : ℕ) (r : Bool) : Type 0 where
    pub if_so : (f : TermFile) → Index file f work sizes → t < length (types f) → r ≡ true → type_at f t ≡ node Bool· nil
    pub if_not : (f : TermFile) → Index file f work sizes → t < length (types f) → r ≡ false → type_at f t ≡ node Bool· nil → ⊥

  -- over one argument of the type with number t
  pub record NegationOver (t : ℕ) (r : Negated) : Type 0 where
    pub go : (f : TermFile) → Index file f work sizes → t < length (types f) → negation_said r ≡ negation_with (cons (type_at f t) nil)

  -- with a result of the type with number t, over these children
  pub record Negates (t : ℕ) (c : Children) (r : Negated) : Type 0 where
    pub go : (f : TermFile) → Index file f work sizes → t < length (types f) → Below (length (terms f)) (children_in c)
        → negation_said r ≡ negation (node (App (type_at f t) (Plain Bvnego)) (forest (map (term_at f) (children_in c))))

  -- the term with number n
  pub record NegationOf (n : ℕ) (r : Negated) : Type 0 where
    pub go : (f : TermFile) → Index file f work sizes → n < length (terms f) → negation_said r ≡ negation (term_at f n)
