-- Applications, piece by piece: an operator before its arguments, a pattern after them, and what becomes of a `Bvnego`.
-- Assumes nothing.
use mathlib.Core.Path.{◌≡◌, sym, ap, ◌∙◌}
use mathlib.Core.List.{List, [], ◌∷◌, ◌++◌}
use Prim.Native.Nat.{ℕ, ◌-◌, ◌^◌, ◌%◌, ◌<◌}
use native.Mathlib.Omega.{arith}
use lib.ListN.{length}
use denote.Bor.{Bor}
use Rattle.script_spec.specs.Base.{Bytes, bytes}
use Rattle.script_spec.specs.Tree.{Ty, Fun, Op, Enums, Mark, Forest, TypeMark, node, App, types_of, Negation, ordinary, comparison, negation}
use Rattle.script_spec.specs.File.{TermFile, terms, term_at, named_op, named_mark, members}
use Rattle.script_spec.specs.Command.{headed}
use Rattle.script_spec.specs.Spelling as spelling
use Rattle.script_spec.specs.Spelling.{Names, bit_vec, pattern, application, negated, body}
use Rattle.script_spec.specs.Walk.{names}
use Rattle.write_bytes.specs.declared.writer.Writer.{Writer}
use Rattle.write_bytes.specs.Writers.{Writes}
use Rattle.write_bitvec.proofs.Powers.{power_whole}
use Rattle.read_field.specs.Words.{elements}
use Rattle.read_operator.specs.Operators.{op_of}
use Rattle.read_operator.specs.declared.Op as operator
use Rattle.read_operator.specs.declared.Op.TheVariants as op
use Rattle.index.specs.First.{MarkInRange}
use Rattle.index.specs.declared.Records.{Records}
use Rattle.index.proofs.Later.{below_more}
use Rattle.index_entry.specs.Terms.{children_in}
use Rattle.index_entry.specs.declared.terms.Application.{Application}
use Rattle.index_entry.specs.declared.terms.Children.{Children}
use Rattle.write_atoms.specs.Records.{TermIs}
use Rattle.walk_names.proofs.Spelling.{written, spells_as, knowing, ◌next◌}
use Rattle.write_terms.specs.Arguments.{atoms, SpellsArguments, SpellsClosed}
use Rattle.write_terms.specs.Applications.{types_at, head_of, SpellsOperatorHead, SpellsApplied, SpellsOperator, SpellsComparison, SpellsLike}
use Rattle.write_terms.specs.Definitions.{OrdinaryIs, ComparisonIs, SpellsBodyOf}
use Rattle.write_terms.specs.declared.applications.Comparison.{Comparison}
use Rattle.write_terms.proofs.ArgumentLaws.{headed_closed, headed_last}
use Rattle.write_terms.proofs.HeadLaws.{op_cases}
use Rattle.write_terms.proofs.BodyLaws.{over_children}
use Rattle.write_terms.proofs.WidthLaws.{width_small}

-- an operator other than a pattern's match stands before its arguments
applied_is : (ν : Names) (f : TermFile) (o : operator.Op) (tys : Forest TypeMark) (args : List Bytes) → ((p : Bor Bytes) → o ≡ op.StringLike p → ⊥)
    → headed (head_of ν (named_op f (op_of o)) tys) args ≡ application ν (named_op f (op_of o)) tys args
unfolding op_of named_op head_of application
applied_is ν f o tys args h = op_cases o (λ x e. rw e) (λ x e. rw e) (λ a e. rw e) (λ p e. absurd (h p e)) (λ g e. rw e) (λ n e. rw e)

module _ {records : Records} {v : Writer} where
  pub spells_applied : {call : Application} {x y w : Writer} → Writes v x (bytes "(") → SpellsOperatorHead records call x y → SpellsClosed records call.arguments y w → SpellsApplied records call v w
  spells_applied A H C = spells_as (λ f S I N k. headed_closed _ _) (written A next H next knowing (λ f I k. k.below) C)

  module _ {v₁ v₂ v₃ v₄ w : Writer} where
    pub spells_comparison : (c : Comparison) → Writes v v₁ (bytes "(=") → SpellsArguments records c.arguments v₁ v₂ → Writes v₂ v₃ (bytes " ") → Writes v₃ v₄ (bit_vec c.width (2 ^ (c.width - 1) % 2 ^ 128))
        → Writes v₄ w (bytes ")") → SpellsComparison records c v w
    unfolding bytes
    spells_comparison c A P B C D = spells_as (λ f S I N k. headed_last (bytes "=") _ _) (written A next P next written B next written C next written D)

    pub spells_like : (c : Children) (p : Bytes) → Writes v v₁ (bytes "(str.in_re") → SpellsArguments records c v₁ v₂ → Writes v₂ v₃ (bytes " ") → Writes v₃ v₄ (pattern (elements p))
        → Writes v₄ w (bytes ")") → SpellsLike records c p v w
    unfolding bytes
    spells_like c p A P B C D = spells_as (λ f S I N k. headed_last (bytes "str.in_re") _ _) (written A next P next written B next written C next written D)

  module _ {call : Application} {w : Writer} where
    pub operator_like : {p : Bor Bytes} → call.op ≡ op.StringLike p → SpellsLike records call.arguments p.now v w → SpellsOperator records call v w
    unfolding op_of named_op application
    operator_like e P = spells_as (λ f S I N k. rw e) (knowing (λ f I k. k.below) P)

    pub operator_applied : ((p : Bor Bytes) → call.op ≡ op.StringLike p → ⊥) → SpellsApplied records call v w → SpellsOperator records call v w
    operator_applied h P = spells_as (λ f S I N k. applied_is (names S) f call.op _ _ h) P

-- ---- what becomes of a `Bvnego`

app_is : (e : Enums) (ν : Names) (ty : Ty) (o : Op Fun) (ts : Forest Mark) (args : List Bytes) (z : Negation) → z ≡ negation (node (App ty o) ts)
    → negated z (application ν o (types_of ts) args) args ≡ body e ν (node (App ty o) ts) args
unfolding body spelling.body_over
app_is e ν ty o ts args z h = ap (λ (z : Negation). negated z (application ν o (types_of ts) args) args) h

-- an application from the children of its body
app_here : {f : TermFile} {n t : ℕ} {o : Op ℕ} {rs : List ℕ} → TermIs f n (App t o) rs → (e : Enums) (ν : Names) (args : List Bytes) (z : Negation) → z ≡ negation (term_at f n)
    → negated z (application ν (named_op f o) (types_at f rs) args) args ≡ body e ν (term_at f n) args
unfolding named_mark types_at
app_here T e ν args z h = app_is e ν _ _ _ args z (h ∙ ap negation (sym T.tree)) ∙ ap (λ t. body e ν t args) T.tree

module _ {records : Records} {v w : Writer} where
  -- an application in full: by its operator
  pub spells_ordinary : {call : Application} → SpellsOperator records call v w → SpellsBodyOf records call.number (OrdinaryIs call) v w
  unfolding negated MarkInRange
  spells_ordinary {call} P =
      spells_as (λ f S I N k. app_here k.known.is (members f) (names S) _ ordinary (sym k.known.becomes) ∙ over_children k.known.is S)
      (knowing (λ f I k. record { number = call.number; op_in_range = k.known.is.in_range.1; below = below_more call.number (length (terms f)) (omega (arith, k.inside)) _ k.known.is.below }) P)

  -- or as a comparison
  pub spells_compared : {n : ℕ} (c : Comparison) → SpellsComparison records c v w → SpellsBodyOf records n (ComparisonIs n c.width (children_in c.arguments)) v w
  unfolding negated
  spells_compared {n} c P =
      spells_as (λ f S I N k.
      let below = below_more n (length (terms f)) (omega (arith, k.inside)) _ k.known.is.below in
      let small : c.width - 1 < 128 = omega (arith, width_small I.rows below k.known.is k.known.becomes) in
      ap (λ (v : ℕ). headed (bytes "=") (atoms f S (children_in c.arguments) ++ (bit_vec c.width v ∷ []))) (power_whole (c.width - 1) small)
      ∙ app_here k.known.is (members f) (names S) _ (comparison c.width) (sym k.known.becomes) ∙ over_children k.known.is S)
      (knowing (λ f I k. below_more n (length (terms f)) (omega (arith, k.inside)) _ k.known.is.below) P)
