-- Applications: what becomes of a `Bvnego`.
-- Assumes nothing.
use Prim.Native.Nat.{ℕ}
use mathlib.Core.Path.{◌≡◌, sym, ap, ◌∙◌}
use mathlib.Core.Bool.{Bool, false}
use mathlib.Core.List.{List}
use Rattle.std.specs.Prelude.{Result}
use Rattle.script_spec.specs.Tree as tree
use Rattle.script_spec.specs.Tree.{Negation, ordinary, falsehood, comparison, negation}
use Rattle.script_spec.specs.File.{TermFile, members, type_at, term_at, named_op, named_mark}
use Rattle.script_spec.specs.Walk.{State, define_app}
use Rattle.read_operator.specs.Operators.{op_of}
use Rattle.read_operator.specs.declared.Op.{Op}
use Rattle.index_entry.specs.Terms.{children_in}
use Rattle.index_entry.specs.declared.terms.Application.{Application}
use Rattle.walk_queries.specs.Negations.{negation_said, IsNego, NegationOf}
use Rattle.walk_queries.specs.declared.queries.Negated.{Negated}
use Rattle.walk_queries.specs.declared.queries.Negated.TheVariants as negated
use Rattle.walk_queries.proofs.NegoLaws.{nego, named_op_nego, negation_other}
use Rattle.walk_names.specs.Progress.{memory, Indexed, Advances}
use Rattle.walk_names.specs.declared.walk.Walk.{Walk}
use Rattle.walk_names.specs.declared.walk.Stopped.{Stopped}
use Rattle.walk_names.proofs.Advancing.{advances_by}
use Rattle.write_atoms.specs.Records.{TermIs}
use Rattle.write_terms.specs.Definitions.{ComparisonIs}
use Rattle.walk_new.specs.Steps.{NewAt, enter_walk}
use Rattle.walk_new.specs.News.{AppAt, KnownAt, define_walk, operator_walk, ordinary_walk, app_walk}
use Rattle.walk_new.proofs.OperatorLaws.{Ordinary}

-- the step of an application is that of what becomes of it
app_by : (n : ℕ) (o : tree.Op ℕ) (f : TermFile) (S : State) (z : Negation) → negation (term_at f n) ≡ z → app_walk n o f S ≡ define_app (members f) (term_at f n) (named_op f o) z S
unfolding app_walk
app_by n o f S z h = ap (λ (g : Negation). define_app (members f) (term_at f n) (named_op f o) g S) h

-- an application of another operator is written by its operator
other_ordinary : {f : TermFile} {n t : ℕ} {rs : List ℕ} {o : Op} {b : Bool} → IsNego o b → b ≡ false → TermIs f n (tree.App t (op_of o)) rs → negation (term_at f n) ≡ ordinary
unfolding named_mark
other_ordinary {f} {t = t} {o = o} G h T =
    ap negation (sym T.tree) ∙ negation_other _ _ (λ q. let x : tree.App (type_at f t) (named_op f (op_of o)) ≡ nego = q in G.if_not h (named_op_nego f _ (cc)))

-- a step of an application
abbrev Applies : Application → Walk → Walk → Result (Unit {0}) Stopped → Type 0
Applies call = Advances (AppAt call) (app_walk call.number (op_of call.op))

module _ {call : Application} {v w : Walk} {x : Result (Unit {0}) Stopped} where
  ordinary_app : ((f : TermFile) (S : State) → Indexed f v → AppAt call f S → negation (term_at f call.number) ≡ ordinary) → Advances (Ordinary call) (ordinary_walk call.number (op_of call.op)) v w x → Applies call v w x
  unfolding define_walk operator_walk ordinary_walk define_app
  ordinary_app h A = advances_by (λ f S I y. let z = h f S I y in (record { at = y.at; is = record { result = y.result; is = y.is; becomes = z } }, app_by call.number (op_of call.op) f S ordinary z)) A

  pub app_other : {b : Bool} → IsNego call.op b → b ≡ false → Advances (Ordinary call) (ordinary_walk call.number (op_of call.op)) v w x → Applies call v w x
  app_other G h A = ordinary_app (λ f S I y. other_ordinary G h y.is) A

  module _ {r : Negated} (N : NegationOf v.records.now.file.now (memory v) v.records.now.sizes call.number r) where
    pub app_false : r ≡ negated.Falsehood → Advances (NewAt call.number) (enter_walk call.number) v w x → Applies call v w x
    unfolding enter_walk define_app negation_said
    app_false e E = advances_by (λ f S I y. (y.at, app_by call.number (op_of call.op) f S falsehood (sym (N.go f I y.at.below) ∙ ap negation_said e))) E

    pub app_ordinary : r ≡ negated.Ordinary → Advances (Ordinary call) (ordinary_walk call.number (op_of call.op)) v w x → Applies call v w x
    unfolding negation_said
    app_ordinary e A = ordinary_app (λ f S I y. sym (N.go f I y.at.below) ∙ ap negation_said e) A

    pub app_comparison : {b : ℕ} → r ≡ negated.Comparison b → Advances (KnownAt call.number (ComparisonIs call.number b (children_in call.arguments))) (define_walk call.number) v w x → Applies call v w x
    unfolding define_walk define_app negation_said
    app_comparison {b} e A =
        advances_by (λ f S I y.
        let z : negation (term_at f call.number) ≡ comparison b = sym (N.go f I y.at.below) ∙ ap negation_said e in
        (record { at = y.at; is = record { result = y.result; op = op_of call.op; is = y.is; becomes = z } }, app_by call.number (op_of call.op) f S (comparison b) z)) A
