-- Applications by their operators: defined after what the operator asks for.
-- Assumes nothing.
use Prim.Native.Nat.{ℕ}
use mathlib.Core.Path.{◌≡◌, refl, sym, ap, ◌∙◌, subst}
use mathlib.Core.List.{List}
use lib.ListN.{length}
use denote.Ref.{Bor}
use Rattle.std.specs.Prelude.{Option as Optional, Result, Ok, Err}
use Rattle.script_spec.specs.Base.{Bytes}
use Rattle.script_spec.specs.Tree.{Tm, Mark, Enums, node, forest, children}
use Rattle.script_spec.specs.File.{TermFile, types, funs, members, term_at, named_op}
use Rattle.script_spec.specs.Walk.{State, went, first_high, operator_step}
use Rattle.script_spec.proofs.EnteredTerms.{operator_new}
use Rattle.refusal.specs.declared.Refusal.TheVariants as refusal
use Rattle.refusal.specs.Numbers.{number, option_of}
use Rattle.index.specs.First.{OpInRange, MarkInRange}
use Rattle.index.specs.Meaning.{counted}
use Rattle.script_spec.proofs.Lists.{trees_forest}
use Rattle.read_field.specs.Words.{elements}
use Rattle.read_operator.specs.Operators.{op_of}
use Rattle.read_operator.specs.declared.Op.{Op}
use Rattle.read_operator.specs.declared.Op.TheVariants as op
use Rattle.index_entry.specs.Terms.{children_in}
use Rattle.index_entry.specs.declared.terms.Application.{Application}
use Rattle.walk_types.specs.Types.{fun_ready, fun_walk}
use Rattle.walk_names.specs.Progress.{Advances}
use Rattle.walk_names.specs.declared.walk.Walk.{Walk}
use Rattle.walk_names.specs.declared.walk.Stopped.{Stopped}
use Rattle.walk_names.proofs.Advancing.{advances_by, advances_passed, advances_then, advances_stays}
use Rattle.write_terms.specs.Definitions.{OrdinaryIs}
use Rattle.walk_new.specs.Steps.{ParentAt, term_ready, high_walk, get_walk, high_told}
use Rattle.walk_new.specs.News.{KnownAt, define_walk, operator_walk, ordinary_walk}
use Rattle.walk_new.proofs.Testing.{advances_high}
use Rattle.walk_new.proofs.EntityLaws.{new_after}

-- the other operators ask for nothing
asks_nothing : (e : Enums) (t : Tm) (f : TermFile) (S : State) (o : Op) → ((x : Bor Bytes) → o ≡ op.RecordGet x → ⊥) → ((x : Bor Bytes) → o ≡ op.StringLike x → ⊥) → ((x : ℕ) → o ≡ op.Uuf x → ⊥)
    → operator_step e t (named_op f (op_of o)) S ≡ went S
unfolding operator_step named_op op_of
asks_nothing e t f S op.And a b g = refl
asks_nothing e t f S op.Bvadd a b g = refl
asks_nothing e t f S op.Bvlshr a b g = refl
asks_nothing e t f S op.Bvmul a b g = refl
asks_nothing e t f S op.Bvneg a b g = refl
asks_nothing e t f S op.Bvnego a b g = refl
asks_nothing e t f S op.Bvsaddo a b g = refl
asks_nothing e t f S op.Bvsdiv a b g = refl
asks_nothing e t f S op.Bvshl a b g = refl
asks_nothing e t f S op.Bvsle a b g = refl
asks_nothing e t f S op.Bvslt a b g = refl
asks_nothing e t f S op.Bvsmod a b g = refl
asks_nothing e t f S op.Bvsmulo a b g = refl
asks_nothing e t f S op.Bvsrem a b g = refl
asks_nothing e t f S op.Bvssubo a b g = refl
asks_nothing e t f S op.Bvsub a b g = refl
asks_nothing e t f S op.Bvudiv a b g = refl
asks_nothing e t f S op.Bvule a b g = refl
asks_nothing e t f S op.Bvult a b g = refl
asks_nothing e t f S op.Bvurem a b g = refl
asks_nothing e t f S op.Eq a b g = refl
asks_nothing e t f S (op.Ext x) a b g = refl
asks_nothing e t f S op.Ite a b g = refl
asks_nothing e t f S op.Not a b g = refl
asks_nothing e t f S op.OptionGet a b g = refl
asks_nothing e t f S op.Or a b g = refl
asks_nothing e t f S (op.RecordGet x) a b g = absurd (a x refl)
asks_nothing e t f S op.SetInter a b g = refl
asks_nothing e t f S op.SetMember a b g = refl
asks_nothing e t f S op.SetSubset a b g = refl
asks_nothing e t f S (op.StringLike x) a b g = absurd (b x refl)
asks_nothing e t f S (op.Uuf x) a b g = absurd (g x refl)
asks_nothing e t f S (op.ZeroExtend n) a b g = refl

-- the children of a term
children_of : {m : Mark} {ts : List Tm} {u : Tm} → node m (forest ts) ≡ u → children u ≡ ts
unfolding children
children_of {ts = ts} e = ap children (sym e) ∙ trees_forest ts

-- what is known of an application before what its operator asks for
abbrev pub Ordinary : Application → TermFile → State → Type 0
Ordinary call = KnownAt call.number (OrdinaryIs call)

module _ {call : Application} {v w : Walk} {x : Result (Unit {0}) Stopped} where
  -- ---- what an operator asks for

  pub asks_attribute : {a : Bor Bytes} → call.op ≡ op.RecordGet a → Advances (ParentAt call.number (children_in call.arguments)) (get_walk call.number a.now) v w x → Advances (Ordinary call) (operator_walk call.number (op_of call.op)) v w x
  unfolding operator_walk get_walk operator_step named_op op_of
  asks_attribute e A = advances_by (λ f S I y. (record { below = y.at.below; lower = y.is.is.below; are = children_of y.is.is.tree }, rw e)) A

  pub asks_fun : {g : ℕ} → call.op ≡ op.Uuf g → Advances (fun_ready g) (fun_walk g) v w x → Advances (Ordinary call) (operator_walk call.number (op_of call.op)) v w x
  unfolding operator_walk operator_step named_op op_of OpInRange MarkInRange counted fun_ready fun_walk
  asks_fun e A = advances_by (λ f S I y. (subst (λ (z : Op). OpInRange (counted (length (types f)) (length (funs f)) call.number) (op_of z)) e y.is.is.in_range.1, rw e)) A

  -- ---- and the definition after it

  -- an application is as new after it
  pub ordinary_then : {u : Walk} → Advances (Ordinary call) (operator_walk call.number (op_of call.op)) v u (Ok tt) → Advances (Ordinary call) (define_walk call.number) u w x → Advances (Ordinary call) (ordinary_walk call.number (op_of call.op)) v w x
  unfolding ordinary_walk operator_walk
  ordinary_then A D =
      let n = call.number in
      advances_then (operator_walk n (op_of call.op)) (define_walk n) A D
      (λ f S S' I y q. record { at = new_after y.at (operator_new (members f) (term_at f n) (term_at f n) (named_op f (op_of call.op)) S y.at.new) q; is = y.is })

module _ {call : Application} {v w : Walk} where
  pub ordinary_stopped : {e : Stopped} → Advances (Ordinary call) (operator_walk call.number (op_of call.op)) v w (Err e) → Advances (Ordinary call) (ordinary_walk call.number (op_of call.op)) v w (Err e)
  unfolding ordinary_walk
  ordinary_stopped A = advances_stays (operator_walk call.number (op_of call.op)) (define_walk call.number) A

module _ {call : Application} {v : Walk} where
  pub asks_pattern : (o : Optional ℕ) {p : Bor Bytes} {x : Result (Unit {0}) Stopped} → call.op ≡ op.StringLike p → option_of o ≡ first_high (elements p.now) → x ≡ high_told o refusal.HighPattern call.number
      → Advances (Ordinary call) (operator_walk call.number (op_of call.op)) v v x
  unfolding operator_walk high_walk operator_step named_op op_of term_ready number
  asks_pattern o e h t = rw t (advances_by (λ f S I y. (y.at.below, rw e)) (advances_high _ o refusal.HighPattern call.number h))

  pub asks_none : ((x : Bor Bytes) → call.op ≡ op.RecordGet x → ⊥) → ((x : Bor Bytes) → call.op ≡ op.StringLike x → ⊥) → ((x : ℕ) → call.op ≡ op.Uuf x → ⊥) → Advances (Ordinary call) (operator_walk call.number (op_of call.op)) v v (Ok tt)
  unfolding operator_walk
  asks_none a b g = advances_passed (λ f limit r S I y W. asks_nothing (members f) (term_at f call.number) f S call.op a b g)
