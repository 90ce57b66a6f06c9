-- A term that is entered, alone or with the command that declares or defines it: the name is in memory before the command is written.
-- Assumes nothing.
use Prim.Native.Nat.{ℕ}
use mathlib.Core.Path.{◌≡◌, refl, sym, subst}
use mathlib.Core.Bool.{true}
use mathlib.Core.List.{List, [], ◌∷◌}
use Rattle.std.specs.Prelude.{Ok}
use Rattle.script_spec.specs.Base.{Bytes}
use Rattle.script_spec.specs.Tree.{Tm, Ty, Forest, Mark, node, is_variable}
use Rattle.script_spec.specs.Tree.{Var, BoolLit, BitVecLit, StringLit, Entity, ExtLit, None, Some, Set, Record, App}
use Rattle.script_spec.specs.File.{TermFile, term_at}
use Rattle.script_spec.specs.Command.{Command, script}
use Rattle.script_spec.specs.Walk.{State, went, enter_term, write, declare_var, define_term, encode_new}
use Rattle.script_spec.specs.Walk as walk
use Rattle.script_spec.proofs.Laws.{never}
use Rattle.write_bytes.specs.Writers.{Writes, Lends}
use Rattle.write_bytes.proofs.Rest.{lent}
use Rattle.write_bytes.specs.declared.writer.Writer.{Writer}
use Rattle.index.specs.declared.Records.{Records}
use Rattle.walk_names.specs.Naming.{IndexOf, NumbersOf}
use Rattle.walk_names.specs.Progress.{Went, Holds, Advances, Enters}
use Rattle.walk_names.specs.declared.naming.Named.TheVariants as named
use Rattle.walk_names.specs.declared.walk.Walk.{Walk}
use Rattle.walk_names.proofs.Advancing.{continues_lent, script_one, indexed_remains, remains_trans, rewritten, remains_writes, went_writes}
use Rattle.walk_names.proofs.Entering.{remains_enters, enters_term}
use Rattle.write_terms.specs.Lines.{SpellsVariable}
use Rattle.write_terms.specs.Definitions.{SpellsDefinition}
use Rattle.walk_new.specs.Steps.{NewAt, enter_walk, new_walk}
use Rattle.walk_types.proofs.Entering.{index_viewed, numbers_viewed}
use Rattle.walk_new.specs.News.{VariableAt, KnownAt, define_walk}

-- ---- alone

pub enters : {n : ℕ} {v w : Walk} → Enters named.Terms n v w → Advances (NewAt n) (enter_walk n) v w (Ok tt)
unfolding enter_walk walk.enter
enters E = record { remains = remains_enters E; go = λ f limit o S I r W. enters_term I W E r.below r.new }

-- ---- with a command

-- a variable's id and type
variable_is : {P : Type 0} (t : Tm) → is_variable t ≡ true → ((id : Bytes) (ty : Ty) (ts : Forest Mark) → t ≡ node (Var id ty) ts → P) → P
unfolding is_variable
variable_is (node (Var id ty) ts) h next = next id ty ts refl
variable_is (node (BoolLit b) ts) h next = never cc
variable_is (node (BitVecLit n v) ts) h next = never cc
variable_is (node (StringLit s) ts) h next = never cc
variable_is (node (Entity ty id) ts) h next = never cc
variable_is (node (ExtLit v) ts) h next = never cc
variable_is (node (None ty) ts) h next = never cc
variable_is (node Some ts) h next = never cc
variable_is (node (Set ty) ts) h next = never cc
variable_is (node (Record ns) ts) h next = never cc
variable_is (node (App ty op) ts) h next = never cc

-- the step over a variable
variable_step : (n : ℕ) (f : TermFile) (S : State) (id : Bytes) (ty : Ty) (ts : Forest Mark) → term_at f n ≡ node (Var id ty) ts → new_walk n f S ≡ declare_var id (term_at f n) S
unfolding new_walk encode_new
variable_step n f S id ty ts e = rw e

module _ {n : ℕ} {v w : Walk} {x : Writer} (q : Records) (E : Enters named.Terms n v w)
    (V : (q.file.now ≡ w.records.now.file.now) × (q.work.now ≡ w.records.now.work.now) × (q.sizes ≡ w.records.now.sizes)) where
  -- the command is written over the index and the names of the state where the term is entered
  introduces : {P : Writer → Writer → Type 0} {ready : TermFile → State → Type 0} {step : TermFile → walk.Walk} → ((f : TermFile) (S : State) → ready f S → NewAt n f S)
      → Lends P w.script.now x
      → ((f : TermFile) (S : State) → ready f S → IndexOf f q → NumbersOf f q (enter_term (term_at f n) S)
      → (cs : List Command) × ((a b : Writer) → P a b → Writes a b (script cs)) × (step f S ≡ went (write cs (enter_term (term_at f n) S))))
      → Advances ready step v (rewritten w x) (Ok tt)
  introduces new L h =
      let R = remains_enters E in
      record {
        remains = remains_trans R (remains_writes (continues_lent L));
        go = λ f limit o S I r W.
            let at = new f S r in
            let G : Went f limit o w (enter_term (term_at f n) S) = enters_term I W E at.below at.new in
            let g = h f S r (index_viewed w q V (indexed_remains R I)) (numbers_viewed w q V G) in
            subst (Holds f limit o (rewritten w x) (Ok tt)) (sym g.2) (went_writes g.0 G (lent g.1 L));
      }

  -- ---- definitions

  pub defines : {known : TermFile → Type 0} → Lends (SpellsDefinition q n known) w.script.now x → Advances (KnownAt n known) (define_walk n) v (rewritten w x) (Ok tt)
  unfolding define_walk define_term
  defines L =
      introduces (λ f S r. r.at) L (λ f S r I N.
      (_ ∷ [], (λ a b p. rw (← script_one _) (p.go f (enter_term (term_at f n) S) I N (record { inside = r.at.below; known = r.is }))), refl))

  -- ---- declarations

  pub declares : Lends (SpellsVariable q n) w.script.now x → Advances (VariableAt n) (new_walk n) v (rewritten w x) (Ok tt)
  unfolding declare_var
  declares L =
      introduces (λ f S r. r.at) L (λ f S r I N.
      variable_is (term_at f n) r.is (λ id ty ts e.
      (_ ∷ _ ∷ [], (λ a b p. (p id).go f (enter_term (term_at f n) S) I N (record { inside = r.at.below; type = ty; children = ts; tree = e })), variable_step n f S id ty ts e)))
