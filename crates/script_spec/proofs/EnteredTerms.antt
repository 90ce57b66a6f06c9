-- What the walk over terms enters in the table of terms: terms that are no deeper. So a term is still new after its type and its
-- children. By recursion on the term.
-- Assumes nothing.
use Prim.Native.Nat.{ℕ, suc, ◌≤◌, ◌<◌, max}
use mathlib.Core.Path.{◌≡◌, refl, sym, ◌∙◌, subst}
use mathlib.Core.Logic.{◌⊎◌, inl, inr}
use mathlib.Core.Bool.{Bool, true, false}
use mathlib.Core.List.{List, [], ◌∷◌, map}
use mathlib.Core.Option.{Option, none, some}
use native.Mathlib.Omega.{arith}
use lib.Dec.{T}
use Rattle.script_spec.specs.Base.{Bytes, any}
use Rattle.script_spec.specs.Tree.{Ty, Fun, Tm, Mark, Forest, node, nil, cons, children, depth, depths, type_of, is_falsehood, eq_tm, Enums, enum_of, Negation, ordinary, falsehood, comparison, negation}
use Rattle.script_spec.specs.Tree.{uuf, Var, BoolLit, BitVecLit, StringLit, Entity, ExtLit, None, Some, Set, Record, App, Op, Plain, Ext, RecordGet, StringLike, Uuf, ZeroExtend}
use Rattle.script_spec.specs.Command.{Command}
use Rattle.script_spec.specs.Walk.{State, Step, Walk, ◌>>◌, unless, refuse_unless, refuse_high, enter_fun, enter_term, write, writing, declare_function, encode_type, encode_uuf, enter, declare_var, define_term, define_entity, record_get, operator_step, define_app, encode_new, encode_term, encode_terms}
use Rattle.script_spec.proofs.Laws.{is_true}
use Rattle.script_spec.proofs.Steps.{Ends, Goes, goes, ends_then, ends_unless, ends_tested, ends_high, ends_map, goes_map}
use Rattle.script_spec.proofs.Equal.{eq_tm_depth}
use Rattle.script_spec.proofs.Entered.{term_cases, encode_type_only}

-- ---- types and functions enter no term

pub encode_type_terms : (e : Enums) (t : Ty) (s : State) → Goes (λ s'. s'.terms ≡ s.terms) (encode_type e t s)
encode_type_terms e t s = ends_map (λ s' o. o.terms) (encode_type_only e t s)

pub encode_uuf_terms : (e : Enums) (f : Fun) (s : State) → Goes (λ s'. s'.terms ≡ s.terms) (encode_uuf e f s)
unfolding encode_uuf writing declare_function enter_fun write
encode_uuf_terms e (uuf id arg out) s =
    ends_unless _ _ s (λ k. refl)
    (λ k. ends_then _ _ s
    (goes (ends_then _ _ _
    (ends_map (λ s₁ p. ends_then _ _ s₁ (ends_map (λ s₂ q. goes (q ∙ p)) (encode_type_terms e out s₁))) (encode_type_terms e arg _)))))

-- ---- steps that enter terms of at most a depth

-- the terms that are entered have at most the depth d
pub record TermsOnly (d : ℕ) (s s' : State) : Type 0 where
  pub terms : (u : Tm) → d < depth u → T (any (eq_tm u) s'.terms) → T (any (eq_tm u) s.terms)

-- a step that enters terms of at most the depth d, or stops
abbrev pub Enters : ℕ → State → Step → Type 0
Enters d s = Ends (TermsOnly d s) (λ n t q. Unit {0})

only_same : (d : ℕ) (s s' : State) → s'.terms ≡ s.terms → TermsOnly d s s'
only_same d s s' p = record { terms = λ u l h. subst (λ (us : List Tm). T (any (eq_tm u) us)) p h }

only_both : (a b c : ℕ) (s s₁ s₂ : State) → a ≤ c → b ≤ c → TermsOnly a s s₁ → TermsOnly b s₁ s₂ → TermsOnly c s s₂
only_both a b c s s₁ s₂ p q x y = record { terms = λ u l h. x.terms u (omega arith) (y.terms u (omega arith) h) }

enters_goes : (d : ℕ) (s : State) {x : Step} → Goes (λ s'. s'.terms ≡ s.terms) x → Enters d s x
enters_goes d s g = goes_map (λ s' p. only_same d s s' p) g

enters_then : (a b c : ℕ) (w v : Walk) (s : State) → a ≤ c → b ≤ c → Enters a s (w s) → ((s₁ : State) → Enters b s₁ (v s₁)) → Enters c s (◌>>◌ w v s)
enters_then a b c w v s p q x y = ends_then w v s (ends_map (λ s₁ o. ends_map (λ s₂ o'. only_both a b c s s₁ s₂ p q o o') (y s₁)) x)

tested_enters : (d n : ℕ) (t : Tm) (b : Bool) (s : State) → Enters d s (refuse_unless n t b s)
tested_enters d n t b s = ends_tested n t b s (only_same d s s refl) tt

high_enters : (d n : ℕ) (t : Tm) (cs : List ℕ) (s : State) → Enters d s (refuse_high n t cs s)
high_enters d n t cs s = ends_high n t cs s (only_same d s s refl) (λ q e. tt)

-- a term entered, with whatever is written
entered_only : (t : Tm) (cs : List Command) (s : State) → TermsOnly (depth t) s (write cs (enter_term t s))
unfolding enter_term write
entered_only t cs s = record { terms = λ u l h. old u l (term_cases s.terms t u h) }
  where
    old : (u : Tm) → depth t < depth u → T (any (eq_tm u) s.terms) ⊎ T (eq_tm u t) → T (any (eq_tm u) s.terms)
    old u l (inl h) = h
    old u l (inr p) = absurd (let q = eq_tm_depth u t p in omega arith)

-- ---- a new term

enter_only : (t : Tm) (s : State) → Enters (depth t) s (enter t s)
unfolding enter enter_term write
enter_only t s = goes (record { terms = (entered_only t [] s).terms })

define_term_only : (e : Enums) (t : Tm) (s : State) → Enters (depth t) s (define_term e t s)
unfolding define_term
define_term_only e t s = goes (entered_only t _ s)

-- an entity by the members of its type
define_entity_only : (e : Enums) (t : Tm) (id : Bytes) (o : Option (List Bytes)) (s : State) → Enters (depth t) s (define_entity e t id o s)
unfolding define_entity
define_entity_only e t id none s = enters_then (depth t) (depth t) (depth t) _ _ s (omega arith) (omega arith) (high_enters (depth t) 15 t _ s) (define_term_only e t)
define_entity_only e t id (some ms) s = enters_then (depth t) (depth t) (depth t) _ _ s (omega arith) (omega arith) (tested_enters (depth t) 14 t _ s) (enter_only t)

-- what `RecordGet` asks
record_get_only : (d : ℕ) (t : Tm) (a : Bytes) (tys : List Ty) (s : State) → Enters d s (record_get t a tys s)
unfolding record_get
record_get_only d t a [] s = tested_enters d 19 t false s
record_get_only d t a (ty ∷ tys) s =
    enters_then d d d _ _ s (omega arith) (omega arith) (tested_enters d 18 t _ s)
    (λ s₁. enters_then d d d _ _ s₁ (omega arith) (omega arith) (tested_enters d 17 t _ s₁) (λ s₂. tested_enters d 16 t _ s₂))

-- what an operator asks for
operator_step_only : (d : ℕ) (e : Enums) (t : Tm) (op : Op Fun) (s : State) → Enters d s (operator_step e t op s)
unfolding operator_step
operator_step_only d e t (Plain o) s = goes (only_same d s s refl)
operator_step_only d e t (Ext o) s = goes (only_same d s s refl)
operator_step_only d e t (RecordGet a) s = record_get_only d t a (map type_of (children t)) s
operator_step_only d e t (StringLike p) s = high_enters d 25 t _ s
operator_step_only d e t (Uuf f) s = enters_goes d s (encode_uuf_terms e f s)
operator_step_only d e t (ZeroExtend n) s = goes (only_same d s s refl)

-- an application, by what becomes of a `Bvnego`
define_app_only : (e : Enums) (t : Tm) (op : Op Fun) (g : Negation) (s : State) → Enters (depth t) s (define_app e t op g s)
unfolding define_app
define_app_only e t op falsehood s = enter_only t s
define_app_only e t op (comparison n) s = define_term_only e t s
define_app_only e t op ordinary s = enters_then (depth t) (depth t) (depth t) _ _ s (omega arith) (omega arith) (operator_step_only (depth t) e t op s) (define_term_only e t)

encode_new_only : (e : Enums) (t : Tm) (s : State) → Enters (depth t) s (encode_new e t s)
unfolding encode_new declare_var
encode_new_only e (node (Var id ty) ts) s = goes (entered_only (node (Var id ty) ts) _ s)
encode_new_only e (node (BoolLit b) ts) s = goes (only_same _ s s refl)
encode_new_only e (node (BitVecLit n v) ts) s = goes (only_same _ s s refl)
encode_new_only e (node (StringLit x) ts) s = high_enters _ 24 _ _ s
encode_new_only e (node (Entity ty id) ts) s = define_entity_only e (node (Entity ty id) ts) id (enum_of e ty) s
encode_new_only e (node (ExtLit v) ts) s = define_term_only e _ s
encode_new_only e (node (None ty) ts) s = define_term_only e _ s
encode_new_only e (node Some ts) s = define_term_only e _ s
encode_new_only e (node (Set ty) ts) s = define_term_only e _ s
encode_new_only e (node (Record ns) ts) s = define_term_only e _ s
encode_new_only e (node (App ty op) ts) s = define_app_only e (node (App ty op) ts) op (negation (node (App ty op) ts)) s

-- ---- the walk over terms

mutual
  unfolding encode_term depth

  pub encode_term_only : (e : Enums) (t : Tm) (s : State) → Enters (depth t) s (encode_term e t s)
  encode_term_only e (node m ts) s =
      ends_unless _ _ s (λ k. only_same _ s s refl)
      (λ k. enters_then 0 (suc (depths ts)) (suc (depths ts)) _ _ s (omega arith) (omega arith) (enters_goes 0 s (encode_type_terms e (type_of (node m ts)) s))
      (λ s₁. enters_then (depths ts) (suc (depths ts)) (suc (depths ts)) _ _ s₁ (omega arith) (omega arith)
      (ends_unless _ _ s₁ (λ k'. only_same _ s₁ s₁ refl) (λ k'. encode_terms_only e ts s₁)) (λ s₂. encode_new_only e (node m ts) s₂)))

  pub encode_terms_only : (e : Enums) (ts : Forest Mark) (s : State) → Enters (depths ts) s (encode_terms e ts s)
  encode_terms_only e nil s = goes (only_same 0 s s refl)
  encode_terms_only e (cons t ts) s =
      enters_then (depth t) (depths ts) (max (depth t) (depths ts)) _ _ s (omega arith) (omega arith) (encode_term_only e t s) (λ s₁. encode_terms_only e ts s₁)

-- ---- a term that is still new

-- a term is not in the table
abbrev pub New : Tm → State → Type 0
New t s = any (eq_tm t) s.terms ≡ false

still_new : (d : ℕ) (t : Tm) (s s' : State) → d < depth t → New t s → TermsOnly d s s' → New t s'
still_new d t s s' l n o = go (any (eq_tm t) s'.terms) (o.terms t l)
  where
    go : (b : Bool) → (T b → T (any (eq_tm t) s.terms)) → b ≡ false
    go true h = sym (is_true (any (eq_tm t) s.terms) (h tt)) ∙ n
    go false h = refl

-- after its type and its children a term is as new as before
pub parts_new : (e : Enums) (m : Mark) (ts : Forest Mark) (s : State) → New (node m ts) s
    → Ends (New (node m ts)) (λ n t q. Unit {0}) (◌>>◌ (encode_type e (type_of (node m ts))) (unless (λ s'. is_falsehood (node m ts)) (encode_terms e ts)) s)
unfolding depth
parts_new e m ts s n =
    ends_map (λ s' o. still_new (depths ts) (node m ts) s s' (omega arith) n o)
    (enters_then 0 (depths ts) (depths ts) _ _ s (omega arith) (omega arith) (enters_goes 0 s (encode_type_terms e (type_of (node m ts)) s))
    (λ s₁. ends_unless _ _ s₁ (λ k. only_same _ s₁ s₁ refl) (λ k. encode_terms_only e ts s₁)))

-- what an operator asks for enters no term
pub operator_new : (e : Enums) (t u : Tm) (op : Op Fun) (s : State) → New u s → Ends (New u) (λ n v q. Unit {0}) (operator_step e t op s)
unfolding depth
operator_new e t (node m ts) op s n = ends_map (λ s' o. still_new 0 (node m ts) s s' (omega arith) n o) (operator_step_only 0 e t op s)
