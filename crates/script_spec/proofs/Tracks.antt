-- The walk over a term, and the walk over the term as listed, keep step: their states differ only in that the second has every term of
-- its table as listed. Here what that means, for each way of composing walks, and for types, functions and new terms.
-- Assumes nothing.
use Prim.Native.Nat.{ℕ}
use mathlib.Core.Path.{◌≡◌, refl, sym, ap, ap₂, ◌∙◌, subst}
use mathlib.Core.Logic.{◌⊎◌, inl, inr}
use mathlib.Core.Bool.{Bool, true, false, ◌||◌}
use mathlib.Core.List.{List, [], ◌∷◌, ◌++◌, map, map-append}
use mathlib.Core.Option.{Option, none, some}
use lib.Dec.{T}
use Rattle.script_spec.specs.Base.{Bytes, bytes, any, place, place_from}
use Rattle.script_spec.specs.Utf8.{code_points}
use Rattle.script_spec.specs.Tree.{Ty, Fun, Tm, TypeMark, Mark, Forest, node, nil, cons, children, type_of, is_set, eq_ty, eq_tm, Enums, enum_of, Datatype, datatype, Negation, ordinary, falsehood, comparison, negation}
use Rattle.script_spec.specs.Tree.{uuf, Var, BoolLit, BitVecLit, StringLit, Entity, ExtLit, None, Some, Set, Record, App, Op, Plain, Ext, RecordGet, StringLike, Uuf, ZeroExtend}
use Rattle.script_spec.specs.Text.{debug}
use Rattle.script_spec.specs.Command.{Command, comment, declare_datatype, declare_const, declare_fun, define_fun}
use Rattle.script_spec.specs.Spelling.{Names, sort, body, atom, constructors, type_comment, type_declaration, fun_declaration}
use Rattle.script_spec.specs.Walk.{State, Step, went, stopped, Walk, ◌>>◌, unless, refuse_unless, first_high, refuse_high, writing, numbered, names, type_name, enter_type, enter_fun, enter_term, write}
use Rattle.script_spec.specs.Walk.{declare_type, encode_type, encode_types, declare_function, encode_uuf, enter, declare_var, define_term, define_entity, record_get, operator_step, define_app, encode_new}
use Rattle.script_spec.specs.Listing.{listed}
use Rattle.script_spec.proofs.Steps.{went_ne_stopped}
use Rattle.script_spec.proofs.Classes.{eq_tm_type_of, eq_tm_negation, sort_alike, eq_tm_body, eq_tm_atom}
use Rattle.script_spec.proofs.Listings.{listed_same, listed_eq_tm}

-- a state with its terms as listed
unfoldable pub relisted : List Tm → State → State
relisted sets s = record { types = s.types; funs = s.funs; terms = map (listed sets) s.terms; commands = s.commands }

-- two walks go on to a state with Q and to that state as listed, or are both refused, at a term and at that term as listed
pub data Tracks (sets : List Tm) (Q : State → Type 0) : Step → Step → Type 0 where
  on : {s : State} → Q s → Tracks sets Q (went s) (went (relisted sets s))
  off : {n : ℕ} {t : Tm} {q : ℕ} → Tracks sets Q (stopped n t q) (stopped n (listed sets t) q)

module _ {sets : List Tm} {Q : State → Type 0} where
  pub tracks_then : (w v w' v' : Walk) (s : State) → Tracks sets (λ s₁. Tracks sets Q (v s₁) (v' (relisted sets s₁))) (w s) (w' (relisted sets s)) → Tracks sets Q (◌>>◌ w v s) (◌>>◌ w' v' (relisted sets s))
  unfolding ◌>>◌
  tracks_then w v w' v' s h = go h
    where
      go : {x y : Step} → Tracks sets (λ s₁. Tracks sets Q (v s₁) (v' (relisted sets s₁))) x y
          → Tracks sets Q (elim x as (λ z. Step) [ went s₁ ↦ v s₁ | stopped n t q ↦ stopped n t q ]) (elim y as (λ z. Step) [ went s₁ ↦ v' s₁ | stopped n t q ↦ stopped n t q ])
      go (on q) = q
      go off = off

  pub tracks_unless : (known known' : State → Bool) (w w' : Walk) (s : State) → known' (relisted sets s) ≡ known s → (T (known s) → Q s)
      → (known s ≡ false → Tracks sets Q (w s) (w' (relisted sets s))) → Tracks sets Q (unless known w s) (unless known' w' (relisted sets s))
  unfolding unless
  tracks_unless known known' w w' s e y n =
      subst (λ (b : Bool). Tracks sets Q (elim (known s) as (λ z. Step) [ true ↦ went s | false ↦ w s ]) (elim b as (λ z. Step) [ true ↦ went (relisted sets s) | false ↦ w' (relisted sets s) ])) (sym e) (go (known s) refl y)
    where
      go : (b : Bool) → known s ≡ b → (T b → Q s) → Tracks sets Q (elim b as (λ z. Step) [ true ↦ went s | false ↦ w s ]) (elim b as (λ z. Step) [ true ↦ went (relisted sets s) | false ↦ w' (relisted sets s) ])
      go true k h = on (h tt)
      go false k h = n k

  pub tracks_tested : (n : ℕ) (t t' : Tm) → t' ≡ listed sets t → (b : Bool) (s : State) → Q s → Tracks sets Q (refuse_unless n t b s) (refuse_unless n t' b (relisted sets s))
  unfolding refuse_unless
  tracks_tested n t t' e true s q = on q
  tracks_tested n t t' e false s q = subst (λ (u : Tm). Tracks sets Q (stopped n t 0) (stopped n u 0)) (sym e) off

  pub tracks_high : (n : ℕ) (t t' : Tm) → t' ≡ listed sets t → (cs : List ℕ) (s : State) → Q s → Tracks sets Q (refuse_high n t cs s) (refuse_high n t' cs (relisted sets s))
  unfolding refuse_high
  tracks_high n t t' e cs s h = go (first_high cs)
    where
      go : (o : Option ℕ) → Tracks sets Q (elim o as (λ x. Step) [ none ↦ went s | some q ↦ stopped n t q ]) (elim o as (λ x. Step) [ none ↦ went (relisted sets s) | some q ↦ stopped n t' q ])
      go none = on h
      go (some q) = subst (λ (u : Tm). Tracks sets Q (stopped n t q) (stopped n u q)) (sym e) off

  pub tracks_map : {P : State → Type 0} {x y : Step} → ((s : State) → P s → Q s) → Tracks sets P x y → Tracks sets Q x y
  tracks_map f (on {s = s} p) = on (f s p)
  tracks_map f off = off

  -- the second walk goes where the first does
  pub tracks_went : {x y : Step} {s : State} → Tracks sets Q x y → x ≡ went s → y ≡ went (relisted sets s)
  tracks_went {s = s} (on {s = s₁} q) e = let p : s₁ ≡ s = cc in ap (λ (z : State). went (relisted sets z)) p
  tracks_went off e = absurd (went_ne_stopped (sym e))

  pub tracks_stopped : {x y : Step} {n : ℕ} {t : Tm} {q : ℕ} → Tracks sets Q x y → x ≡ stopped n t q → y ≡ stopped n (listed sets t) q
  tracks_stopped (on q) e = absurd (went_ne_stopped e)
  tracks_stopped {n = n} {t = t} {q = q} (off {n = n'} {t = t'} {q = q'}) e =
      let a : n' ≡ n = cc in
      let b : t' ≡ t = cc in
      let c : q' ≡ q = cc in
      rw (a, b, c) refl

-- ---- names

module _ (sets : List Tm) where
  pub place_listed : (t : Tm) (xs : List Tm) → place (eq_tm (listed sets t)) (map (listed sets) xs) ≡ place (eq_tm t) xs
  unfolding place
  place_listed t [] = refl
  place_listed t (x ∷ xs) = λ i. place_from (listed_eq_tm sets t x i) (place_listed t xs i)

  pub any_listed : (t : Tm) (xs : List Tm) → any (eq_tm (listed sets t)) (map (listed sets) xs) ≡ any (eq_tm t) xs
  unfolding any
  any_listed t [] = refl
  any_listed t (x ∷ xs) = λ i. listed_eq_tm sets t x i || any_listed t xs i

  module _ (s : State) where
    -- a term as listed has the name of the term
    pub name_listed : (t : Tm) → (names (relisted sets s)).term (listed sets t) ≡ (names s).term t
    unfolding names relisted
    name_listed t = ap (numbered (bytes "t")) (place_listed t s.terms)

    types_listed : (ty : Ty) → (names (relisted sets s)).type ty ≡ (names s).type ty
    unfolding names relisted type_name
    types_listed ty = refl

    funs_listed : (f : Fun) → (names (relisted sets s)).func f ≡ (names s).func f
    unfolding names relisted
    funs_listed f = refl

    sort_listed : (ty : Ty) → sort (names (relisted sets s)) ty ≡ sort (names s) ty
    sort_listed = sort_alike (names (relisted sets s)) (names s) types_listed

    pub atom_listed : (e : Enums) (t : Tm) → atom e (names (relisted sets s)) (listed sets t) ≡ atom e (names s) t
    atom_listed e t = sym (eq_tm_atom (names s) (names (relisted sets s)) (λ ty. sym (types_listed ty)) (λ f. sym (funs_listed f)) e t (listed sets t) (listed_same sets t) (sym (name_listed t)))

    pub atoms_listed : (e : Enums) (ts : List Tm) → map (atom e (names (relisted sets s))) (map (listed sets) ts) ≡ map (atom e (names s)) ts
    atoms_listed e [] = refl
    atoms_listed e (t ∷ ts) = λ i. atom_listed e t i ∷ atoms_listed e ts i

    body_listed : (e : Enums) (t : Tm) (args : List Bytes) → body e (names (relisted sets s)) (listed sets t) args ≡ body e (names s) t args
    body_listed e t args = sym (eq_tm_body (names s) (names (relisted sets s)) (λ ty. sym (types_listed ty)) (λ f. sym (funs_listed f)) e t (listed sets t) args (listed_same sets t) (sym (name_listed t)))

  -- ---- types and functions

  declaration_listed : (e : Enums) (d : Datatype) (t : Ty) (s : State) → type_declaration e (names (relisted sets s)) d t ≡ type_declaration e (names s) d t
  unfolding type_declaration
  declaration_listed e d t s = λ i. declare_datatype (sort_listed s t i) [] (constructors e d (sort_listed s t i) (map (λ u. sort_listed s u i) (children t)))

  -- two walks keep step and leave the table of terms
  abbrev pub Aside : State → Step → Step → Type 0
  Aside s x y = Tracks sets (λ s₁. s₁.terms ≡ s.terms) x y

  declare_type_tracks : (e : Enums) (t : Ty) (s : State) → Aside s (declare_type e t s) (declare_type e t (relisted sets s))
  unfolding declare_type enter_type write relisted
  declare_type_tracks e t s = go (datatype t)
    where
      go : (o : Option Datatype) → Aside s
          (elim o as (λ x. Step) [ none ↦ went s | some d ↦ let s' = enter_type t s in went (write (type_comment e d ++ (type_declaration e (names s') d t ∷ [])) s') ])
          (elim o as (λ x. Step) [ none ↦ went (relisted sets s) | some d ↦ let s' = enter_type t (relisted sets s) in went (write (type_comment e d ++ (type_declaration e (names s') d t ∷ [])) s') ])
      go none = on refl
      go (some d) =
          subst (λ (c : Command). Aside s (went (write (type_comment e d ++ (type_declaration e (names (enter_type t s)) d t ∷ [])) (enter_type t s))) (went (write (type_comment e d ++ (c ∷ [])) (enter_type t (relisted sets s)))))
          (sym (declaration_listed e d t (enter_type t s))) (on refl)

  aside_then : (w v w' v' : Walk) (s : State) → Aside s (w s) (w' (relisted sets s)) → ((s₁ : State) → Aside s₁ (v s₁) (v' (relisted sets s₁))) → Aside s (◌>>◌ w v s) (◌>>◌ w' v' (relisted sets s))
  aside_then w v w' v' s h k = tracks_then w v w' v' s (tracks_map (λ s₁ p. tracks_map (λ s₂ q. q ∙ p) (k s₁)) h)

  mutual
    unfolding encode_type relisted

    pub encode_type_tracks : (e : Enums) (t : Ty) (s : State) → Aside s (encode_type e t s) (encode_type e t (relisted sets s))
    encode_type_tracks e (node m ts) s =
        tracks_unless _ _ _ _ s refl (λ k. refl) (λ k. aside_then (encode_types e ts) (declare_type e (node m ts)) (encode_types e ts) (declare_type e (node m ts)) s (encode_types_tracks e ts s) (λ s₁. declare_type_tracks e (node m ts) s₁))

    encode_types_tracks : (e : Enums) (ts : Forest TypeMark) (s : State) → Aside s (encode_types e ts s) (encode_types e ts (relisted sets s))
    encode_types_tracks e nil s = on refl
    encode_types_tracks e (cons t ts) s = aside_then (encode_type e t) (encode_types e ts) (encode_type e t) (encode_types e ts) s (encode_type_tracks e t s) (λ s₁. encode_types_tracks e ts s₁)

  fun_declaration_listed : (f : Fun) (s : State) → fun_declaration (names (relisted sets s)) f ≡ fun_declaration (names s) f
  unfolding fun_declaration
  fun_declaration_listed (uuf id arg out) s = λ i. declare_fun (funs_listed s (uuf id arg out) i) (sort_listed s arg i ∷ []) (sort_listed s out i)

  declare_function_tracks : (f : Fun) (s : State) → Aside s (declare_function f s) (declare_function f (relisted sets s))
  unfolding declare_function enter_fun write relisted
  declare_function_tracks f s =
      subst (λ (c : Command). Aside s (went (write (fun_declaration (names (enter_fun f s)) f ∷ []) (enter_fun f s))) (went (write (c ∷ []) (enter_fun f (relisted sets s)))))
      (sym (fun_declaration_listed f (enter_fun f s))) (on refl)

  writing_tracks : (cs : List Command) (s : State) → Aside s (writing cs s) (writing cs (relisted sets s))
  unfolding writing write relisted
  writing_tracks cs s = on refl

  pub encode_uuf_tracks : (e : Enums) (f : Fun) (s : State) → Aside s (encode_uuf e f s) (encode_uuf e f (relisted sets s))
  unfolding encode_uuf relisted
  encode_uuf_tracks e (uuf id arg out) s =
      tracks_unless _ _ _ _ s refl (λ k. refl)
      (λ k. aside_then _ _ _ _ s (writing_tracks (comment id ∷ []) s)
      (λ s₁. aside_then _ _ _ _ s₁ (encode_type_tracks e arg s₁) (λ s₂. aside_then _ _ _ _ s₂ (encode_type_tracks e out s₂) (λ s₃. declare_function_tracks (uuf id arg out) s₃))))

  -- ---- new terms

  -- a term is entered
  abbrev Entering : Tm → State → Step → Step → Type 0
  Entering t s x y = Tracks sets (λ s₁. s₁.terms ≡ s.terms ++ (t ∷ [])) x y

  entered_listed : (t : Tm) (s : State) → enter_term (listed sets t) (relisted sets s) ≡ relisted sets (enter_term t s)
  unfolding enter_term relisted
  entered_listed t s = λ i. record { types = s.types; funs = s.funs; terms = sym (map-append (listed sets) s.terms (t ∷ [])) i; commands = s.commands }

  -- t' is t as listed, and so are its children
  pub record Listed (t t' : Tm) : Type 0 where
    pub is : t' ≡ listed sets t
    pub below : children t' ≡ map (listed sets) (children t)

  enter_tracks : (t t' : Tm) (s : State) → Listed t t' → Entering t s (enter t s) (enter t' (relisted sets s))
  unfolding enter enter_term
  enter_tracks t t' s l = subst (λ (x : State). Entering t s (went (enter_term t s)) (went x)) (sym (ap (λ (u : Tm). enter_term u (relisted sets s)) l.is ∙ entered_listed t s)) (on refl)

  -- a term entered with a command by the names after it
  made_tracks : (t t' : Tm) (s : State) (make : Names → Tm → List Command) → Listed t t' → make (names (relisted sets (enter_term t s))) t' ≡ make (names (enter_term t s)) t
      → Entering t s (went (write (make (names (enter_term t s)) t) (enter_term t s))) (went (write (make (names (enter_term t' (relisted sets s))) t') (enter_term t' (relisted sets s))))
  unfolding enter_term write relisted
  made_tracks t t' s make l e =
      subst (λ (x : State). Entering t s (went (write (make (names (enter_term t s)) t) (enter_term t s))) (went (write (make (names x) t') x)))
      (sym (ap (λ (u : Tm). enter_term u (relisted sets s)) l.is ∙ entered_listed t s))
      (subst (λ (cs : List Command). Entering t s (went (write (make (names (enter_term t s)) t) (enter_term t s))) (went (write cs (relisted sets (enter_term t s))))) (sym e) (on refl))

  listed_sort : (t t' : Tm) (s : State) → Listed t t' → sort (names (relisted sets s)) (type_of t') ≡ sort (names s) (type_of t)
  listed_sort t t' s l = sort_listed s (type_of t') ∙ ap (sort (names s)) (ap type_of l.is ∙ sym (eq_tm_type_of t (listed sets t) (listed_same sets t)))

  listed_name : (t t' : Tm) (s : State) → Listed t t' → (names (relisted sets s)).term t' ≡ (names s).term t
  listed_name t t' s l = ap (names (relisted sets s)).term l.is ∙ name_listed s t

  declare_var_tracks : (id : Bytes) (t t' : Tm) (s : State) → Listed t t' → Entering t s (declare_var id t s) (declare_var id t' (relisted sets s))
  unfolding declare_var
  declare_var_tracks id t t' s l =
      made_tracks t t' s (λ ν u. comment (debug id) ∷ declare_const (ν.term u) (sort ν (type_of u)) ∷ []) l
      (λ i. comment (debug id) ∷ declare_const (listed_name t t' (enter_term t s) l i) (listed_sort t t' (enter_term t s) l i) ∷ [])

  listed_body : (e : Enums) (t t' : Tm) (s : State) → Listed t t'
      → body e (names (relisted sets s)) t' (map (atom e (names (relisted sets s))) (children t')) ≡ body e (names s) t (map (atom e (names s)) (children t))
  listed_body e t t' s l =
      ap₂ (λ (u : Tm) (us : List Tm). body e (names (relisted sets s)) u (map (atom e (names (relisted sets s))) us)) l.is l.below
      ∙ ap (body e (names (relisted sets s)) (listed sets t)) (atoms_listed s e (children t)) ∙ body_listed s e t (map (atom e (names s)) (children t))

  define_term_tracks : (e : Enums) (t t' : Tm) (s : State) → Listed t t' → Entering t s (define_term e t s) (define_term e t' (relisted sets s))
  unfolding define_term
  define_term_tracks e t t' s l =
      made_tracks t t' s (λ ν u. define_fun (ν.term u) [] (sort ν (type_of u)) (body e ν u (map (atom e ν) (children u))) ∷ []) l
      (λ i. define_fun (listed_name t t' (enter_term t s) l i) [] (listed_sort t t' (enter_term t s) l i) (listed_body e t t' (enter_term t s) l i) ∷ [])

  -- a step that leaves the terms, before one that enters t
  aside_entering : (t : Tm) (w v w' v' : Walk) (s : State) → Aside s (w s) (w' (relisted sets s)) → ((s₁ : State) → Entering t s₁ (v s₁) (v' (relisted sets s₁))) → Entering t s (◌>>◌ w v s) (◌>>◌ w' v' (relisted sets s))
  aside_entering t w v w' v' s h k = tracks_then w v w' v' s (tracks_map (λ s₁ p. tracks_map (λ s₂ q. q ∙ ap (λ (us : List Tm). us ++ (t ∷ [])) p) (k s₁)) h)

  define_entity_tracks : (e : Enums) (t t' : Tm) (id : Bytes) (o : Option (List Bytes)) (s : State) → Listed t t' → Entering t s (define_entity e t id o s) (define_entity e t' id o (relisted sets s))
  unfolding define_entity
  define_entity_tracks e t t' id none s l = aside_entering t _ _ _ _ s (tracks_high 15 t t' l.is _ s refl) (λ s₁. define_term_tracks e t t' s₁ l)
  define_entity_tracks e t t' id (some ms) s l = aside_entering t _ _ _ _ s (tracks_tested 14 t t' l.is _ s refl) (λ s₁. enter_tracks t t' s₁ l)

  record_get_tracks : (t t' : Tm) (a : Bytes) (tys : List Ty) (s : State) → Listed t t' → Aside s (record_get t a tys s) (record_get t' a tys (relisted sets s))
  unfolding record_get relisted
  record_get_tracks t t' a [] s l = tracks_tested 19 t t' l.is false s refl
  record_get_tracks t t' a (ty ∷ tys) s l =
      aside_then _ _ _ _ s (tracks_tested 18 t t' l.is (any (eq_ty ty) s.types) s refl)
      (λ s₁. aside_then _ _ _ _ s₁ (tracks_tested 17 t t' l.is _ s₁ refl) (λ s₂. tracks_tested 16 t t' l.is _ s₂ refl))

  types_below : (xs : List Tm) → map type_of (map (listed sets) xs) ≡ map type_of xs
  types_below [] = refl
  types_below (x ∷ xs) = λ i. sym (eq_tm_type_of x (listed sets x) (listed_same sets x)) i ∷ types_below xs i

  operator_step_tracks : (e : Enums) (t t' : Tm) (op : Op Fun) (s : State) → Listed t t' → Aside s (operator_step e t op s) (operator_step e t' op (relisted sets s))
  unfolding operator_step
  operator_step_tracks e t t' (Plain o) s l = on refl
  operator_step_tracks e t t' (Ext o) s l = on refl
  operator_step_tracks e t t' (RecordGet a) s l =
      subst (λ (tys : List Ty). Aside s (record_get t a (map type_of (children t)) s) (record_get t' a tys (relisted sets s))) (sym (ap (map type_of) l.below ∙ types_below (children t)))
      (record_get_tracks t t' a (map type_of (children t)) s l)
  operator_step_tracks e t t' (StringLike p) s l = tracks_high 25 t t' l.is p s refl
  operator_step_tracks e t t' (Uuf f) s l = encode_uuf_tracks e f s
  operator_step_tracks e t t' (ZeroExtend n) s l = on refl

  define_app_tracks : (e : Enums) (t t' : Tm) (op : Op Fun) (n : Negation) (s : State) → Listed t t' → Entering t s (define_app e t op n s) (define_app e t' op n (relisted sets s))
  unfolding define_app
  define_app_tracks e t t' op ordinary s l = aside_entering t _ _ _ _ s (operator_step_tracks e t t' op s l) (λ s₁. define_term_tracks e t t' s₁ l)
  define_app_tracks e t t' op falsehood s l = enter_tracks t t' s l
  define_app_tracks e t t' op (comparison k) s l = define_term_tracks e t t' s l

  -- a new term is entered, or it is no set and the table of terms is left
  abbrev pub Newly : Mark → Forest Mark → State → State → Type 0
  Newly m ts s s₁ = (s₁.terms ≡ s.terms ++ (node m ts ∷ [])) ⊎ ((s₁.terms ≡ s.terms) × (is_set m ≡ false))

  pub encode_new_tracks : (e : Enums) (m : Mark) (ts us : Forest Mark) (s : State) → Listed (node m ts) (node m us) → Tracks sets (Newly m ts s) (encode_new e (node m ts) s) (encode_new e (node m us) (relisted sets s))
  unfolding encode_new is_set
  encode_new_tracks e (Var id ty) ts us s l = tracks_map (λ s₁ p. inl p) (declare_var_tracks id (node (Var id ty) ts) (node (Var id ty) us) s l)
  encode_new_tracks e (BoolLit b) ts us s l = on (inr (refl, refl))
  encode_new_tracks e (BitVecLit n v) ts us s l = on (inr (refl, refl))
  encode_new_tracks e (StringLit x) ts us s l = tracks_high 24 (node (StringLit x) ts) (node (StringLit x) us) l.is (code_points x) s (inr (refl, refl))
  encode_new_tracks e (Entity ty id) ts us s l = tracks_map (λ s₁ p. inl p) (define_entity_tracks e (node (Entity ty id) ts) (node (Entity ty id) us) id (enum_of e ty) s l)
  encode_new_tracks e (ExtLit v) ts us s l = tracks_map (λ s₁ p. inl p) (define_term_tracks e (node (ExtLit v) ts) (node (ExtLit v) us) s l)
  encode_new_tracks e (None ty) ts us s l = tracks_map (λ s₁ p. inl p) (define_term_tracks e (node (None ty) ts) (node (None ty) us) s l)
  encode_new_tracks e Some ts us s l = tracks_map (λ s₁ p. inl p) (define_term_tracks e (node Some ts) (node Some us) s l)
  encode_new_tracks e (Set ty) ts us s l = tracks_map (λ s₁ p. inl p) (define_term_tracks e (node (Set ty) ts) (node (Set ty) us) s l)
  encode_new_tracks e (Record ns) ts us s l = tracks_map (λ s₁ p. inl p) (define_term_tracks e (node (Record ns) ts) (node (Record ns) us) s l)
  encode_new_tracks e (App ty op) ts us s l =
      let t = node (App ty op) ts in
      let t' = node (App ty op) us in
      let q : negation t' ≡ negation t = ap negation l.is ∙ sym (eq_tm_negation t (listed sets t) (listed_same sets t)) in
      subst (λ (n : Negation). Tracks sets (Newly (App ty op) ts s) (define_app e t op (negation t) s) (define_app e t' op n (relisted sets s))) (sym q)
      (tracks_map (λ s₁ p. inl p) (define_app_tracks e t t' op (negation t) s l))
