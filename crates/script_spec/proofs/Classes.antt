-- What the walk and the spelling see of a term is the same of equal terms: its type, what becomes of a `Bvnego`, whether it is spelled
-- where it is used, its body, its first equal record, and the sets in it up to equality. By cases on the mark, and by recursion on a term.
-- Assumes nothing.
use Prim.Native.Nat.{ℕ}
use mathlib.Core.Path.{◌≡◌, refl, sym, ap, ◌∙◌, subst}
use mathlib.Core.Logic.{◌⊎◌, inl, inr}
use mathlib.Core.Bool.{Bool, true, false, not}
use mathlib.Core.List.Memᴰ
use mathlib.Core.List.{List, [], ◌∷◌, ◌++◌, Memᴰ}
use mathlib.Core.Option.{Option, get_or}
use lib.Dec.{T}
use Rattle.script_spec.specs.Base.{Bytes, is_yes, place, place_from}
use Rattle.script_spec.specs.Tree.{Ty, Fun, Tm, TypeMark, Mark, Forest, node, nil, cons, trees, type_of, types_of, type_from, negation, is_falsehood, mark_dec, is_set, eq_tm, Enums, Negation, ordinary, falsehood, comparison, negation_with, attribute, Bool·, Bvnego}
use Rattle.script_spec.specs.Tree.{Var, BoolLit, BitVecLit, StringLit, Entity, ExtLit, None, Some, Set, Record, App, Op, Plain, Ext, RecordGet, StringLike, Uuf, ZeroExtend}
use Rattle.script_spec.specs.File.{TermFile, Named, type, enum, func, term, input}
use Rattle.script_spec.specs.Spelling.{Names, sort, sorts, sort_from, selector, selector_by, application, negated, body_over, body, inlined, atom}
use Rattle.script_spec.specs.Command.{headed}
use Rattle.script_spec.specs.Walk.{is_term, first_equal}
use Rattle.script_spec.specs.Listing.{only, sets_in, sets_in_each}
use Rattle.script_spec.specs.Faithful.{Every, every, also}
use Rattle.script_spec.proofs.Lists.{every_mem}
use Rattle.script_spec.proofs.Equal.{Found, Each, Equal, eq_tm_parts, eq_tm_left}

-- ---- types

-- the type of a set is told by its mark, that of another term by the types of its children
type_from_equal : (m : Mark) (ps qs : Forest TypeMark) → (is_set m ≡ false → ps ≡ qs) → type_from m ps ≡ type_from m qs
unfolding type_from is_set
type_from_equal (Var id ty) ps qs h = refl
type_from_equal (BoolLit b) ps qs h = refl
type_from_equal (BitVecLit n v) ps qs h = refl
type_from_equal (StringLit s) ps qs h = refl
type_from_equal (Entity ty id) ps qs h = refl
type_from_equal (ExtLit v) ps qs h = refl
type_from_equal (None ty) ps qs h = refl
type_from_equal Some ps qs h = ap (λ (x : Forest TypeMark). type_from Some x) (h refl)
type_from_equal (Set ty) ps qs h = refl
type_from_equal (Record names) ps qs h = ap (λ (x : Forest TypeMark). type_from (Record names) x) (h refl)
type_from_equal (App ty op) ps qs h = refl

each_equal : (m : Mark) (xs ys : List Tm) → Equal (is_set m) xs ys → is_set m ≡ false → Each xs ys
unfolding Equal
each_equal m xs ys h p = subst (λ (b : Bool). Equal b xs ys) p h

mutual
  unfolding type_of trees Each

  pub eq_tm_type_of : (t u : Tm) → T (eq_tm t u) → type_of t ≡ type_of u
  eq_tm_type_of (node m ts) (node n us) h =
      let p = eq_tm_parts m n ts us h in
      type_from_equal m (types_of ts) (types_of us) (λ s. each_types_of ts us (each_equal m (trees ts) (trees us) p.1 s)) ∙ ap (λ (k : Mark). type_from k (types_of us)) p.0

  each_types_of : (ts us : Forest Mark) → Each (trees ts) (trees us) → types_of ts ≡ types_of us
  each_types_of nil nil h = refl
  each_types_of nil (cons u us) h = absurd h
  each_types_of (cons t ts) nil h = absurd h
  each_types_of (cons t ts) (cons u us) h = λ i. cons (eq_tm_type_of t u h.0 i) (each_types_of ts us h.1 i)

-- ---- `Bvnego`

negation_equal : (m : Mark) (ts us : Forest Mark) → (is_set m ≡ false → types_of ts ≡ types_of us) → negation (node m ts) ≡ negation (node m us)
unfolding negation is_set mark_dec
negation_equal (Var id ty) ts us h = refl
negation_equal (BoolLit b) ts us h = refl
negation_equal (BitVecLit n v) ts us h = refl
negation_equal (StringLit s) ts us h = refl
negation_equal (Entity ty id) ts us h = refl
negation_equal (ExtLit v) ts us h = refl
negation_equal (None ty) ts us h = refl
negation_equal Some ts us h = refl
negation_equal (Set ty) ts us h = refl
negation_equal (Record names) ts us h = refl
negation_equal (App ty op) ts us h =
    ap (λ (x : Forest TypeMark). elim (is_yes (mark_dec (App ty op) (App (node Bool· nil) (Plain Bvnego)))) as (λ b. Negation) [ true ↦ negation_with x | false ↦ ordinary ]) (h refl)

pub eq_tm_negation : (t u : Tm) → T (eq_tm t u) → negation t ≡ negation u
eq_tm_negation (node m ts) (node n us) h =
    let p = eq_tm_parts m n ts us h in
    negation_equal m ts us (λ s. each_types_of ts us (each_equal m (trees ts) (trees us) p.1 s)) ∙ ap (λ (k : Mark). negation (node k us)) p.0

pub eq_tm_falsehood : (t u : Tm) → T (eq_tm t u) → is_falsehood t ≡ is_falsehood u
unfolding is_falsehood
eq_tm_falsehood t u h = ap (λ (n : Negation). elim n as (λ x. Bool) [ ordinary ↦ false | falsehood ↦ true | comparison k ↦ false ]) (eq_tm_negation t u h)

-- ---- spelling

module _ (ν μ : Names) (types : (ty : Ty) → ν.type ty ≡ μ.type ty) where
  mutual
    unfolding sort

    pub sort_alike : (ty : Ty) → sort ν ty ≡ sort μ ty
    sort_alike (node m ts) = λ i. sort_from m (sorts_alike ts i) (types (node m ts) i)

    sorts_alike : (ts : Forest TypeMark) → sorts ν ts ≡ sorts μ ts
    sorts_alike nil = refl
    sorts_alike (cons t ts) = λ i. sort_alike t i ∷ sorts_alike ts i

  module _ (funs : (f : Fun) → ν.func f ≡ μ.func f) where
    application_alike : (op : Op Fun) (tys : Forest TypeMark) (args : List Bytes) → application ν op tys args ≡ application μ op tys args
    unfolding application selector
    application_alike (Plain o) tys args = refl
    application_alike (Ext o) tys args = refl
    application_alike (RecordGet a) nil args = refl
    application_alike (RecordGet a) (cons ty tys) args = ap (λ (n : Bytes). headed (selector_by n (attribute a ty)) args) (sort_alike ty)
    application_alike (StringLike p) tys args = refl
    application_alike (Uuf f) tys args = ap (λ (n : Bytes). headed n args) (funs f)
    application_alike (ZeroExtend n) tys args = refl

    body_over_alike : (e : Enums) (ty : Bytes) (m : Mark) (ts us : Forest Mark) (args : List Bytes) → ν.term (node m ts) ≡ μ.term (node m us)
        → (is_set m ≡ false → types_of ts ≡ types_of us) → body_over e ν ty (node m ts) args ≡ body_over e μ ty (node m us) args
    unfolding body_over is_set
    body_over_alike e ty (Var id r) ts us args n h = n
    body_over_alike e ty (BoolLit b) ts us args n h = refl
    body_over_alike e ty (BitVecLit k v) ts us args n h = refl
    body_over_alike e ty (StringLit s) ts us args n h = refl
    body_over_alike e ty (Entity r id) ts us args n h = refl
    body_over_alike e ty (ExtLit v) ts us args n h = refl
    body_over_alike e ty (None r) ts us args n h = refl
    body_over_alike e ty Some ts us args n h = refl
    body_over_alike e ty (Set r) ts us args n h = refl
    body_over_alike e ty (Record names) ts us args n h = refl
    body_over_alike e ty (App r op) ts us args n h =
        λ i. negated (negation_equal (App r op) ts us h i) ((ap (λ (tys : Forest TypeMark). application ν op tys args) (h refl) ∙ application_alike op (types_of us) args) i) args

    pub eq_tm_body : (e : Enums) (t u : Tm) (args : List Bytes) → T (eq_tm t u) → ν.term t ≡ μ.term u → body e ν t args ≡ body e μ u args
    unfolding body
    eq_tm_body e (node m ts) (node n us) args h same =
        let p = eq_tm_parts m n ts us h in
        let q : node n us ≡ node m us = ap (λ (k : Mark). node k us) (sym p.0) in
        ap (λ (x : Bytes). body_over e ν x (node m ts) args) (sort_alike (type_of (node m ts)) ∙ ap (sort μ) (eq_tm_type_of (node m ts) (node n us) h))
        ∙ body_over_alike e (sort μ (type_of (node n us))) m ts us args (same ∙ ap μ.term q) (λ s. each_types_of ts us (each_equal m (trees ts) (trees us) p.1 s))
        ∙ ap (λ (x : Tm). body_over e μ (sort μ (type_of (node n us))) x args) (sym q)

inlined_equal : (e : Enums) (m : Mark) (ts us : Forest Mark) → is_falsehood (node m ts) ≡ is_falsehood (node m us) → inlined e (node m ts) ≡ inlined e (node m us)
unfolding inlined
inlined_equal e (Var id r) ts us h = refl
inlined_equal e (BoolLit b) ts us h = refl
inlined_equal e (BitVecLit n v) ts us h = refl
inlined_equal e (StringLit s) ts us h = refl
inlined_equal e (Entity r id) ts us h = refl
inlined_equal e (ExtLit v) ts us h = refl
inlined_equal e (None r) ts us h = refl
inlined_equal e Some ts us h = refl
inlined_equal e (Set r) ts us h = refl
inlined_equal e (Record names) ts us h = refl
inlined_equal e (App r op) ts us h = h

pub eq_tm_inlined : (e : Enums) (t u : Tm) → T (eq_tm t u) → inlined e t ≡ inlined e u
eq_tm_inlined e (node m ts) (node n us) h =
    let p = eq_tm_parts m n ts us h in
    let q : node n us ≡ node m us = ap (λ (k : Mark). node k us) (sym p.0) in
    inlined_equal e m ts us (eq_tm_falsehood (node m ts) (node n us) h ∙ ap is_falsehood q) ∙ ap (inlined e) (sym q)

pub eq_tm_atom : (ν μ : Names) → ((ty : Ty) → ν.type ty ≡ μ.type ty) → ((f : Fun) → ν.func f ≡ μ.func f)
    → (e : Enums) (t u : Tm) → T (eq_tm t u) → ν.term t ≡ μ.term u → atom e ν t ≡ atom e μ u
unfolding atom
eq_tm_atom ν μ types funs e t u h same =
    let b = eq_tm_body ν μ types funs e t u [] h same in
    λ i. elim (eq_tm_inlined e t u h i) as (λ x. Bytes) [ true ↦ b i | false ↦ same i ]

-- ---- records

-- equal terms have the same first equal record
pub eq_tm_first_equal : (f : TermFile) (t u : Tm) → T (eq_tm t u) → first_equal f t ≡ first_equal f u
unfolding first_equal is_term place
eq_tm_first_equal f t u h = ap (λ (o : Option ℕ). get_or o 0) (go f)
  where
    alike : (r : Named) → is_term t r ≡ is_term u r
    alike (type ty) = refl
    alike (enum n ms) = refl
    alike (func g) = refl
    alike (term v) = eq_tm_left t u v h
    alike (input v) = refl

    go : (g : TermFile) → place (is_term t) g ≡ place (is_term u) g
    go [] = refl
    go (r ∷ g) = λ i. place_from (alike r i) (go g i)

-- ---- sets

-- what is equal to a set in one of two lists is equal to one in the other
abbrev pub Into : List Tm → List Tm → Type 0
Into xs ys = (x : Tm) → Memᴰ x xs → Found (eq_tm x) ys

pub sets_in_passed : (m : Mark) (ts : Forest Mark) → sets_in false (node m ts) ≡ only (not (is_falsehood (node m ts))) (sets_in_each false ts) ++ only (is_set m) (node m ts ∷ [])
unfolding sets_in
sets_in_passed m ts = refl

sets_in_each_mem : (x : Tm) (ts : Forest Mark) → Memᴰ x (sets_in_each false ts) → (t : Tm) × Memᴰ t (trees ts) × Memᴰ x (sets_in false t)
unfolding sets_in trees
sets_in_each_mem x nil m = absurd (Memᴰ.not-nil m)
sets_in_each_mem x (cons t ts) m = go (Memᴰ.append_cases (sets_in false t) m) (λ k. sets_in_each_mem x ts k)
  where
    go : Memᴰ x (sets_in false t) ⊎ Memᴰ x (sets_in_each false ts) → (Memᴰ x (sets_in_each false ts) → (u : Tm) × Memᴰ u (trees ts) × Memᴰ x (sets_in false u)) → (u : Tm) × Memᴰ u (t ∷ trees ts) × Memᴰ x (sets_in false u)
    go (inl k) ih = (t, Memᴰ.head refl, k)
    go (inr k) ih = let r = ih k in (r.0, Memᴰ.tail r.1, r.2)

mem_sets_in_each : (x t : Tm) (ts : Forest Mark) → Memᴰ t (trees ts) → Memᴰ x (sets_in false t) → Memᴰ x (sets_in_each false ts)
unfolding sets_in trees
mem_sets_in_each x t nil x3 k = elim x3 [ ]
mem_sets_in_each x t (cons u ts) (Memᴰ.head e) k = Memᴰ.append_left (sets_in_each false ts) (subst (λ (v : Tm). Memᴰ x (sets_in false v)) e k)
mem_sets_in_each x t (cons u ts) (Memᴰ.tail m) k = Memᴰ.append_right (sets_in false u) (mem_sets_in_each x t ts m k)

-- a child has an equal one among the children of an equal term
equal_there : (b : Bool) (xs ys : List Tm) → Equal b xs ys → (x : Tm) → Memᴰ x xs → Found (eq_tm x) ys
unfolding Equal Each
equal_there false [] ys h x m = elim m [ ]
equal_there true xs ys h x m = h.there x m
equal_there false (z ∷ xs) [] h x m = absurd h
equal_there false (z ∷ xs) (y ∷ ys) h x (Memᴰ.head e) = record { one = y; among = Memᴰ.head refl; passes = subst (λ (v : Tm). T (eq_tm v y)) (sym e) h.0 }
equal_there false (z ∷ xs) (y ∷ ys) h x (Memᴰ.tail m) = let f = equal_there false xs ys h.1 x m in record { one = f.one; among = Memᴰ.tail f.among; passes = f.passes }

abbrev SetsInto : Tm → Type 0
SetsInto t = (u : Tm) → T (eq_tm t u) → Into (sets_in false t) (sets_in false u)

into_each : (b : Bool) (ts us : Forest Mark) → Equal b (trees ts) (trees us) → Every SetsInto (trees ts) → Into (sets_in_each false ts) (sets_in_each false us)
into_each b ts us h ih x m =
    let r = sets_in_each_mem x ts m in
    let f = equal_there b (trees ts) (trees us) h r.0 r.1 in
    let g = every_mem ih r.1 f.one f.passes x r.2 in
    record { one = g.one; among = mem_sets_in_each g.one f.one us f.among g.among; passes = g.passes }

only_into : (b : Bool) (xs ys : List Tm) → Into xs ys → Into (only b xs) (only b ys)
unfolding only
only_into true xs ys h = h
only_into false xs ys h = λ x m. absurd (Memᴰ.not-nil m)

append_into : (xs ys xs' ys' : List Tm) → Into xs xs' → Into ys ys' → Into (xs ++ ys) (xs' ++ ys')
append_into xs ys xs' ys' h k x m = go (Memᴰ.append_cases xs m)
  where
    go : Memᴰ x xs ⊎ Memᴰ x ys → Found (eq_tm x) (xs' ++ ys')
    go (inl n) = let f = h x n in record { one = f.one; among = Memᴰ.append_left ys' f.among; passes = f.passes }
    go (inr n) = let f = k x n in record { one = f.one; among = Memᴰ.append_right xs' f.among; passes = f.passes }

own_into : (t u : Tm) → T (eq_tm t u) → Into (t ∷ []) (u ∷ [])
own_into t u h x m = record { one = u; among = Memᴰ.head refl; passes = subst (λ (v : Tm). T (eq_tm v u)) (sym (Memᴰ.eq_of_singleton m)) h }

mutual
  unfolding trees

  pub sets_in_into : (t u : Tm) → T (eq_tm t u) → Into (sets_in false t) (sets_in false u)
  sets_in_into (node m ts) (node n us) h =
      let p = eq_tm_parts m n ts us h in
      let q : node m us ≡ node n us = ap (λ (k : Mark). node k us) p.0 in
      let h' : T (eq_tm (node m ts) (node m us)) = subst (λ (v : Tm). T (eq_tm (node m ts) v)) (sym q) h in
      subst (λ (v : Tm). Into (sets_in false (node m ts)) (sets_in false v)) q
      (rw (sets_in_passed m ts, sets_in_passed m us, eq_tm_falsehood (node m ts) (node m us) h')
      (append_into (only (not (is_falsehood (node m us))) (sets_in_each false ts)) (only (is_set m) (node m ts ∷ [])) (only (not (is_falsehood (node m us))) (sets_in_each false us)) (only (is_set m) (node m us ∷ []))
      (only_into (not (is_falsehood (node m us))) (sets_in_each false ts) (sets_in_each false us) (into_each (is_set m) ts us p.1 (sets_in_intos ts)))
      (only_into (is_set m) (node m ts ∷ []) (node m us ∷ []) (own_into (node m ts) (node m us) h'))))

  sets_in_intos : (ts : Forest Mark) → Every SetsInto (trees ts)
  sets_in_intos nil = every
  sets_in_intos (cons t ts) = also (λ u h. sets_in_into t u h) (sets_in_intos ts)
