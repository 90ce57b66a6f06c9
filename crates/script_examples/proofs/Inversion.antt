-- What the bytes of a faithful script give away, whatever naming and roles it is faithful by: the names of its things, that there
-- are enough of them, and the bodies of its assertions; and where all terms are Bool or sets of Bool also its definitions and the order
-- of uses. By recursion on the roles, since each role's command is read as what the role says (`Roles`).
-- Assumes nothing.
use Prim.Native.Nat.{ℕ, zero, suc, ◌≤◌}
use mathlib.Core.Path.{◌≡◌, refl, sym, ap, ◌∙◌, subst}
use mathlib.Core.Logic.{inl, inr, ⊎_elim}
use mathlib.Core.Bool.{Bool, true, not, ◌&&◌, ◌||◌}
use mathlib.Core.List.{List, [], ◌∷◌, ◌++◌, map, map-append, tail, Memᴰ}
use mathlib.Core.Option
use mathlib.Core.Option.{some}
use lib.Dec.{T, T_not}
use lib.ListN.{length, length-map, get_elem?}
use Rattle.script_spec.specs.Base.{Bytes, all, any, collect}
use Rattle.script_spec.specs.Tree.{Ty, Tm, Mark, Forest, node, nil, cons, trees, children, type_of, eq_ty, eq_tm, Set·, Enums}
use Rattle.script_spec.specs.File.{distinct}
use Rattle.script_spec.specs.Spelling.{Names, sort}
use Rattle.script_spec.specs.Smtlib.{Token, flat, word_end}
use Rattle.script_spec.specs.Faithful.{Thing, term, func, type, Needed, NeededTerm, is_input, is_child, name_of, well_named, lettered, full, Role, declares, defines, asserts, command, introduced, asserted, Definition, definitions, unfolded, Right, in_order, unique, Every, every, also, things, Says}
use Rattle.script_spec.proofs.Asked.{bool}
use Rattle.script_spec.proofs.Computes
use Rattle.script_spec.proofs.Laws.{and_parts, or_left, or_right, or_cases, all_parts, eq_ty_eq}
use Rattle.script_spec.proofs.Equal.{eq_tm_refl}
use Rattle.script_spec.proofs.Defined.{definitions_append}
use Rattle.script_spec.proofs.Unfolding.{flat_word_end}
use Rattle.script_spec.proofs.OneResult.{says_named}
use Rattle.script_spec.proofs.Lists.{all_mem, all_members}
use Rattle.script_spec.proofs.Pigeonhole.{Apart, apart, new, length_apart}
use Rattle.script_examples.proofs.Readings.{name_read, assertion_read, definitions_read, order_read}
use Rattle.script_examples.proofs.Roles.{asserted_body, SimpleSort, DefinesSimple, role_name, role_own, role_assertion, role_definition, role_uses}

-- ---- names and assertions

module _ (e : Enums) (ν : Names) where
  names_read : (rs : List Role) → T (all (well_named ν) (things rs)) → collect name_read (map (command e ν) rs) ≡ map (name_of ν) (things rs)
  unfolding things collect
  names_read [] h = refl
  names_read (r ∷ rs) h =
      let q = all_parts (well_named ν) (introduced r) (things rs) h in
      rw (role_name e ν r q.0, names_read rs q.1) (sym (map-append (name_of ν) (introduced r) (things rs)))

  assertions_read : (ds : List Definition) (rs : List Role) → Every (Right e ν ds) rs
      → map (λ b. flat (unfolded ds b)) (collect assertion_read (map (command e ν) rs)) ≡ map (full e ν) (collect asserted rs)
  unfolding Right collect asserted asserted_body
  assertions_read ds [] every = refl
  assertions_read ds (declares th ∷ rs) (also p ps) = rw (role_assertion e ν (declares th)) (assertions_read ds rs ps)
  assertions_read ds (defines t b ∷ rs) (also p ps) = rw (role_assertion e ν (defines t b)) (assertions_read ds rs ps)
  assertions_read ds (asserts t b ∷ rs) (also p ps) = rw (role_assertion e ν (asserts t b)) (λ i. p i ∷ assertions_read ds rs ps i)

-- ---- definitions and uses, where all terms are Bool or sets of Bool

-- the type of sets of Bool
abbrev pub bool_set : Ty
bool_set = node Set· (cons bool nil)

-- the type Bool, or that of its sets
unfoldable pub simple_type : Ty → Bool
simple_type ty = eq_ty ty bool || eq_ty ty bool_set

-- this term and all below it have these types
unfoldable mutual
  pub simple : Tm → Bool
  simple (node m ts) = simple_type (type_of (node m ts)) && simples ts

  pub simples : Forest Mark → Bool
  simples nil = true
  simples (cons t ts) = simple t && simples ts

simples_all : (ts : Forest Mark) → simples ts ≡ all simple (trees ts)
unfolding simple trees all
simples_all nil = refl
simples_all (cons t ts) = ap (λ (b : Bool). simple t && b) (simples_all ts)

simple_child : (u : Tm) → T (simple u) → {t : Tm} → Memᴰ t (children u) → T (simple t)
unfolding simple children
simple_child (node m ts) h k = all_mem simple (trees ts) (subst T (simples_all ts) (and_parts (simple_type (type_of (node m ts))) (simples ts) h).1) k

needed_simple : {ins : List Tm} {t : Tm} → T (all simple ins) → NeededTerm ins t → T (simple t)
needed_simple {ins} h (is_input m) = all_mem simple ins h m
needed_simple h (is_child {u = u} n k m) = simple_child u (needed_simple h n) m

simple_sort : (ν : Names) (t : Tm) → T (simple t) → SimpleSort (sort ν (type_of t))
unfolding simple simple_type SimpleSort Computes.base Computes.command Computes.spelling
simple_sort ν (node m ts) h =
    let ty = type_of (node m ts) in
    let q = or_cases (eq_ty ty bool) (eq_ty ty bool_set) (and_parts (simple_type ty) (simples ts) h).0 in
    ⊎_elim (λ p. inl (ap (sort ν) (eq_ty_eq ty bool p))) (λ p. inr (ap (sort ν) (eq_ty_eq ty bool_set p))) q

-- a thing that is a term has one of these types, and so have all terms below it
simple_thing : Thing → Bool
simple_thing (term t) = simple t
simple_thing (func f) = true
simple_thing (type ty) = true

role_simple : (ν : Names) (r : Role) → T (all simple_thing (introduced r)) → DefinesSimple ν r
unfolding introduced all simple_thing DefinesSimple
role_simple ν (declares th) h = tt
role_simple ν (defines t b) h = simple_sort ν t (and_parts (simple t) true h).0
role_simple ν (asserts t b) h = tt

module _ (e : Enums) (ν : Names) where
  definitions_read_lem : (rs : List Role) → T (all (well_named ν) (things rs)) → T (all simple_thing (things rs)) → definitions_read (map (command e ν) rs) ≡ definitions ν rs
  unfolding things collect definitions_read definitions
  definitions_read_lem [] h k = refl
  definitions_read_lem (r ∷ rs) h k =
      let p = all_parts (well_named ν) (introduced r) (things rs) h in
      let q = all_parts simple_thing (introduced r) (things rs) k in
      rw (role_definition e ν r p.0 (role_simple ν r q.0), definitions_read_lem rs p.1 q.1) (sym (definitions_append ν (r ∷ []) rs))

  order_read_lem : (seen : List Bytes) (rs : List Role) → T (all (well_named ν) (things rs)) → T (all simple_thing (things rs)) → in_order e ν seen rs ≡ order_read seen (map (command e ν) rs)
  unfolding things collect in_order order_read
  order_read_lem seen [] h k = refl
  order_read_lem seen (r ∷ rs) h k =
      let p = all_parts (well_named ν) (introduced r) (things rs) h in
      let q = all_parts simple_thing (introduced r) (things rs) k in
      rw (role_own e ν r p.0, role_name e ν r p.0, role_uses e ν r p.0 (role_simple ν r q.0), order_read_lem (map (name_of ν) (introduced r) ++ seen) rs p.1 q.1) refl

-- ---- unlike terms

term_any : (t : Tm) (ts : List Tm) → Memᴰ (term t) (map term ts) → T (any (eq_tm t) ts)
unfolding any
term_any t [] x' = elim x' [ ]
term_any t (u ∷ ts) (Memᴰ.head p) = or_left (eq_tm t u) (any (eq_tm t) ts) (let q : t ≡ u = cc in subst (λ (x : Tm). T (eq_tm t x)) q (eq_tm_refl t))
term_any t (u ∷ ts) (Memᴰ.tail m) = or_right (eq_tm t u) (any (eq_tm t) ts) (term_any t ts m)

distinct_apart : (ts : List Tm) → T (distinct ts) → Apart (map term ts)
unfolding distinct
distinct_apart [] d = apart
distinct_apart (t ∷ ts) d =
    let q = and_parts (not (any (eq_tm t) ts)) (distinct ts) d in
    new (λ m. T_not (any (eq_tm t) ts) q.0 (term_any t ts m)) (distinct_apart ts q.1)

every_term : (P : Thing → Type 0) (ts : List Tm) → Every (λ t. P (term t)) ts → (th : Thing) → Memᴰ th (map term ts) → P th
every_term P [] _ th x3 = elim x3 [ ]
every_term P (t ∷ ts) (also p ps) th (Memᴰ.head q) = subst P (sym q) p
every_term P (t ∷ ts) (also p ps) th (Memᴰ.tail m) = every_term P ts ps th m

-- ---- faithful scripts

get_elem?_map : {A B : Type 0} (f : A → B) (xs : List A) (k : ℕ) → get_elem? (map f xs) k ≡ Option.map f (get_elem? xs k)
get_elem?_map f [] k = refl
get_elem?_map f (x ∷ xs) zero = refl
get_elem?_map f (x ∷ xs) (suc k) = get_elem?_map f xs k

module _ {e : Enums} {ins : List Tm} {cs : List (List Token)} (h : Says e ins cs) where
  commands_read : tail cs ≡ map (command e h.names) h.roles
  commands_read = ap tail h.commands

  -- the names of the things are those that the commands declare and define
  pub names_of : collect name_read (tail cs) ≡ map (name_of h.names) (things h.roles)
  names_of = rw commands_read (names_read e h.names h.roles h.lettering)

  -- no name has two commands
  pub names_unique : T (unique (collect name_read (tail cs)))
  names_unique = rw names_of h.unlike

  -- each assertion says the input at its place, and there are no others
  pub assertions_of : map (λ b. flat (unfolded (definitions h.names h.roles) b)) (collect assertion_read (tail cs)) ≡ map (full e h.names) ins
  assertions_of = rw commands_read (assertions_read e h.names (definitions h.names h.roles) h.roles h.right ∙ ap (λ (ts : List Tm). map (full e h.names) ts) h.assertions)

  -- there are as many assertions as inputs
  pub assertions_count : length (collect assertion_read (tail cs)) ≡ length ins
  assertions_count =
      sym (length-map (collect assertion_read (tail cs)) (λ b. flat (unfolded (definitions h.names h.roles) b)))
      ∙ ap length assertions_of ∙ length-map ins (full e h.names)

  -- a bare symbol, such as `true`, is asserted only of an input that is spelled so
  pub bare_of : (w : Bytes) → T (not (lettered 116 w)) → (k : ℕ) → get_elem? (collect assertion_read (tail cs)) k ≡ some (word_end w) → Option.map (full e h.names) (get_elem? ins k) ≡ some w
  bare_of w u k p =
      sym (get_elem?_map (full e h.names) ins k) ∙ ap (λ (l : List Bytes). get_elem? l k) (sym assertions_of)
      ∙ get_elem?_map (λ b. flat (unfolded (definitions h.names h.roles) b)) (collect assertion_read (tail cs)) k
      ∙ rw p (ap some (flat_word_end (definitions h.names h.roles) w (says_named h) u))

  module _ (typed : T (all simple ins)) where
    things_simple : T (all simple_thing (things h.roles))
    unfolding Needed simple_thing
    things_simple = all_members simple_thing (things h.roles) (λ th m. go th ((h.needed th).1 m))
      where
        go : (th : Thing) → Needed e ins th → T (simple_thing th)
        go (term t) n = needed_simple typed n.0
        go (func f) n = tt
        go (type ty) n = tt

    -- what each assertion unfolds to by the definitions that are read is the full spelling of its input
    pub unfolded_of : map (λ b. flat (unfolded (definitions_read (tail cs)) b)) (collect assertion_read (tail cs)) ≡ map (full e h.names) ins
    unfolded_of = subst (λ (ds : List Definition). map (λ b. flat (unfolded ds b)) (collect assertion_read (tail cs)) ≡ map (full e h.names) ins) (sym (ap definitions_read commands_read ∙ definitions_read_lem e h.names h.roles h.lettering things_simple)) assertions_of

    -- no command uses a name before its command
    pub order_of : T (order_read [] (tail cs))
    order_of = rw (commands_read, ← order_read_lem e h.names [] h.roles h.lettering things_simple) h.order

  -- there are no fewer names than unlike terms that need one
  pub terms_fit : (ts : List Tm) → T (distinct ts) → Every (λ t. Needed e ins (term t)) ts → length ts ≤ length (collect name_read (tail cs))
  terms_fit ts d n =
      rw (names_of, length-map (things h.roles) (name_of h.names), ← length-map ts term)
      (length_apart (map term ts) (things h.roles) (distinct_apart ts d) (λ th m. (h.needed th).0 (every_term (Needed e ins) ts n th m)))
