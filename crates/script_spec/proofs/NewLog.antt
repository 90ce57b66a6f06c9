-- A term that is new to the table, after its type and its children, is entered and logged: by cases on its mark and operator.
-- Assumes nothing.
use Prim.Native.Nat.{ℕ}
use mathlib.Core.Path.{◌≡◌, refl, sym, ap, subst}
use mathlib.Core.Logic.{◌⊎◌, inl, inr}
use mathlib.Core.Bool.{true, false, not, ◌||◌}
use mathlib.Core.List.Memᴰ
use mathlib.Core.List.{List, [], ◌∷◌, ◌++◌, map, append-nil, Memᴰ}
use mathlib.Core.Option.{Option, none, some}
use lib.Dec.{T, T_not, eqb}
use Rattle.script_spec.specs.Base.{Bytes, any, between, collect, is_some, is_yes, same}
use Rattle.script_spec.specs.Utf8.{code_points}
use Rattle.script_spec.specs.Tree.{Ty, Fun, Tm, Mark, Forest, node, nil, children, type_of, types_of, is_variable, is_falsehood, eq_ty, eq_tm, Enums, enum_of, attributes, attribute, mark_dec, Negation, ordinary, falsehood, comparison, negation, negation_with}
use Rattle.script_spec.specs.Tree.{Bool·, Var, BoolLit, BitVecLit, StringLit, Entity, ExtLit, None, Some, Set, Record, App, Op, Plain, Bvnego, Ext, RecordGet, StringLike, Uuf, ZeroExtend}
use Rattle.script_spec.specs.Command.{Command, define_fun}
use Rattle.script_spec.specs.Spelling.{Names, sort, body, atom, inlined}
use Rattle.script_spec.specs.Walk.{State, ◌>>◌, names, type_name, enter_term, write, refuse_unless, refuse_high, enter, declare_var, define_term, define_entity, record_get, operator_step, define_app, encode_new}
use Rattle.script_spec.specs.Faithful.{Thing, term, func, type, NeededTerm, is_applied, Needed}
use Rattle.script_spec.proofs.Laws.{is_false, never}
use Rattle.script_spec.proofs.Log.{command_of, silent, HasType, HasParts, nameable}
use Rattle.script_spec.proofs.High.{FirstHighAt, first_high_at}
use Rattle.script_spec.proofs.Steps.{Ends, goes, ends_then, ends_tested, ends_high, ends_map, goes_map}
use Rattle.script_spec.proofs.Negated.{is_falsehood_by}
use Rattle.script_spec.proofs.Grow.{grows_next, Done, Dones, dones_terms, type_grows, dones_grow}
use Rattle.script_spec.proofs.Entered.{term_cases, term_new}
use Rattle.script_spec.proofs.Invariant.{OneListing, Tabled, Covered, Asked, Extends, extends, extends_term, Inv, inv_quiet, inv_logged}
use Rattle.script_spec.proofs.TypeLog.{Logs, logs_same, logs_then, encode_uuf_logs}

-- what a refusal's number and position say of its term: the first high code point of an id, of a text or of a pattern, or no position
pub data Told : ℕ → Tm → ℕ → Type 0 where
  high_id : {ty : Ty} {id : Bytes} {ts : Forest Mark} {q : ℕ} → FirstHighAt (code_points id) q → Told 15 (node (Entity ty id) ts) q
  high_text : {s : Bytes} {ts : Forest Mark} {q : ℕ} → FirstHighAt (code_points s) q → Told 24 (node (StringLit s) ts) q
  high_pattern : {ty : Ty} {p : List ℕ} {ts : Forest Mark} {q : ℕ} → FirstHighAt p q → Told 25 (node (App ty (StringLike p)) ts) q
  no_position : {n : ℕ} {t : Tm} → T (eqb n 14 || between 16 19 n) → Told n t 0

-- a refusal of the walk: what it says, of a term that is needed
pub record Refusal (ins : List Tm) (n : ℕ) (t : Tm) (q : ℕ) : Type 0 where
  pub told : Told n t q
  pub needed : NeededTerm ins t

-- the function of an operator, if it has one, is logged
unfoldable AppliedOp : List Thing → Op Fun → Type 0
AppliedOp log (Plain o) = Unit {0}
AppliedOp log (Ext o) = Unit {0}
AppliedOp log (RecordGet a) = Unit {0}
AppliedOp log (StringLike p) = Unit {0}
AppliedOp log (Uuf f) = Memᴰ (func f) log
AppliedOp log (ZeroExtend n) = Unit {0}

-- the function of a mark, if it has one, is logged
unfoldable Applied : List Thing → Mark → Type 0
Applied log (Var id ty) = Unit {0}
Applied log (BoolLit b) = Unit {0}
Applied log (BitVecLit n v) = Unit {0}
Applied log (StringLit s) = Unit {0}
Applied log (Entity ty id) = Unit {0}
Applied log (ExtLit v) = Unit {0}
Applied log (None ty) = Unit {0}
Applied log Some = Unit {0}
Applied log (Set ty) = Unit {0}
Applied log (Record ns) = Unit {0}
Applied log (App ty op) = AppliedOp log op

applied_fun : {log : List Thing} (m : Mark) (ts : Forest Mark) → Applied log m → (f : Fun) (ty : Ty) (us : Forest Mark) → node m ts ≡ node (App ty (Uuf f)) us → Memᴰ (func f) log
unfolding Applied AppliedOp
applied_fun {log} m ts a f ty us p = let q : m ≡ App ty (Uuf f) = cc in subst (Applied log) q a

-- a term that is written by its `Bvnego` has that mark
negation_mark : (m : Mark) (ts : Forest Mark) → (negation (node m ts) ≡ ordinary → ⊥) → m ≡ App (node Bool· nil) (Plain Bvnego)
unfolding negation
negation_mark m ts n = go (mark_dec m (App (node Bool· nil) (Plain Bvnego))) n
  where
    go : (d : Dec (m ≡ App (node Bool· nil) (Plain Bvnego))) → (◌≡◌ {A = Negation} (elim (is_yes d) [ true ↦ negation_with (types_of ts) | false ↦ ordinary ]) ordinary → ⊥) → m ≡ App (node Bool· nil) (Plain Bvnego)
    go (yes p) k = p
    go (no q) k = absurd (k refl)

negation_applied : (log : List Thing) (m : Mark) (ts : Forest Mark) → (negation (node m ts) ≡ ordinary → ⊥) → Applied log m
unfolding Applied AppliedOp
negation_applied log m ts n = subst (Applied log) (sym (negation_mark m ts n)) tt

-- the definition of a term is its command
defined_command : (e : Enums) (ν : Names) (t : Tm) → T (not (is_variable t))
    → collect silent (define_fun (ν.term t) [] (sort ν (type_of t)) (body e ν t (map (atom e ν) (children t))) ∷ []) ≡ command_of e ν (term t) ∷ []
unfolding collect silent command_of
defined_command e ν t v = rw (is_false (is_variable t) v, command_of) refl

-- the terms that are entered between two states are t or none
abbrev pub EntersOnly : Tm → State → State → Type 0
EntersOnly t s s' = (u : Tm) → T (any (eq_tm u) s'.terms) → T (any (eq_tm u) s.terms) ⊎ T (eq_tm u t)

-- a table of needed terms with one more
entered_needed : {ins : List Tm} {t : Tm} (us : List Tm) → NeededTerm ins t → ((u : Tm) → Memᴰ u us → NeededTerm ins u) → (u : Tm) → Memᴰ u (us ++ (t ∷ [])) → NeededTerm ins u
entered_needed {ins} us n h u m = elim (Memᴰ.append_cases us m) [ inl k ↦ h u k | inr k ↦ subst (NeededTerm ins) (sym (Memᴰ.eq_of_singleton k)) n ]

module _ (e : Enums) (ins : List Tm) where
  -- a term that is needed and new, with its type and its children logged
  pub record Ready (m : Mark) (ts : Forest Mark) (s : State) (log : List Thing) : Type 0 where
    pub listing : OneListing ins
    pub needed : NeededTerm ins (node m ts)
    pub inv : Inv e ins s log
    pub typed : HasType log (type_of (node m ts))
    pub below : T (not (is_falsehood (node m ts))) → Dones e log ts
    pub fresh : Tabled s (term (node m ts)) → ⊥

  -- what is shown of the state after the term
  abbrev pub Finished : Mark → Forest Mark → State → List Thing → State → Type 0
  Finished m ts s log s' = Logs e ins (λ l. Done e l (node m ts)) log s' × EntersOnly (node m ts) s s'

  module _ {m : Mark} {ts : Forest Mark} {s : State} {log : List Thing} (r : Ready m ts s log) where
    -- ---- terms that have no name

    inlined_done : T (inlined e (node m ts)) → Applied log m → Done e log (node m ts)
    unfolding Done
    inlined_done i a = (record { typed = r.typed; known = λ n. absurd (T_not (inlined e (node m ts)) n i) }, applied_fun m ts a, r.below)

    unentered : T (inlined e (node m ts)) → Applied log m → Finished m ts s log s
    unentered i a = (logs_same e ins r.inv (inlined_done i a), λ u h. inl h)

    entered_inlined : T (inlined e (node m ts)) → Applied log m → Finished m ts s log (enter_term (node m ts) s)
    unfolding enter_term Tabled Covered Asked
    entered_inlined i a = (logs_same e ins (inv_quiet r.inv s' grown new (entered_needed s.terms r.needed r.inv.entered) refl) (inlined_done i a), λ u h. term_cases s.terms (node m ts) u h)
      where
        s' : State
        s' = enter_term (node m ts) s

        grown : Extends s s'
        grown = extends s s' [] [] (node m ts ∷ []) (sym (append-nil s.types)) (sym (append-nil s.funs)) refl

        new : (th : Thing) → Asked ins th → Tabled s' th → Tabled s th ⊎ Covered e log th
        new (term u) n h = elim (term_cases s.terms (node m ts) u h) [ inl k ↦ inl k | inr p ↦ inr (subst (Done e log) (sym (r.listing.same u (node m ts) n r.needed p)) (inlined_done i a)) ]
        new (func f) n h = inl h
        new (type ty) n h = inl h

    -- ---- terms that have a name

    entered_named : (cs : List Command) → T (not (inlined e (node m ts))) → (T (not (is_variable (node m ts))) → T (not (is_falsehood (node m ts)))) → Applied log m
        → collect silent cs ≡ command_of e (names (enter_term (node m ts) s)) (term (node m ts)) ∷ []
        → Finished m ts s log (write cs (enter_term (node m ts) s))
    unfolding enter_term write names type_name Tabled Covered Asked Needed HasParts nameable Done children
    entered_named cs i v a spoken = (
      record {
        later = term t ∷ log;
        grown = grows_next;
        inv = inv_logged r.inv s' (term t) cs (extends_term t cs s) parts i r.fresh (r.needed, i) (term_new s.terms t) new (entered_needed s.terms r.needed r.inv.entered) done refl spoken;
        has = done;
      },
      λ u h. term_cases s.terms t u h,
    )
      where
        t : Tm
        t = node m ts

        s' : State
        s' = write cs (enter_term t s)

        parts : HasParts e log (term t)
        parts = (r.typed, λ n. dones_terms ts (r.below (v n)), applied_fun m ts a)

        done : Done e (term t ∷ log) t
        done = (
          record { typed = type_grows grows_next (type_of t) r.typed; known = λ n. Memᴰ.head refl },
          λ f ty us p. grows_next (func f) (applied_fun m ts a f ty us p),
          λ n. dones_grow grows_next e ts (r.below n),
        )

        new : (u : Thing) → Asked ins u → Tabled s' u → Tabled s u ⊎ (u ≡ term t)
        new (term u) n h = elim (term_cases s.terms t u h) [ inl k ↦ inl k | inr p ↦ inr (ap term (r.listing.same u t n r.needed p)) ]
        new (func f) n h = inl h
        new (type ty) n h = inl h

    defined : {X : ℕ → Tm → ℕ → Type 0} → T (not (inlined e (node m ts))) → T (not (is_variable (node m ts))) → T (not (is_falsehood (node m ts))) → Applied log m → Ends (Finished m ts s log) X (define_term e (node m ts) s)
    unfolding define_term
    defined i v n a = goes (entered_named _ i (λ k. n) a (defined_command e (names (enter_term (node m ts) s)) (node m ts) v))

    -- ---- entities

    refusal : {n q : ℕ} → Told n (node m ts) q → Refusal ins n (node m ts) q
    refusal h = record { told = h; needed = r.needed }

  entity_logs : (ty : Ty) (id : Bytes) (ts : Forest Mark) (s : State) (log : List Thing) → Ready (Entity ty id) ts s log
      → Ends (Finished (Entity ty id) ts s log) (Refusal ins) (define_entity e (node (Entity ty id) ts) id (enum_of e ty) s)
  unfolding define_entity inlined is_some is_variable is_falsehood negation mark_dec Applied enter
  entity_logs ty id ts s log r = go (enum_of e ty) refl
    where
      t : Tm
      t = node (Entity ty id) ts

      go : (o : Option (List Bytes)) → enum_of e ty ≡ o → Ends (Finished (Entity ty id) ts s log) (Refusal ins) (define_entity e t id o s)
      go none p =
          ends_then (refuse_high 15 t (code_points id)) (define_term e t) s
          (ends_high 15 t (code_points id) s (defined r (rw p tt) tt tt tt) (λ q h. refusal r (high_id (first_high_at (code_points id) q h))))
      go (some ms) p =
          ends_then (refuse_unless 14 t (any (same id) ms)) (enter t) s
          (ends_tested 14 t (any (same id) ms) s (goes (entered_inlined r (rw p tt) tt)) (refusal r (no_position tt)))

  -- ---- applications

  -- what is shown of the state after an operator's step: its function is logged, and no term is entered
  abbrev Stepped : Op Fun → State → List Thing → State → Type 0
  Stepped op s log s' = Logs e ins (λ l. AppliedOp l op) log s' × (s'.terms ≡ s.terms)

  record_get_logs : {m : Mark} {ts : Forest Mark} {s : State} {log : List Thing} (a : Bytes) (tys : List Ty) → Ready m ts s log
      → Ends (Stepped (RecordGet a) s log) (Refusal ins) (record_get (node m ts) a tys s)
  unfolding record_get AppliedOp between
  record_get_logs {m} {ts} {s} a [] r = ends_tested 19 (node m ts) false s (logs_same e ins r.inv tt, refl) (refusal r (no_position tt))
  record_get_logs {m} {ts} {s} a (ty ∷ tys) r =
      ends_then (λ s'. refuse_unless 18 t (any (eq_ty ty) s'.types) s') (◌>>◌ (refuse_unless 17 t (is_some (attributes ty))) (refuse_unless 16 t (is_some (attribute a ty)))) s
      (ends_tested 18 t (any (eq_ty ty) s.types) s
      (ends_then (refuse_unless 17 t (is_some (attributes ty))) (refuse_unless 16 t (is_some (attribute a ty))) s
      (ends_tested 17 t (is_some (attributes ty)) s
      (ends_tested 16 t (is_some (attribute a ty)) s (logs_same e ins r.inv tt, refl) (refusal r (no_position tt)))
      (refusal r (no_position tt))))
      (refusal r (no_position tt)))
    where
      t : Tm
      t = node m ts

  operator_step_logs : {ty : Ty} {ts : Forest Mark} {s : State} {log : List Thing} (op : Op Fun) → Ready (App ty op) ts s log
      → Ends (Stepped op s log) (Refusal ins) (operator_step e (node (App ty op) ts) op s)
  unfolding operator_step AppliedOp
  operator_step_logs (Plain o) r = goes (logs_same e ins r.inv tt, refl)
  operator_step_logs (Ext o) r = goes (logs_same e ins r.inv tt, refl)
  operator_step_logs {ty} {ts} (RecordGet a) r = record_get_logs a (map type_of (children (node (App ty (RecordGet a)) ts))) r
  operator_step_logs {ty} {ts} {s} (StringLike p) r = ends_high 25 (node (App ty (StringLike p)) ts) p s (logs_same e ins r.inv tt, refl) (λ q h. refusal r (high_pattern (first_high_at p q h)))
  operator_step_logs {s = s} {log = log} (Uuf f) r = goes_map (λ s' l. l) (encode_uuf_logs e ins f s log (is_applied r.needed) r.inv)
  operator_step_logs (ZeroExtend n) r = goes (logs_same e ins r.inv tt, refl)

  ready_later : {m : Mark} {ts : Forest Mark} {s s' : State} {log : List Thing} {P : List Thing → Type 0} → Ready m ts s log → (l : Logs e ins P log s') → s'.terms ≡ s.terms → Ready m ts s' l.later
  unfolding Tabled
  ready_later {m} {ts} r l p =
      record {
        listing = r.listing;
        needed = r.needed;
        inv = l.inv;
        typed = type_grows l.grown (type_of (node m ts)) r.typed;
        below = λ n. dones_grow l.grown e ts (r.below n);
        fresh = λ h. r.fresh (subst (λ (us : List Tm). T (any (eq_tm (node m ts)) us)) p h);
      }

  define_app_logs : (ty : Ty) (op : Op Fun) (ts : Forest Mark) (s : State) (log : List Thing) → Ready (App ty op) ts s log
      → Ends (Finished (App ty op) ts s log) (Refusal ins) (define_app e (node (App ty op) ts) op (negation (node (App ty op) ts)) s)
  unfolding define_app inlined is_variable Applied enter
  define_app_logs ty op ts s log r = go (negation t) refl
    where
      t : Tm
      t = node (App ty op) ts

      after : (s₁ : State) → Stepped op s log s₁ → negation t ≡ ordinary → Ends (Finished (App ty op) ts s log) (Refusal ins) (define_term e t s₁)
      after s₁ l p =
          ends_map (λ s₂ d. (logs_then e ins l.0.grown d.0 (λ h. h), λ u h. elim (d.1 u h) [ inl k ↦ inl (subst (λ (us : List Tm). T (any (eq_tm u) us)) l.1 k) | inr q ↦ inr q ]))
          (defined (ready_later r l.0 l.1) (rw (is_falsehood_by t ordinary p) tt) tt (rw (is_falsehood_by t ordinary p) tt) l.0.has)

      go : (n : Negation) → negation t ≡ n → Ends (Finished (App ty op) ts s log) (Refusal ins) (define_app e t op n s)
      go ordinary p = ends_then (operator_step e t op) (define_term e t) s (ends_map (λ s₁ l. after s₁ l p) (operator_step_logs op r))
      go falsehood p =
          goes (entered_inlined r (rw (is_falsehood_by t falsehood p) tt) (negation_applied log (App ty op) ts (λ q. never cc)))
      go (comparison n) p =
          defined r (rw (is_falsehood_by t (comparison n) p) tt) tt (rw (is_falsehood_by t (comparison n) p) tt)
          (negation_applied log (App ty op) ts (λ q. never cc))

  pub encode_new_logs : (m : Mark) (ts : Forest Mark) (s : State) (log : List Thing) → Ready m ts s log → Ends (Finished m ts s log) (Refusal ins) (encode_new e (node m ts) s)
  unfolding encode_new inlined is_variable is_falsehood negation mark_dec Applied declare_var command_of silent collect
  encode_new_logs (Var id ty) ts s log r = goes (entered_named r _ tt (λ n. absurd n) tt refl)
  encode_new_logs (BoolLit b) ts s log r = goes (unentered r tt tt)
  encode_new_logs (BitVecLit n v) ts s log r = goes (unentered r tt tt)
  encode_new_logs (StringLit x) ts s log r = ends_high 24 (node (StringLit x) ts) (code_points x) s (unentered r tt tt) (λ q h. refusal r (high_text (first_high_at (code_points x) q h)))
  encode_new_logs (Entity ty id) ts s log r = entity_logs ty id ts s log r
  encode_new_logs (ExtLit v) ts s log r = defined r tt tt tt tt
  encode_new_logs (None ty) ts s log r = defined r tt tt tt tt
  encode_new_logs Some ts s log r = defined r tt tt tt tt
  encode_new_logs (Set ty) ts s log r = defined r tt tt tt tt
  encode_new_logs (Record ns) ts s log r = defined r tt tt tt tt
  encode_new_logs (App ty op) ts s log r = define_app_logs ty op ts s log r
