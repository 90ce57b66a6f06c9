-- The walk over a type or a function logs it: by recursion on the type, each entry by the invariant's law.
-- Assumes nothing.
use mathlib.Core.Path.{◌≡◌, refl, sym, ap, ◌∙◌, subst}
use mathlib.Core.Logic.{◌⊎◌, inl, inr}
use mathlib.Core.Bool.{not}
use mathlib.Core.List.{List, [], ◌∷◌, ◌++◌, append-nil, Memᴰ}
use mathlib.Core.Option.{Option, none, some}
use native.Mathlib.Omega.{arith}
use lib.Dec.{T, T_not}
use Rattle.script_spec.specs.Base.{Bytes, any, collect, is_some}
use Rattle.script_spec.specs.Tree.{Ty, Fun, Tm, TypeMark, Forest, node, nil, cons, trees, children, depth, depths, eq_ty, eq_fun, Enums, Datatype, entity, extension, record_of, datatype, uuf}
use Rattle.script_spec.specs.Command.{Command, comment, exit}
use Rattle.script_spec.specs.Spelling.{Names, type_comment, type_declaration, fun_declaration}
use Rattle.script_spec.specs.Walk.{State, went, Walk, ◌>>◌, names, type_name, enter_type, enter_fun, write, writing, declare_type, encode_type, encode_types, declare_function, encode_uuf}
use Rattle.script_spec.specs.Faithful.{Thing, term, func, type, NeededFun, NeededType, of_argument, of_result, is_part, Needed}
use Rattle.script_spec.proofs.Laws.{collect_append}
use Rattle.script_spec.proofs.Log.{command_of, silent, HasType, HasTypes, HasParts, nameable}
use Rattle.script_spec.proofs.Steps.{Goes, goes, ends_then, ends_unless, ends_map, goes_both}
use Rattle.script_spec.proofs.Grow.{Grows, grows_next, type_grows, types_grow}
use Rattle.script_spec.proofs.Entered.{type_cases, type_new, fun_cases, fun_new, TypesOnly, encode_type_only, encode_types_only}
use Rattle.script_spec.proofs.Invariant.{Tabled, Covered, Asked, extends, extends_type, extends_fun, Inv, inv_quiet, inv_logged}

-- a state whose log has grown and has P
pub record Logs (e : Enums) (ins : List Tm) (P : List Thing → Type 0) (log : List Thing) (s : State) : Type 0 where
  pub later : List Thing
  pub grown : Grows log later
  pub inv : Inv e ins s later
  pub has : P later

module _ (e : Enums) (ins : List Tm) where
  pub logs_same : {P : List Thing → Type 0} {log : List Thing} {s : State} → Inv e ins s log → P log → Logs e ins P log s
  logs_same {log = log} i p = record { later = log; grown = λ th m. m; inv = i; has = p }

  -- a log that has grown before
  pub logs_then : {P Q : List Thing → Type 0} {log log' : List Thing} {s : State} → Grows log log' → (l : Logs e ins P log' s) → (P l.later → Q l.later) → Logs e ins Q log s
  logs_then g l f = record { later = l.later; grown = λ th m. l.grown th (g th m); inv = l.inv; has = f l.has }

  -- the comment and the declaration of a type speak by the declaration alone
  type_spoken : (d : Datatype) (c : Command) → collect silent (type_comment e d ++ (c ∷ [])) ≡ silent c ++ []
  unfolding type_comment collect silent
  type_spoken (entity name) c = refl
  type_spoken (extension x) c = refl
  type_spoken (record_of names) c = refl

  type_command : (ν : Names) (d : Datatype) (t : Ty) → datatype t ≡ some d → silent (type_declaration e ν d t) ++ [] ≡ command_of e ν (type t) ∷ []
  unfolding command_of type_declaration silent
  type_command ν d t p = ap (λ (o : Option Datatype). elim o as (λ x. Command) [ none ↦ exit | some d' ↦ type_declaration e ν d' t ] ∷ []) (sym p)

  -- the state after a type is declared
  declared : Datatype → Ty → State → State
  declared d t s = write (type_comment e d ++ (type_declaration e (names (enter_type t s)) d t ∷ [])) (enter_type t s)

  declared_logs : (d : Datatype) (m : TypeMark) (ts : Forest TypeMark) (s : State) (log : List Thing)
      → NeededType ins (node m ts) → Inv e ins s log → HasTypes log ts → (Tabled s (type (node m ts)) → ⊥) → datatype (node m ts) ≡ some d
      → Logs e ins (λ l. HasType l (node m ts)) log (declared d (node m ts) s)
  unfolding declared HasType Tabled Covered Asked Needed HasParts nameable is_some enter_type write names type_name
  declared_logs d m ts s log need inv parts fresh p =
      record {
        later = type t ∷ log;
        grown = grows_next;
        inv = inv_logged inv s' (type t) cs (extends_type t cs s) parts able fresh (need, able) (type_new s.types t) (λ u a h. new u h) inv.entered has refl spoken;
        has = has;
      }
    where
      t : Ty
      t = node m ts

      c : Command
      c = type_declaration e (names (enter_type t s)) d t

      cs : List Command
      cs = type_comment e d ++ (c ∷ [])

      s' : State
      s' = write cs (enter_type t s)

      able : T (is_some (datatype t))
      able = rw p tt

      has : HasType (type t ∷ log) t
      has = (types_grow grows_next ts parts, λ k. Memᴰ.head refl)

      new : (u : Thing) → Tabled s' u → Tabled s u ⊎ (u ≡ type t)
      new (term u) h = inl h
      new (func u) h = inl h
      new (type u) h = elim (type_cases s.types t u h) [ inl k ↦ inl k | inr q ↦ inr (ap type q) ]

      spoken : collect silent cs ≡ command_of e (names s') (type t) ∷ []
      spoken = type_spoken d c ∙ type_command (names s') d t p

  declare_type_logs : (m : TypeMark) (ts : Forest TypeMark) (s : State) (log : List Thing)
      → NeededType ins (node m ts) → Inv e ins s log → HasTypes log ts → (Tabled s (type (node m ts)) → ⊥)
      → Goes (Logs e ins (λ l. HasType l (node m ts)) log) (declare_type e (node m ts) s)
  unfolding declare_type declared HasType is_some
  declare_type_logs m ts s log need inv parts fresh = go (datatype (node m ts)) refl
    where
      go : (o : Option Datatype) → datatype (node m ts) ≡ o → Goes (Logs e ins (λ l. HasType l (node m ts)) log) (elim o [ none ↦ went s | some d ↦ went (declared d (node m ts) s) ])
      go none p = goes (logs_same inv (parts, λ d. absurd (subst (λ (o : Option Datatype). T (is_some o)) p d)))
      go (some d) p = goes (declared_logs d m ts s log need inv parts fresh p)

  mutual
    unfolding encode_type HasType trees children Tabled Covered Asked depths

    pub encode_type_logs : (t : Ty) (s : State) (log : List Thing) → NeededType ins t → Inv e ins s log → Goes (Logs e ins (λ l. HasType l t) log) (encode_type e t s)
    encode_type_logs (node m ts) s log need inv =
        ends_unless (λ s'. any (eq_ty (node m ts)) s'.types) (◌>>◌ (encode_types e ts) (declare_type e (node m ts))) s
        (λ k. logs_same inv (inv.covered (type (node m ts)) tt k))
        (λ k. ends_then (encode_types e ts) (declare_type e (node m ts)) s
        (goes_both
        (λ s₁ o g. ends_map (λ s₂ l. logs_then g.grown l (λ h. h))
        (declare_type_logs m ts s₁ g.later need g.inv g.has (λ h. T_not (any (eq_ty (node m ts)) s.types) k (o.types (node m ts) (omega arith) h))))
        (encode_types_only e ts s) (encode_types_logs ts s log (λ u x. is_part need x) inv)))

    encode_types_logs : (ts : Forest TypeMark) (s : State) (log : List Thing) → ((u : Ty) → Memᴰ u (trees ts) → NeededType ins u) → Inv e ins s log → Goes (Logs e ins (λ l. HasTypes l ts) log) (encode_types e ts s)
    encode_types_logs nil s log need inv = goes (logs_same inv tt)
    encode_types_logs (cons t ts) s log need inv =
        ends_then (encode_type e t) (encode_types e ts) s
        (ends_map (λ s₁ g. ends_map (λ s₂ l. logs_then g.grown l (λ h. (type_grows l.grown t g.has, h)))
        (encode_types_logs ts s₁ g.later (λ u x. need u (Memᴰ.tail x)) g.inv))
        (encode_type_logs t s log (need t (Memᴰ.head refl)) inv))

  -- the walk over a type logs it and leaves the other tables
  pub encode_type_step : (t : Ty) (s : State) (log : List Thing) → NeededType ins t → Inv e ins s log
      → Goes (λ s'. Logs e ins (λ l. HasType l t) log s' × TypesOnly (depth t) s s') (encode_type e t s)
  encode_type_step t s log need inv = goes_both (λ s' o l. (l, o)) (encode_type_only e t s) (encode_type_logs t s log need inv)

  -- ---- functions

  fun_command : (ν : Names) (f : Fun) → collect silent (fun_declaration ν f ∷ []) ≡ command_of e ν (func f) ∷ []
  unfolding command_of fun_declaration silent collect
  fun_command ν (uuf id arg out) = refl

  -- the state after a function is declared
  declared_fun : Fun → State → State
  declared_fun f s = write (fun_declaration (names (enter_fun f s)) f ∷ []) (enter_fun f s)

  declared_fun_logs : (f : Fun) (s : State) (log : List Thing) → NeededFun ins f → Inv e ins s log → HasParts e log (func f) → (Tabled s (func f) → ⊥)
      → Logs e ins (Memᴰ (func f)) log (declared_fun f s)
  unfolding declared_fun Tabled Covered Asked Needed nameable enter_fun write names type_name
  declared_fun_logs f s log need inv parts fresh =
      record {
        later = func f ∷ log;
        grown = grows_next;
        inv =
            inv_logged inv (declared_fun f s) (func f) cs (extends_fun f cs s) parts tt fresh need (fun_new s.funs f) (λ u a h. new u h) inv.entered (Memᴰ.head refl) refl
            (fun_command (names (enter_fun f s)) f);
        has = Memᴰ.head refl;
      }
    where
      cs : List Command
      cs = fun_declaration (names (enter_fun f s)) f ∷ []

      new : (u : Thing) → Tabled (declared_fun f s) u → Tabled s u ⊎ (u ≡ func f)
      new (term u) h = inl h
      new (func u) h = elim (fun_cases s.funs f u h) [ inl k ↦ inl k | inr q ↦ inr (ap func q) ]
      new (type u) h = inl h

  comment_inv : (text : Bytes) (s : State) (log : List Thing) → Inv e ins s log → Inv e ins (write (comment text ∷ []) s) log
  unfolding write Tabled Asked collect silent
  comment_inv text s log inv =
      inv_quiet inv (write (comment text ∷ []) s)
      (extends s (write (comment text ∷ []) s) [] [] [] (sym (append-nil s.types)) (sym (append-nil s.funs)) (sym (append-nil s.terms)))
      (λ th a h. new th h) inv.entered (collect_append silent s.commands (comment text ∷ []) ∙ append-nil (collect silent s.commands))
    where
      new : (th : Thing) → Tabled (write (comment text ∷ []) s) th → Tabled s th ⊎ Covered e log th
      new (term t) h = inl h
      new (func f) h = inl h
      new (type ty) h = inl h

  pub encode_uuf_logs : (f : Fun) (s : State) (log : List Thing) → NeededFun ins f → Inv e ins s log
      → Goes (λ s'. Logs e ins (Memᴰ (func f)) log s' × (s'.terms ≡ s.terms)) (encode_uuf e f s)
  unfolding encode_uuf writing declare_function declared_fun HasParts Tabled Covered Asked write enter_fun
  encode_uuf_logs (uuf id arg out) s log need inv =
      ends_unless (λ s'. any (eq_fun f) s'.funs) (◌>>◌ (writing (comment id ∷ [])) after_comment) s (λ k. (logs_same inv (inv.covered (func f) tt k), refl))
      (λ k. ends_then (writing (comment id ∷ [])) after_comment s
      (goes (ends_then (encode_type e arg) after_argument s₁
      (ends_map (λ s₂ a. ends_then (encode_type e out) (declare_function f) s₂ (ends_map (λ s₃ b. goes (last k s₂ s₃ a b)) (encode_type_step out s₂ a.0.later (of_result need) a.0.inv)))
      (encode_type_step arg s₁ log (of_argument need) (comment_inv id s log inv))))))
    where
      f : Fun
      f = uuf id arg out

      after_argument : Walk
      after_argument = ◌>>◌ (encode_type e out) (declare_function f)

      after_comment : Walk
      after_comment = ◌>>◌ (encode_type e arg) after_argument

      s₁ : State
      s₁ = write (comment id ∷ []) s

      last : T (not (any (eq_fun f) s.funs)) → (s₂ s₃ : State) (a : Logs e ins (λ l. HasType l arg) log s₂ × TypesOnly (depth arg) s₁ s₂)
          → Logs e ins (λ l. HasType l out) a.0.later s₃ × TypesOnly (depth out) s₂ s₃
          → Logs e ins (Memᴰ (func f)) log (declared_fun f s₃) × (s₃.terms ≡ s.terms)
      last k s₂ s₃ a b = (
        logs_then (λ th m. b.0.grown th (a.0.grown th m))
            (declared_fun_logs f s₃ b.0.later need b.0.inv (type_grows b.0.grown arg a.0.has, b.0.has)
            (λ h. T_not (any (eq_fun f) s.funs) k (subst (λ (fs : List Fun). T (any (eq_fun f) fs)) (b.1.funs ∙ a.1.funs) h))) (λ h. h),
        b.1.terms ∙ a.1.terms,
      )
