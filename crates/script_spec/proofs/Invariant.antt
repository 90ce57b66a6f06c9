-- What the walk keeps true of its tables and commands and of a log: the invariant, and that entering a thing keeps it. Tables grow at
-- their end only, so that names stay.
-- Assumes nothing.
use Prim.Native.Nat.{ℕ}
use mathlib.Core.Path.{◌≡◌, refl, sym, ap, ap₂, ◌∙◌, subst}
use mathlib.Core.Logic.{◌⊎◌, inl, inr}
use mathlib.Core.Bool.{Bool}
use mathlib.Core.List.Memᴰ
use mathlib.Core.List.{List, [], ◌∷◌, ◌++◌, map, append-nil, Memᴰ, map-append}
use mathlib.Core.Option.{Option, none, some}
use lib.Dec.{T}
use Rattle.script_spec.specs.Base.{Bytes, bytes, any, place, is_some, collect}
use Rattle.script_spec.specs.Tree.{Ty, Fun, Tm, eq_ty, eq_fun, eq_tm, Enums, Datatype, datatype}
use Rattle.script_spec.specs.Command.{Command}
use Rattle.script_spec.specs.Spelling.{Names, option_declaration}
use Rattle.script_spec.specs.Walk.{State, start, enter_type, enter_fun, enter_term, write, numbered, letter, type_name, names}
use Rattle.script_spec.specs.Faithful.{Thing, term, func, type, NeededTerm, Needed}
use Rattle.script_spec.proofs.Laws.{any_left, place_append, any_place, collect_append}
use Rattle.script_spec.proofs.Log.{command_of, silent, HasType, HasParts, nameable, Ordered, next, reversed}
use Rattle.script_spec.proofs.Log as log
use Rattle.script_spec.proofs.Agree.{Agree, command_agree}
use Rattle.script_spec.proofs.Grow.{Grows, grows_next, Done, type_grows, done_grows, parts_grow}

-- ---- listings

-- no two needed terms are equal and listed differently
pub record OneListing (ins : List Tm) : Type 0 where
  pub same : (t u : Tm) → NeededTerm ins t → NeededTerm ins u → T (eq_tm t u) → t ≡ u

-- ---- tables

-- a thing stands in its table
unfoldable pub Tabled : State → Thing → Type 0
Tabled s (term t) = T (any (eq_tm t) s.terms)
Tabled s (func f) = T (any (eq_fun f) s.funs)
Tabled s (type ty) = T (any (eq_ty ty) s.types)

-- what stands in the tables stays there, under its name
pub record Extends (s s' : State) : Type 0 where
  pub kept : (th : Thing) → Tabled s th → Tabled s' th
  pub terms : (t : Tm) → Tabled s (term t) → (names s').term t ≡ (names s).term t
  pub funs : (f : Fun) → Tabled s (func f) → (names s').func f ≡ (names s).func f
  pub types : (ty : Ty) → Tabled s (type ty) → (names s').type ty ≡ (names s).type ty

place_kept : {A : Type 0} (p : A → Bool) (xs ys : List A) → T (any p xs) → place p (xs ++ ys) ≡ place p xs
unfolding is_some
place_kept p xs ys h = go (place p xs) refl (subst T (any_place p xs) h)
  where
    go : (o : Option ℕ) → place p xs ≡ o → T (is_some o) → place p (xs ++ ys) ≡ place p xs
    go none e k = absurd k
    go (some n) e k = place_append p xs ys n e ∙ sym e

-- tables with more entries
pub extends : (s s' : State) (tys : List Ty) (fs : List Fun) (ts : List Tm)
    → s'.types ≡ s.types ++ tys → s'.funs ≡ s.funs ++ fs → s'.terms ≡ s.terms ++ ts → Extends s s'
unfolding Tabled names type_name
extends s s' tys fs ts p q r = record { kept = kept; terms = terms; funs = funs; types = types }
  where
    kept : (th : Thing) → Tabled s th → Tabled s' th
    kept (term t) h = rw r (any_left (eq_tm t) s.terms ts h)
    kept (func f) h = rw q (any_left (eq_fun f) s.funs fs h)
    kept (type ty) h = rw p (any_left (eq_ty ty) s.types tys h)

    terms : (t : Tm) → Tabled s (term t) → (names s').term t ≡ (names s).term t
    terms t h = ap (numbered (bytes "t")) (ap (place (eq_tm t)) r ∙ place_kept (eq_tm t) s.terms ts h)

    funs : (f : Fun) → Tabled s (func f) → (names s').func f ≡ (names s).func f
    funs f h = ap (numbered (bytes "f")) (ap (place (eq_fun f)) q ∙ place_kept (eq_fun f) s.funs fs h)

    types : (ty : Ty) → Tabled s (type ty) → (names s').type ty ≡ (names s).type ty
    types ty h = go (datatype ty)
      where
        go : (o : Option Datatype) → ◌≡◌ {A = Bytes} (elim o [ none ↦ [] | some d ↦ numbered (letter d) (place (eq_ty ty) s'.types) ]) (elim o [ none ↦ [] | some d ↦ numbered (letter d) (place (eq_ty ty) s.types) ])
        go none = refl
        go (some d) = ap (numbered (letter d)) (ap (place (eq_ty ty)) p ∙ place_kept (eq_ty ty) s.types tys h)

pub extends_type : (t : Ty) (cs : List Command) (s : State) → Extends s (write cs (enter_type t s))
unfolding enter_type write
extends_type t cs s = extends s (write cs (enter_type t s)) (t ∷ []) [] [] refl (sym (append-nil s.funs)) (sym (append-nil s.terms))

pub extends_fun : (f : Fun) (cs : List Command) (s : State) → Extends s (write cs (enter_fun f s))
unfolding enter_fun write
extends_fun f cs s = extends s (write cs (enter_fun f s)) [] (f ∷ []) [] (sym (append-nil s.types)) refl (sym (append-nil s.terms))

pub extends_term : (t : Tm) (cs : List Command) (s : State) → Extends s (write cs (enter_term t s))
unfolding enter_term write
extends_term t cs s = extends s (write cs (enter_term t s)) [] [] (t ∷ []) (sym (append-nil s.types)) (sym (append-nil s.funs)) refl

-- ---- the invariant

agree_tail : {th : Thing} {log : List Thing} {ν μ : Names} → Agree (th ∷ log) ν μ → Agree log ν μ
agree_tail a = record { terms = λ t m. a.terms t (Memᴰ.tail m); funs = λ f m. a.funs f (Memᴰ.tail m); types = λ ty m. a.types ty (Memᴰ.tail m) }

-- no thing is logged twice
unfoldable pub Distinct : List Thing → Type 0
Distinct [] = Unit {0}
Distinct (th ∷ log) = (Memᴰ th log → ⊥) × Distinct log

-- all that is to be logged of a thing in the tables is logged
unfoldable pub Covered : Enums → List Thing → Thing → Type 0
Covered e log (term t) = Done e log t
Covered e log (func f) = Memᴰ (func f) log
Covered e log (type ty) = HasType log ty

-- a term is needed; of a function or a type nothing is asked
unfoldable pub Asked : List Tm → Thing → Type 0
Asked ins (term t) = NeededTerm ins t
Asked ins (func f) = Unit {0}
Asked ins (type ty) = Unit {0}

covered_grows : {log log' : List Thing} (e : Enums) → Grows log log' → (th : Thing) → Covered e log th → Covered e log' th
unfolding Covered
covered_grows e g (term t) k = done_grows g e t k
covered_grows e g (func f) k = g (func f) k
covered_grows e g (type ty) k = type_grows g ty k

-- the log is ordered, without repetition, in the tables and needed; what is needed and in the tables is covered; the terms in the table
-- are needed; and under any names that agree with the tables the commands are those of the log
pub record Inv (e : Enums) (ins : List Tm) (s : State) (log : List Thing) : Type 0 where
  pub ordered : Ordered e log
  pub distinct : Distinct log
  pub tabled : (th : Thing) → Memᴰ th log → Tabled s th
  pub needed : (th : Thing) → Memᴰ th log → Needed e ins th
  pub covered : (th : Thing) → Asked ins th → Tabled s th → Covered e log th
  pub entered : (t : Tm) → Memᴰ t s.terms → NeededTerm ins t
  pub commands : (ν : Names) → Agree log ν (names s) → collect silent s.commands ≡ option_declaration ∷ map (command_of e ν) (reversed log)

pub inv_start : (e : Enums) (ins : List Tm) → Inv e ins start []
unfolding start Tabled Distinct any collect silent option_declaration reversed
inv_start e ins =
    record {
      ordered = log.start;
      distinct = tt;
      tabled = λ th m. absurd (Memᴰ.not-nil m);
      needed = λ th m. absurd (Memᴰ.not-nil m);
      covered = λ th a h. none_covered th h;
      entered = λ t m. absurd (Memᴰ.not-nil m);
      commands = λ ν a. refl;
    }
  where
    none_covered : (th : Thing) → Tabled start th → Covered e [] th
    none_covered (term t) h = absurd h
    none_covered (func f) h = absurd h
    none_covered (type ty) h = absurd h

module _ {e : Enums} {ins : List Tm} {s : State} {log : List Thing} (inv : Inv e ins s log) where
  -- names that agree with later tables agree with the present ones
  agree_older : {s' : State} {ν : Names} → Extends s s' → Agree log ν (names s') → Agree log ν (names s)
  agree_older x a =
      record {
        terms = λ t m. a.terms t m ∙ x.terms t (inv.tabled (term t) m);
        funs = λ f m. a.funs f m ∙ x.funs f (inv.tabled (func f) m);
        types = λ ty m. a.types ty m ∙ x.types ty (inv.tabled (type ty) m);
      }

  -- entries that need no log, and comments
  pub inv_quiet : (s' : State) → Extends s s' → ((th : Thing) → Asked ins th → Tabled s' th → Tabled s th ⊎ Covered e log th)
      → ((t : Tm) → Memᴰ t s'.terms → NeededTerm ins t) → collect silent s'.commands ≡ collect silent s.commands → Inv e ins s' log
  inv_quiet s' x new entered c =
      record {
        ordered = inv.ordered;
        distinct = inv.distinct;
        tabled = λ th m. x.kept th (inv.tabled th m);
        needed = inv.needed;
        covered = λ th a h. go th a (new th a h);
        entered = entered;
        commands = λ ν a. c ∙ inv.commands ν (agree_older x a);
      }
    where
      go : (th : Thing) → Asked ins th → Tabled s th ⊎ Covered e log th → Covered e log th
      go th a (inl h) = inv.covered th a h
      go th a (inr k) = k

  -- a thing that is entered and logged, with its command
  pub inv_logged : (s' : State) (th : Thing) (cs : List Command) → Extends s s'
      → HasParts e log th → T (nameable e th) → (Tabled s th → ⊥) → Needed e ins th
      → Tabled s' th → ((u : Thing) → Asked ins u → Tabled s' u → Tabled s u ⊎ (u ≡ th)) → ((t : Tm) → Memᴰ t s'.terms → NeededTerm ins t) → Covered e (th ∷ log) th
      → s'.commands ≡ s.commands ++ cs → collect silent cs ≡ command_of e (names s') th ∷ []
      → Inv e ins s' (th ∷ log)
  unfolding Distinct reversed
  inv_logged s' th cs x parts able fresh need here new entered cover written spoken =
      record {
        ordered = next inv.ordered parts able;
        distinct = (λ m. fresh (inv.tabled th m), inv.distinct);
        tabled = λ u m. tabled u (Memᴰ.cases_cons m);
        needed = λ u m. needed u (Memᴰ.cases_cons m);
        covered = λ u a h. covers u a (new u a h);
        entered = entered;
        commands = commands;
      }
    where
      tabled : (u : Thing) → (u ≡ th) ⊎ Memᴰ u log → Tabled s' u
      tabled u (inl p) = subst (Tabled s') (sym p) here
      tabled u (inr m) = x.kept u (inv.tabled u m)

      needed : (u : Thing) → (u ≡ th) ⊎ Memᴰ u log → Needed e ins u
      needed u (inl p) = subst (Needed e ins) (sym p) need
      needed u (inr m) = inv.needed u m

      covers : (u : Thing) → Asked ins u → Tabled s u ⊎ (u ≡ th) → Covered e (th ∷ log) u
      covers u a (inl h) = covered_grows e grows_next u (inv.covered u a h)
      covers u a (inr p) = subst (Covered e (th ∷ log)) (sym p) cover

      commands : (ν : Names) → Agree (th ∷ log) ν (names s') → collect silent s'.commands ≡ option_declaration ∷ map (command_of e ν) (reversed log ++ (th ∷ []))
      commands ν a =
          ap (collect silent) written
          ∙ collect_append silent s.commands cs
          ∙ ap₂ (λ (x y : List Command). x ++ y) (inv.commands ν (agree_older x (agree_tail a))) (spoken ∙ ap (λ (c : Command). c ∷ []) (sym (command_agree a e th (parts_grow grows_next e th parts) (Memᴰ.head refl))))
          ∙ ap (λ (l : List Command). option_declaration ∷ l) (sym (map-append (command_of e ν) (reversed log) (th ∷ [])))
