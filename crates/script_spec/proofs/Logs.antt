-- The log of a walk that goes through is a log of what its inputs need, where equal terms that are needed are one tree: what is needed
-- is logged, by recursion on why it is needed; the rest is the invariant and the laws of names. And a walk that stops names a needed term.
-- Assumes nothing.
use Prim.Native.Nat.{ℕ}
use mathlib.Core.Path.{◌≡◌, refl, sym, ap, ap₂, ◌∙◌, subst}
use mathlib.Core.List.{List, [], ◌∷◌, ◌++◌, Memᴰ}
use lib.Dec.{T}
use Rattle.script_spec.specs.Base.{collect}
use Rattle.script_spec.specs.Tree.{nil, Tree, Ty, Fun, Tm, Forest, node, cons, trees, children, Enums, uuf}
use Rattle.script_spec.specs.Command.{Command, assert_that}
use Rattle.script_spec.specs.Spelling.{Names, atom}
use Rattle.script_spec.specs.Walk.{State, went, stopped, start, names, encode_inputs, assertions}
use Rattle.script_spec.specs.Faithful.{Thing, term, func, type, NeededTerm, is_input, is_child, NeededFun, is_applied, NeededType, of_term, of_argument, of_result, is_part, Needed, well_named, Every}
use Rattle.script_spec.proofs.Laws.{collect_append}
use Rattle.script_spec.proofs.Log.{silent, HasType, HasTypes, HasParts, nameable, Ordered, reversed, Logged}
use Rattle.script_spec.proofs.Lists.{mem_reversed, all_members, every_mem, every_weaker}
use Rattle.script_spec.proofs.Steps.{ends_went, ends_stopped}
use Rattle.script_spec.proofs.Grow.{Done, Dones, done_term, ordered_parts}
use Rattle.script_spec.proofs.Invariant.{OneListing, Inv}
use Rattle.script_spec.proofs.Names.{Bare, OnlyOne, name_of_injective, name_of_well_named, unique_names}
use Rattle.script_spec.proofs.TypeLog.{Logs}
use Rattle.script_spec.proofs.NewLog.{Refusal}
use Rattle.script_spec.proofs.TermLog.{walk_logs}

-- what holds of a forest tree by tree holds of each tree
pub forest_mem : {A : Type 0} (P : Tree A → Type 0) (Q : Forest A → Type 0) → ((t : Tree A) (ts : Forest A) → Q (cons t ts) → P t × Q ts)
    → (ts : Forest A) → Q ts → (t : Tree A) → Memᴰ t (trees ts) → P t
unfolding trees
forest_mem {A = A} P Q h nil q t x'' = elim x'' [ ]
forest_mem P Q h (cons u ts) q t (Memᴰ.head e) = subst P (sym e) (h u ts q).0
forest_mem P Q h (cons u ts) q t (Memᴰ.tail m) = forest_mem P Q h ts (h u ts q).1 t m

-- ---- what is needed is logged

module _ {e : Enums} {ins : List Tm} {log : List Thing} (ordered : Ordered e log) (done : Every (Done e log) ins) where
  needed_term : {t : Tm} → NeededTerm ins t → Done e log t
  unfolding Done children
  needed_term {t} (is_input m) = every_mem done m
  needed_term {t} (is_child {u = node a ts} n f m) = forest_mem (Done e log) (Dones e log) (λ v vs d. d) ts ((needed_term n).2 f) t m

  needed_fun : {f : Fun} → NeededFun ins f → Memᴰ (func f) log
  unfolding Done
  needed_fun {f} (is_applied {ty = ty} {ts = ts} n) = (needed_term n).1 f ty ts refl

  needed_type : {ty : Ty} → NeededType ins ty → HasType log ty
  unfolding HasParts HasType children
  needed_type (of_term {t = t} n p) = subst (HasType log) (sym p) (done_term t (needed_term n)).typed
  needed_type (of_argument {id = id} {arg = arg} {out = out} n) = (ordered_parts ordered (func (uuf id arg out)) (needed_fun n)).0
  needed_type (of_result {id = id} {arg = arg} {out = out} n) = (ordered_parts ordered (func (uuf id arg out)) (needed_fun n)).1
  needed_type {ty} (is_part {u = node a ts} n m) = forest_mem (HasType log) (HasTypes log) (λ v vs h. h) ts (needed_type n).0 ty m

  needed_logged : (th : Thing) → Needed e ins th → Memᴰ th log
  unfolding Needed HasType
  needed_logged (term t) n = (done_term t (needed_term n.0)).known n.1
  needed_logged (func f) n = needed_fun n
  needed_logged (type (node a ts)) n = (needed_type n.0).1 n.1

-- ---- the walk

needed_nameable : (e : Enums) (ins : List Tm) (th : Thing) → Needed e ins th → T (nameable e th)
unfolding Needed nameable
needed_nameable e ins (term t) n = n.1
needed_nameable e ins (func f) n = tt
needed_nameable e ins (type ty) n = n.1

-- the extension types that inputs need have no parts
pub record BareTypes (ins : List Tm) : Type 0 where
  pub bare : (ty : Ty) → NeededType ins ty → Bare (type ty)

needed_bare : (e : Enums) (ins : List Tm) → BareTypes ins → (th : Thing) → Needed e ins th → Bare th
unfolding Needed Bare
needed_bare e ins b (term t) n = tt
needed_bare e ins b (func f) n = tt
needed_bare e ins b (type ty) n = b.bare ty n.0

assertions_silent : (e : Enums) (ν : Names) (ts : List Tm) → collect silent (assertions e ν ts) ≡ assertions e ν ts
unfolding collect silent assertions
assertions_silent e ν [] = refl
assertions_silent e ν (t ∷ ts) = ap (λ (cs : List Command). assert_that (atom e ν t) ∷ cs) (assertions_silent e ν ts)

only_one : {e : Enums} {ins : List Tm} {s : State} {log : List Thing} → Inv e ins s log → OneListing ins → (th : Thing) → Needed e ins th → OnlyOne s th
unfolding OnlyOne Needed
only_one inv one (term t) n = λ u m h. one.same t u n.0 (inv.entered u m) h
only_one inv one (func f) n = tt
only_one inv one (type ty) n = tt

pub walk_logged : (e : Enums) (ins : List Tm) (s : State) → OneListing ins → BareTypes ins → encode_inputs e ins start ≡ went s
    → (log : List Thing) × Logged e ins (names s) (s.commands ++ assertions e (names s) ins) log
walk_logged e ins s one bare p = (
  log,
  record {
    ordered = inv.ordered;
    needed = λ th. (needed_logged inv.ordered done th, inv.needed th);
    unlike = unique_names (names s) log inv.distinct (λ a b m k. name_of_injective e s a b (only a m) (only b k) (inv.tabled a m) (inv.tabled b k) (able a m) (able b k) (plain a m) (plain b k));
    lettering = all_members (well_named (names s)) (reversed log) (λ a m. let k = mem_reversed a log m in name_of_well_named e s a (inv.tabled a k) (able a k));
    inputs = every_weaker (λ t d. done_term t d) done;
    commands =
        collect_append silent s.commands (assertions e (names s) ins)
        ∙ ap₂ (λ (x y : List Command). x ++ y) (inv.commands (names s) (record { terms = λ t m. refl; funs = λ f m. refl; types = λ ty m. refl })) (assertions_silent e (names s) ins);
  },
)
  where
    logs : Logs e ins (λ l. Every (Done e l) ins) [] s
    logs = ends_went (walk_logs e ins one) p

    log : List Thing
    log = logs.later

    inv : Inv e ins s log
    inv = logs.inv

    done : Every (Done e log) ins
    done = logs.has

    only : (a : Thing) → Memᴰ a log → OnlyOne s a
    only a m = only_one inv one a (inv.needed a m)

    able : (a : Thing) → Memᴰ a log → T (nameable e a)
    able a m = needed_nameable e ins a (inv.needed a m)

    plain : (a : Thing) → Memᴰ a log → Bare a
    plain a m = needed_bare e ins bare a (inv.needed a m)

-- a walk that stops has a number from 14 to 19, 24 or 25, a needed term, and the position in its text
pub walk_refusal : (e : Enums) (ins : List Tm) (n : ℕ) (t : Tm) (q : ℕ) → OneListing ins → encode_inputs e ins start ≡ stopped n t q → Refusal ins n t q
walk_refusal e ins n t q one p = ends_stopped (walk_logs e ins one) p
