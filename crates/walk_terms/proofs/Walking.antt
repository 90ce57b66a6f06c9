-- The walk over a term and over its children: what has a name is left; the children that are left, after those that were encoded,
-- make all. A term is still new after its type and its children, which enter no term as deep.
-- Assumes nothing.
use Prim.Native.Nat.{ℕ, zero, suc, ◌<◌, ◌≤◌}
use mathlib.Core.Path.{◌≡◌, refl, sym, ap, ◌∙◌}
use mathlib.Core.Bool.{Bool, true, false, not}
use mathlib.Core.List.{List, [], ◌∷◌}
use native.Mathlib.Omega.{arith}
use lib.Dec.{eqb}
use lib.ListN.{length}
use borrow.Author.Tests.{eq-eqb, ne_eqb}
use Rattle.std.specs.Prelude.{Result, Ok, Err}
use Rattle.std.specs.Prelude as std
use Rattle.std.specs.Option as option
use Rattle.script_spec.specs.Base.{any}
use Rattle.script_spec.specs.Tree.{Tm, Ty, Enums, node, forest, type_of, is_falsehood, eq_tm}
use Rattle.script_spec.specs.File.{TermFile, terms, members, type_at, term_at}
use Rattle.script_spec.specs.Walk.{State, went, ◌>>◌, unless, encode_type, encode_new, encode_term, encode_terms}
use Rattle.script_spec.specs.Walk as walk
use Rattle.script_spec.proofs.Laws.{never}
use Rattle.script_spec.proofs.Steps.{ends_went}
use Rattle.script_spec.proofs.EnteredTerms.{New, parts_new}
use Rattle.refusal.specs.Numbers.{option_of}
use Rattle.index.specs.Cells.{cell, term_first, term_type}
use Rattle.index.specs.First.{All, Below}
use Rattle.index.specs.declared.Records.{Records}
use Rattle.walk_names.specs.Naming.{term_names, name_at, Numbers, place_of}
use Rattle.walk_names.specs.Progress.{memory, rows, Indexed, Advances, Passes}
use Rattle.walk_names.specs.declared.walk.Walk.{Walk}
use Rattle.walk_names.specs.declared.walk.Stopped.{Stopped}
use Rattle.walk_names.proofs.Names.{name_at_term}
use Rattle.walk_names.proofs.Tables.{table_known}
use Rattle.walk_names.proofs.Steps.{then_went, unless_known, unless_new}
use Rattle.walk_names.proofs.Advancing.{advances_by, advances_passed, advances_then, advances_stays}
use Rattle.index_entry.specs.Terms.{children_in}
use Rattle.index_entry.specs.declared.terms.Children.{Children}
use Rattle.walk_types.specs.Types.{type_ready, type_walk, Settled}
use Rattle.walk_new.specs.Steps.{term_ready, NewAt, new_walk}
use Rattle.walk_terms.specs.Terms.{term_walk, own_type_walk, below, children_walk, terms_walk, ToEncode, EncodesUnnamed}

-- ---- one term

-- a term that is in the table
term_left : (e : Enums) (u : Tm) (S : State) → any (eq_tm u) S.terms ≡ true → encode_term e u S ≡ went S
unfolding encode_term
term_left e (node m ts) S h = unless_known (λ s. any (eq_tm (node m ts)) s.terms) _ S h

-- a term's children, unless it is the `false` of a `Bvnego`
abbrev parts : Enums → Tm → walk.Walk
parts e u = unless (λ s. is_falsehood u) (encode_terms e (below u))

-- a term that is not in the table: its type, its children, and then the term itself
term_new : (e : Enums) (u : Tm) (S : State) → New u S → encode_term e u S ≡ ◌>>◌ (encode_type e (type_of u)) (◌>>◌ (parts e u) (encode_new e u)) S
unfolding encode_term below
term_new e (node m ts) S h = unless_new (λ s. any (eq_tm (node m ts)) s.terms) _ S h

-- it is still not in the table before it is entered
term_still_new : (e : Enums) (u : Tm) (S S' : State) → New u S → ◌>>◌ (encode_type e (type_of u)) (parts e u) S ≡ went S' → New u S'
unfolding below
term_still_new e (node m ts) S S' h q = ends_went (parts_new e m ts S h) q

module _ {f : TermFile} (v : Walk) {S : State} (I : Indexed f v) (N : Numbers f (memory v) (rows v) S) (n : ℕ) (l : n < length (terms f)) where
  -- a term is in the table where it has a name
  known_by : any (eq_tm (term_at f n)) S.terms ≡ not (eqb (name_at (memory v) (rows v) term_first term_names n) 0)
  known_by = table_known N.term_table n l ∙ ap (λ (m : ℕ). not (eqb m 0)) (sym (name_at_term I.rows n l))

  known : (name_at (memory v) (rows v) term_first term_names n ≡ 0 → ⊥) → any (eq_tm (term_at f n)) S.terms ≡ true
  known h = known_by ∙ ap not (ne_eqb (name_at (memory v) (rows v) term_first term_names n) 0 h)

  unknown : name_at (memory v) (rows v) term_first term_names n ≡ 0 → New (term_at f n) S
  unknown h = known_by ∙ ap not (eq-eqb (name_at (memory v) (rows v) term_first term_names n) 0 h)

-- a term that has a name is left
pub leaves_term : (n : ℕ) {v : Walk} → (name_at (memory v) (rows v) term_first term_names n ≡ 0 → ⊥) → Advances (term_ready n) (term_walk n) v v (Ok tt)
unfolding term_ready term_walk
leaves_term n {v} h = advances_passed (λ f limit o S I r W. term_left (members f) (term_at f n) S (known v I W.numbers n r h))

-- a term that is new after its children
pub record NewAfter (n : ℕ) (f : TermFile) (S : State) : Type 0 where
  pub below : n < length (terms f)
  pub new : (S' : State) → children_walk n f S ≡ went S' → New (term_at f n) S'

module _ {n : ℕ} {v w : Walk} where
  -- its children, and then the term itself
  pub after_children : {u : Walk} {x : Result (Unit {0}) Stopped} → Advances (term_ready n) (children_walk n) v u (Ok tt) → Advances (NewAt n) (new_walk n) u w x → Advances (NewAfter n) (λ f. ◌>>◌ (children_walk n f) (new_walk n f)) v w x
  unfolding term_ready
  after_children B D = advances_then (children_walk n) (new_walk n) (advances_by (λ f S I r. (r.below, refl)) B) D (λ f S S' I r e. record { below = r.below; new = r.new S' e })

  -- a child that stops
  pub children_stop : {e : Stopped} → Advances (term_ready n) (children_walk n) v w (Err e) → Advances (NewAfter n) (λ f. ◌>>◌ (children_walk n f) (new_walk n f)) v w (Err e)
  unfolding term_ready
  children_stop B = advances_stays (children_walk n) (new_walk n) (advances_by (λ f S I r. (r.below, refl)) B)

  -- a term that has no name, by its type, its children and the term itself
  by_parts : {x : Result (Unit {0}) Stopped} → Advances (NewAt n) (λ f. ◌>>◌ (own_type_walk n f) (◌>>◌ (children_walk n f) (new_walk n f))) v w x → EncodesUnnamed n v w x
  unfolding term_ready term_walk own_type_walk children_walk new_walk
  by_parts A = record {
    go = λ h. record {
      remains = A.remains;
      go = λ f limit o S I r W.
          let new = unknown v I W.numbers n r h in
          rw (term_new (members f) (term_at f n) S new) (A.go f limit o S I (record { below = r; new = new }) W);
    };
  }

  pub after_type : {u : Walk} {x : Result (Unit {0}) Stopped} → Passes (term_ready n) (own_type_walk n) v u → Advances (NewAfter n) (λ f. ◌>>◌ (children_walk n f) (new_walk n f)) u w x → EncodesUnnamed n v w x
  unfolding term_ready own_type_walk children_walk
  after_type A B =
      by_parts (advances_then (own_type_walk n) (λ f. ◌>>◌ (children_walk n f) (new_walk n f)) (advances_by (λ f S I r. (r.below, refl)) A) B
      (λ f S S' I r e. record { below = r.below; new = λ S'' q. term_still_new (members f) (term_at f n) S S'' r.new (then_went (own_type_walk n f) (children_walk n f) S S' e ∙ q) }))

-- ---- names

-- a name that is read, and none
pub has_name : (o : std.Option ℕ) (m : ℕ) → option_of o ≡ place_of m → option.is_some o ≡ true → m ≡ 0 → ⊥
unfolding place_of
has_name (std.Some i) m e h z = never (cc (rw z at e))
has_name std.None m e h z = never cc

pub has_none : (o : std.Option ℕ) (m : ℕ) → option_of o ≡ place_of m → option.is_some o ≡ false → m ≡ 0
unfolding place_of
has_none (std.Some i) m e h = never cc
has_none std.None zero e h = refl
has_none std.None (suc m) e h = never cc

-- ---- the type

-- a settled type is left
pub leaves_settled : {records : Records} (t : ℕ) {b : Bool} {v : Walk} → records.file.now ≡ v.records.now.file.now → records.work.now ≡ memory v → records.sizes ≡ v.records.now.sizes → Settled records t b → b ≡ true → Passes (type_ready t) (type_walk t) v v
unfolding type_ready
leaves_settled t a e g S h = advances_passed (λ f limit o T I r W. S.go h f T (rw (a, e, g) I) (rw (e, g) W.numbers) r)

-- a term's type, by its number
pub encodes_own_type : (n : ℕ) {t : ℕ} {v w : Walk} → t ≡ cell (memory v) (rows v) term_type n → Passes (type_ready t) (type_walk t) v w → Passes (term_ready n) (own_type_walk n) v w
unfolding term_ready own_type_walk type_ready type_walk
encodes_own_type n is A =
    advances_by (λ f S I r.
    let row = I.rows.term_row n r in
    (rw is row.type_below, ap (λ (ty : Ty). encode_type (members f) ty S) (sym (ap (type_at f) is ∙ row.type_is)))) A

-- ---- the children

-- terms with these numbers come before the term with number n, which is above them
pub record TermsReady (n : ℕ) (rs : List ℕ) (f : TermFile) (S : State) : Type 0 where
  pub inside : n < length (terms f)
  pub lower : Below n rs

-- encoding the terms `rest` from v makes encoding the children of the term with number n from u
pub record TermsLeft (n : ℕ) (u v : Walk) (rest : List ℕ) : Type 0 where
  pub go : (w : Walk) (x : Result (Unit {0}) Stopped) → Advances (TermsReady n rest) (terms_walk rest) v w x → Advances (term_ready n) (children_walk n) u w x

pub terms_start : {n : ℕ} {c : Children} {v : Walk} → ToEncode v n c → TermsLeft n v v (children_in c)
unfolding term_ready
terms_start C = record { go = λ w x A. advances_by (λ f S I r. let are = C.go f I r in (record { inside = r; lower = are.lower }, are.walks S)) A }

module _ {n : ℕ} {u v : Walk} {rest : List ℕ} (L : TermsLeft n u v rest) where
  module _ {r : ℕ} {rs : List ℕ} (e : rest ≡ r ∷ rs) where
    -- one child more
    first : {w : Walk} {x : Result (Unit {0}) Stopped} → r < n → Advances (term_ready r) (term_walk r) v w x → Advances (TermsReady n (r ∷ rs)) (term_walk r) v w x
    unfolding term_ready
    first l A = advances_by (λ f S I y. let i = y.inside in (omega arith, refl)) A

    pub terms_on : {w : Walk} → r < n → Advances (term_ready r) (term_walk r) v w (Ok tt) → TermsLeft n u w rs
    unfolding term_walk terms_walk encode_terms forest Below All
    terms_on l A = record {
      go = λ w x B. L.go w x (rw e (advances_then (term_walk r) (terms_walk rs) (first l A) B (λ f S S' I y q. record { inside = y.inside; lower = y.lower.1 })));
    }

    -- one that stops
    pub terms_stop : {w : Walk} {s : Stopped} → r < n → Advances (term_ready r) (term_walk r) v w (Err s) → Advances (term_ready n) (children_walk n) u w (Err s)
    unfolding term_walk terms_walk encode_terms forest
    terms_stop l A = L.go _ _ (rw e (advances_stays (term_walk r) (terms_walk rs) (first l A)))

    -- a child that has no lower number does not occur
    pub terms_never : n ≤ r → Advances (term_ready n) (children_walk n) u v (Ok tt)
    unfolding Below All
    terms_never h = L.go _ _ (rw e (advances_passed {ready = TermsReady n (r ∷ rs)} {step = terms_walk (r ∷ rs)} (λ f limit o S I y W. absurd (let l = y.lower.0 in omega arith))))

  -- none is left
  pub terms_end : rest ≡ [] → Advances (term_ready n) (children_walk n) u v (Ok tt)
  unfolding terms_walk encode_terms forest
  terms_end e = L.go _ _ (rw e (advances_passed {ready = TermsReady n []} {step = terms_walk []} (λ f limit o S I y W. refl)))
