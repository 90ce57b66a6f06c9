-- What a term is as a `Bvnego`: by its own record, the record of its type and that of its argument's type.
-- Assumes nothing.
use Prim.Native.Nat.{ℕ, ◌<◌}
use native.Mathlib.Omega.{arith}
use mathlib.Core.Path.{◌≡◌, refl, sym, ap, ◌∙◌, subst}
use mathlib.Core.Bool.{Bool, true, false}
use mathlib.Core.List.{List, [], ◌∷◌, map}
use mathlib.Core.Option.{some}
use lib.ListN.{length}
use Rattle.script_spec.specs.Base.{Bytes}
use Rattle.script_spec.specs.Tree as tree
use Rattle.script_spec.specs.Tree.{TypeMark, TermMark, node, nil, cons, forest, Bool·, BitVec·, App, Plain, Bvnego, falsehood, type_of, types_of, negation_over, negation_with, negation, Tm, is_falsehood}
use Rattle.script_spec.specs.Fields as fields
use Rattle.script_spec.specs.File.{TermFile, types, funs, terms, type_at, term_at, named_op, named_mark}
use Rattle.script_spec.proofs.Laws.{never}
use Rattle.index.proofs.Later.{below_more}
use Rattle.index.specs.Cells.{cell, type_offset, term_offset, term_type}
use Rattle.index.specs.First.{All, Below, MarkInRange}
use Rattle.index.specs.Meaning.{Index, counted}
use Rattle.index.specs.declared.Sizes.{Sizes}
use Rattle.read_operator.specs.Operators.{op_of}
use Rattle.read_operator.specs.declared.Op.{Op}
use Rattle.index_entry.specs.Types.{ext_type_said, type_said, TypeAt}
use Rattle.index_entry.proofs.TermRows.{term_stands}
use Rattle.index_entry.specs.declared.types.TypeEntry.{TypeEntry}
use Rattle.index_entry.specs.declared.types.TypeEntry.TheVariants as entry
use Rattle.index_entry.specs.Terms.{children_in, names_in, value_of, term_said, TermAt}
use Rattle.index_entry.specs.declared.terms.Children.{Children}
use Rattle.index_entry.specs.declared.terms.TermEntry.{TermEntry}
use Rattle.index_entry.specs.declared.terms.TermEntry.TheVariants as terms-entry
use Rattle.index_entry.proofs.ChildLaws.{length_children}
use Rattle.walk_queries.proofs.Attributes.{type_here}
use Rattle.walk_queries.specs.Negations.{negation_said, IsNego, IsBool, NegationOver, Negates, IsOther, NegationOf}
use Rattle.walk_queries.specs.declared.queries.Negated.{Negated}
use Rattle.walk_queries.specs.declared.queries.Negated.TheVariants as negated
use Rattle.walk_queries.proofs.NegoLaws.{nego, named_op_nego, negation_nego, negation_other, negation_ordinary, not_one_ordinary}

-- ---- types

false_over : (m n : TypeMark) → negation_over n ≡ falsehood → n ≡ m → falsehood ≡ negation_over m
false_over m n h e = sym h ∙ ap negation_over e

module _ {m : TypeMark} {rs : List ℕ} where
  not_bool_said : (r : TypeEntry) → (r ≡ entry.Bool → ⊥) → type_said r ≡ some (fields.type m rs) → m ≡ Bool· → ⊥
  unfolding type_said
  not_bool_said entry.Bool h e q = h refl
  not_bool_said entry.String h e q = never (cc)
  not_bool_said (entry.BitVec n) h e q = never (cc)
  not_bool_said (entry.Option n) h e q = never (cc)
  not_bool_said (entry.Set n) h e q = never (cc)
  not_bool_said (entry.Entity p) h e q = never (cc)
  not_bool_said (entry.Ext x) h e q = never (cc)
  not_bool_said (entry.Record n) h e q = never (cc)
  not_bool_said entry.Unreadable h e q = never (cc)

  not_bits_said : (r : TypeEntry) → ((n : ℕ) → r ≡ entry.BitVec n → ⊥) → type_said r ≡ some (fields.type m rs) → falsehood ≡ negation_over m
  unfolding type_said negation_over
  not_bits_said entry.Bool h e = false_over m Bool· refl (cc)
  not_bits_said entry.String h e = false_over m tree.String· refl (cc)
  not_bits_said (entry.BitVec n) h e = absurd (h n refl)
  not_bits_said (entry.Option n) h e = false_over m tree.Option· refl (cc)
  not_bits_said (entry.Set n) h e = false_over m tree.Set· refl (cc)
  not_bits_said (entry.Entity p) h e = false_over m (tree.Declared (tree.entity p.now)) refl (cc)
  not_bits_said (entry.Ext x) h e = false_over m (tree.Declared (tree.extension (ext_type_said x))) refl (cc)
  not_bits_said (entry.Record c) h e = false_over m (tree.Declared (tree.record_of (names_in c))) refl (cc)
  not_bits_said entry.Unreadable h e = never (cc)

module _ {file : Bytes} {work : List ℕ} {sizes : Sizes} {t : ℕ} {r : TypeEntry} (T : TypeAt file (cell work sizes.rows type_offset t) r) where
  -- a type without parts
  plain_here : (n : TypeMark) → type_said r ≡ some (fields.type n []) → (f : TermFile) → Index file f work sizes → t < length (types f) → type_at f t ≡ node n nil
  unfolding forest
  plain_here n said f I l = type_here T f I.rows l (λ m rs e tree.
      let marked : m ≡ n = cc in
      let none : rs ≡ [] = cc in
      sym tree ∙ (rw (marked, none)))

  pub is_bool : r ≡ entry.Bool → IsBool file work sizes t true
  unfolding type_said
  is_bool e = record { if_so = λ f I l h. plain_here Bool· (rw e) f I l; if_not = λ f I l h. never (cc) }

  pub not_bool : (r ≡ entry.Bool → ⊥) → IsBool file work sizes t false
  not_bool o = record {
    if_so = λ f I l h. never (cc);
    if_not = λ f I l h e. type_here T f I.rows l (λ m rs said tree. let marked : m ≡ Bool· = cc in not_bool_said r o said marked);
  }

  pub over_bits : {n : ℕ} → r ≡ entry.BitVec n → NegationOver file work sizes t (negated.Comparison n)
  unfolding type_said negation_said negation_with negation_over
  over_bits {n} e = record { go = λ f I l. rw (plain_here (BitVec· n) (rw e) f I l) }

  pub over_other : ((n : ℕ) → r ≡ entry.BitVec n → ⊥) → NegationOver file work sizes t negated.Falsehood
  unfolding negation_said negation_with
  over_other o = record { go = λ f I l. type_here T f I.rows l (λ m rs said tree. rw (← tree) (not_bits_said r o said)) }

-- ---- a `Bvnego` over its arguments

module _ {file : Bytes} {work : List ℕ} {sizes : Sizes} {t : ℕ} {c : Children} where
  pub with_not_one : (c.left ≡ 1 → ⊥) → Negates file work sizes t c negated.Ordinary
  unfolding negation_said
  with_not_one h = record {
    go = λ f I l b. sym (negation_ordinary _ _ (not_one_ordinary (term_at f) (children_in c) (λ e. h (sym (length_children c) ∙ e))));
  }

  pub with_other : {b : Bool} → IsBool file work sizes t b → b ≡ false → Negates file work sizes t c negated.Ordinary
  unfolding negation_said
  with_other B h = record { go = λ f I l b. sym (negation_other _ _ (λ e. B.if_not f I l h (cc))) }

  pub with_one : {b : Bool} {n part : ℕ} (d : Children) {q : Negated} → c.left ≡ 1 → IsBool file work sizes t b → b ≡ true → children_in c ≡ n ∷ children_in d → part ≡ cell work sizes.rows term_type n
      → NegationOver file work sizes part q → Negates file work sizes t c q
  unfolding Below All types_of forest
  with_one {b} {n} {part} d {q} one B h splits place N = record {
    go = λ f I l below.
        let only : children_in c ≡ n ∷ [] = splits ∙ ap (λ (rs : List ℕ). n ∷ rs) (no_more (children_in d) (omega (arith, ap length splits, length_children c))) in
        let inside : n < length (terms f) = (subst (λ (rs : List ℕ). Below (length (terms f)) rs) only below).0 in
        let row = I.rows.term_row n inside in
        let typed : type_at f part ≡ type_of (term_at f n) = ap (type_at f) place ∙ row.type_is in
        let bool : App (type_at f t) (Plain Bvnego) ≡ nego = ap (λ ty. App ty (Plain Bvnego)) (B.if_so f I l h) in
        N.go f I (rw place row.type_below) ∙ ap (λ ty. negation_with (cons ty nil)) typed
        ∙ sym (negation_nego _ (forest (map (term_at f) (n ∷ []))) bool) ∙ ap (λ (rs : List ℕ). negation (node (App (type_at f t) (Plain Bvnego)) (forest (map (term_at f) rs)))) (sym only);
  }
    where
      no_more : (rs : List ℕ) → length rs ≡ 0 → rs ≡ []
      no_more [] e = refl
      no_more (m ∷ rs) e = absurd (omega arith)

-- ---- the term with a number

marked : (f : TermFile) (m n : TermMark ℕ ℕ) → n ≡ m → named_mark f m ≡ nego → named_mark f n ≡ nego
marked f m n e q = ap (named_mark f) e ∙ q

module _ (f : TermFile) {m : TermMark ℕ ℕ} {rs : List ℕ} where
  not_app_said : (r : TermEntry) → ((t : ℕ) (op : Op) (c : Children) → r ≡ terms-entry.App t op c → ⊥) → term_said r ≡ some (fields.term m rs) → named_mark f m ≡ nego → ⊥
  unfolding term_said named_mark
  not_app_said (terms-entry.Var p t) o e q = let x = marked f m (tree.Var p.now t) (cc) q in never (cc)
  not_app_said (terms-entry.BoolLit b) o e q = let x = marked f m (tree.BoolLit b) (cc) q in never (cc)
  not_app_said (terms-entry.BitVecLit n v) o e q = let x = marked f m (tree.BitVecLit n v) (cc) q in never (cc)
  not_app_said (terms-entry.StringLit p) o e q = let x = marked f m (tree.StringLit p.now) (cc) q in never (cc)
  not_app_said (terms-entry.Entity t p) o e q = let x = marked f m (tree.Entity t p.now) (cc) q in never (cc)
  not_app_said (terms-entry.ExtLit v) o e q = let x = marked f m (tree.ExtLit (value_of v)) (cc) q in never (cc)
  not_app_said (terms-entry.None t) o e q = let x = marked f m (tree.None t) (cc) q in never (cc)
  not_app_said (terms-entry.Some n) o e q = let x = marked f m tree.Some (cc) q in never (cc)
  not_app_said (terms-entry.Set t c) o e q = let x = marked f m (tree.Set t) (cc) q in never (cc)
  not_app_said (terms-entry.Record c) o e q = let x = marked f m (tree.Record (names_in c)) (cc) q in never (cc)
  not_app_said (terms-entry.App t op c) o e q = o t op c refl
  not_app_said terms-entry.Unreadable o e q = never (cc)

module _ {file : Bytes} {work : List ℕ} {sizes : Sizes} {n o : ℕ} {r : TermEntry} (place : o ≡ cell work sizes.rows term_offset n) (T : TermAt file o r) where
  term_here : {A : Type 0} (f : TermFile) → Index file f work sizes → n < length (terms f)
      → ((m : TermMark ℕ ℕ) (rs : List ℕ) → term_said r ≡ some (fields.term m rs) → MarkInRange (counted (length (types f)) (length (funs f)) n) m → Below n rs
      → node (named_mark f m) (forest (map (term_at f) rs)) ≡ term_at f n → A) → A
  unfolding counted
  term_here f I l next = term_stands (I.rows.term_row n l).stands (λ m rs reads marks below tree. next m rs (T.go m rs (rw place reads)) marks below tree)

  pub of_other : ((t : ℕ) (op : Op) (c : Children) → r ≡ terms-entry.App t op c → ⊥) → NegationOf file work sizes n negated.Ordinary
  unfolding negation_said
  of_other k = record { go = λ f I l. term_here f I l (λ m rs said marks below tree. rw (← tree) (sym (negation_other _ _ (not_app_said f r k said)))) }

  pub of_ordinary : {t : ℕ} {op : Op} {c : Children} {b : Bool} → r ≡ terms-entry.App t op c → IsNego op b → b ≡ false → NegationOf file work sizes n negated.Ordinary
  unfolding negation_said term_said named_mark
  of_ordinary {t} {op} {c} e G h = record {
    go = λ f I l. term_here f I l (λ m rs said marks below tree.
        let app : term_said (terms-entry.App t op c) ≡ some (fields.term m rs) = subst (λ (x : TermEntry). term_said x ≡ some (fields.term m rs)) e said in
        let mark_is : App t (op_of op) ≡ m = cc in
        rw (← tree) (sym (negation_other _ _ (λ q.
        let x : App (type_at f t) (named_op f (op_of op)) ≡ nego = ap (named_mark f) mark_is ∙ q in
        G.if_not h (named_op_nego f _ (cc))))));
  }

  pub of_nego : {t : ℕ} {op : Op} {c : Children} {b : Bool} {q : Negated} → r ≡ terms-entry.App t op c → IsNego op b → b ≡ true → Negates file work sizes t c q
      → NegationOf file work sizes n q
  unfolding term_said named_mark named_op MarkInRange counted
  of_nego {t} {op} {c} {q = q} e G h N = record {
    go = λ f I l. term_here f I l (λ m rs said marks below tree.
        let app : term_said (terms-entry.App t op c) ≡ some (fields.term m rs) = subst (λ (x : TermEntry). term_said x ≡ some (fields.term m rs)) e said in
        let nego-is : op_of op ≡ Plain Bvnego = G.if_so h in
        let mark_is : m ≡ App t (Plain Bvnego) = cc in
        let children-are : rs ≡ children_in c = cc in
        let inside = subst (λ (m : TermMark ℕ ℕ). MarkInRange (counted (length (types f)) (length (funs f)) n) m) mark_is marks in
        N.go f I inside.0 (subst (λ (rs : List ℕ). Below (length (terms f)) rs) children-are (below_more _ _ (omega arith) rs below))
        ∙ (rw (← children-are, ← tree, mark_is)));
  }

-- ---- a term that is told by its mark and its code

-- a mark that is that of a `Bvnego` by its names
named_nego : {P : Type 0} (f : TermFile) (m : TermMark ℕ ℕ) → named_mark f m ≡ nego → ((t : ℕ) → m ≡ App t (Plain Bvnego) → P) → P
unfolding named_mark
named_nego f (tree.Var id t) q next = never (cc)
named_nego f (tree.BoolLit b) q next = never (cc)
named_nego f (tree.BitVecLit n v) q next = never (cc)
named_nego f (tree.StringLit s) q next = never (cc)
named_nego f (tree.Entity t id) q next = never (cc)
named_nego f (tree.ExtLit v) q next = never (cc)
named_nego f (tree.None t) q next = never (cc)
named_nego f tree.Some q next = never (cc)
named_nego f (tree.Set t) q next = never (cc)
named_nego f (tree.Record ns) q next = never (cc)
named_nego f (App t o) q next = next t (ap (App t) (named_op_nego f o (cc)))

pub of_unlike : {file : Bytes} {work : List ℕ} {sizes : Sizes} {n o : ℕ} {b : Bool} → o ≡ cell work sizes.rows term_offset n → IsOther file o b → b ≡ true → NegationOf file work sizes n negated.Ordinary
unfolding negation_said
of_unlike place O h = record {
  go = λ f I l. term_stands (I.rows.term_row _ l).stands (λ m rs reads marks below tree.
      rw (← tree) (sym (negation_other _ _ (λ q. named_nego f m q (λ t e. O.go h t rs (rw (place, ← e) reads))))));
}

-- a negation that is `false` is the `false` of a `Bvnego`
pub falsehood_is : (t : Tm) → negation t ≡ falsehood → is_falsehood t ≡ true
unfolding is_falsehood
falsehood_is t h = rw (h, is_falsehood)
