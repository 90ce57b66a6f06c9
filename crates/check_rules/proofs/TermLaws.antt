-- Rules 9 and 10 of a term, by its kind, the lists of its body and its operator's code.
-- Assumes nothing.
use mathlib.Core.Path.{◌≡◌, refl, sym, ap, ◌∙◌, subst}
use Prim.Native.Nat.{ℕ, ◌<◌}
use native.Mathlib.Omega.{arith}
use mathlib.Core.Bool.{Bool, true, false, not, ◌&&◌}
use mathlib.Core.List.{List, [], ◌∷◌, map}
use mathlib.Core.Option.{none, some}
use types.Run.{OneOf, miss}
use borrow.Enum.Refused.{Among, opened}
use mathlib.Core.Logic.{◌⊎◌, inl, inr}
use denote.Ref.{Bor}
use denote.Enum.Declared.{tag_of}
use lib.Dec.{eqb}
use borrow.Author.Tests.{eq-eqb, ne_eqb}
use lib.ListN.{get_or}
use Rattle.script_spec.specs.Base.{Bytes, ascending, empty}
use Rattle.script_spec.specs.Tree.{TermMark, Var, BoolLit, BitVecLit, StringLit, Entity, ExtLit, None, Some, Set, Record, App, Op}
use Rattle.script_spec.specs.Fields.{term, u32}
use Rattle.script_spec.specs.File.{TermFile, broken}
use Rattle.script_spec.proofs.Computes
use Rattle.script_spec.proofs.Laws.{never}
use Rattle.index.specs.Cells.{cell, term_first}
use Rattle.index.specs.Standing.{entry_at, mark_at, body_at}
use Rattle.index.specs.Rules.{different, greatest, list_rules_by}
use Rattle.check_rules.specs.Decided.{DecidesList}
use Rattle.check_rules.specs.Tests.{item_text, different_terms}
use Rattle.check_rules.specs.Terms.{broken_rule, TermRule}
use Rattle.std.specs.Prelude.{Result, Ok, Err, Some as Just}
use Rattle.refusal.specs.declared.Refusal.{Refusal}
use Rattle.refusal.specs.declared.Refusal.TheVariants.{NotAscending, NothingGiven}
use Rattle.refusal.specs.Numbers.{number}
use Rattle.index.specs.declared.RecordsMut.{RecordsMut}
use Rattle.read_field.specs.declared.Cursor.{Cursor}
use Rattle.read_record.specs.Marks.{Marked}
use Rattle.read_record.specs.declared.mark.Kind.{Kind}
use Rattle.read_record.specs.declared.mark.Kind.TheVariants as kind
use Rattle.read_record.specs.contracts.mark.Kind.{the_type}
use Rattle.check_rules.proofs.EntryKinds.{term_kind, kind_of, entry_kind}
use Rattle.check_rules.proofs.Shapes.{record_read, set_read}
use Rattle.check_rules.proofs.Operators.{code_needs}

-- ---- the greatest depth

-- no depth where there are no references, and a depth where there are some
greatest_none : (depth_of : ℕ → ℕ) (rs : List ℕ) → greatest (map depth_of rs) ≡ 0 → ((n : ℕ) → 0 < depth_of n) → empty rs ≡ true
unfolding greatest empty
greatest_none depth_of [] e h = refl
greatest_none depth_of (n ∷ rs) e h = absurd (omega (arith, h n))

greatest_some : (depth_of : ℕ → ℕ) (rs : List ℕ) → (greatest (map depth_of rs) ≡ 0 → ⊥) → empty rs ≡ false
unfolding greatest empty
greatest_some depth_of [] e = absurd (e refl)
greatest_some depth_of (n ∷ rs) e = refl

-- ---- by the kind

-- the rule that is broken is what r says
abbrev Tells : TermFile → (ℕ → ℕ) → TermMark ℕ ℕ → List ℕ → Result (Unit {0}) Refusal → Type 0
Tells f φ m rs r = broken_rule r ≡ broken (list_rules_by f φ m rs)

-- the places of the kinds without such a rule, all but XC, XR and XA
abbrev other_tags : List ℕ
other_tags = 0 ∷ 1 ∷ 2 ∷ 3 ∷ 4 ∷ 5 ∷ 6 ∷ 7 ∷ 8 ∷ 9 ∷ 10 ∷ 11 ∷ 12 ∷ 13 ∷ 14 ∷ 15 ∷ 16 ∷ 17 ∷ 21 ∷ []

module _ (f : TermFile) (φ : ℕ → ℕ) where
  -- no rule
  other_kind : (m : TermMark ℕ ℕ) (rs : List ℕ) → OneOf other_tags (tag_of the_type (term_kind m)) → Tells f φ m rs (Ok tt)
  unfolding term_kind Computes.file list_rules_by
  other_kind (Var id n) rs h = refl
  other_kind (BoolLit b) rs h = refl
  other_kind (BitVecLit n v) rs h = refl
  other_kind (StringLit s) rs h = refl
  other_kind (Entity n id) rs h = refl
  other_kind (ExtLit v) rs h = refl
  other_kind (None n) rs h = refl
  other_kind Some rs h = refl
  other_kind (Set n) rs h = absurd (miss other_tags 18 tt h)
  other_kind (Record names) rs h = absurd (miss other_tags 19 tt h)
  other_kind (App n op) rs h = absurd (miss other_tags 20 tt h)

-- ---- each rule

-- one rule, kept or broken
rule_kept : (n : ℕ) (b : Bool) → b ≡ true → none ≡ broken ((n, b) ∷ [])
unfolding broken
rule_kept n b e = rw (e, broken)

rule_broken : (e : Refusal) (b : Bool) → b ≡ false → some (number e) ≡ broken ((number e, b) ∷ [])
unfolding broken
rule_broken e b q = rw (q, broken)

-- where there are arguments none is lacking
none_lacking : (b : Bool) → not (not b && false) ≡ true
none_lacking true = refl
none_lacking false = refl

-- what a kind says of a term's mark
pub record Shown (m : TermMark ℕ ℕ) (k : Kind) : Type 0 where
  pub set : k ≡ kind.XC → ((n : ℕ) × (m ≡ Set n))
  pub attributes : k ≡ kind.XR → ((names : List Bytes) × (m ≡ Record names))
  pub application : k ≡ kind.XA → ((n : ℕ) × (op : Op ℕ) × (m ≡ App n op))

pub shown : (m : TermMark ℕ ℕ) → Shown m (term_kind m)
unfolding term_kind
shown (Var id n) = record { set = λ q. never (cc); attributes = λ q. never (cc); application = λ q. never (cc) }
shown (BoolLit b) = record { set = λ q. never (cc); attributes = λ q. never (cc); application = λ q. never (cc) }
shown (BitVecLit n v) = record { set = λ q. never (cc); attributes = λ q. never (cc); application = λ q. never (cc) }
shown (StringLit s) = record { set = λ q. never (cc); attributes = λ q. never (cc); application = λ q. never (cc) }
shown (Entity n id) = record { set = λ q. never (cc); attributes = λ q. never (cc); application = λ q. never (cc) }
shown (ExtLit v) = record { set = λ q. never (cc); attributes = λ q. never (cc); application = λ q. never (cc) }
shown (None n) = record { set = λ q. never (cc); attributes = λ q. never (cc); application = λ q. never (cc) }
shown Some = record { set = λ q. never (cc); attributes = λ q. never (cc); application = λ q. never (cc) }
shown (Set n) = record { set = λ q. (n, refl); attributes = λ q. never (cc); application = λ q. never (cc) }
shown (Record names) = record { set = λ q. never (cc); attributes = λ q. (names, refl); application = λ q. never (cc) }
shown (App n op) = record { set = λ q. never (cc); attributes = λ q. never (cc); application = λ q. (n, op, refl) }

-- a term at an offset, whose kind is known
module _ (v : RecordsMut) (o depth : ℕ) {l : Kind} (marked : Marked (mark_at v.file.now o) (Just l)) where
  kind_of_entry : {m : TermMark ℕ ℕ} {rs : List ℕ} → entry_at v.file.now o ≡ some (term m rs) → l ≡ term_kind m
  unfolding kind_of
  kind_of_entry e = entry_kind v.file.now o marked e

  pub no_rule : Among other_tags (tag_of the_type l) → TermRule v o depth (Ok tt)
  no_rule h = record { go = λ f m rs δ p g e. other_kind f (cell v.work.now v.sizes.rows term_first) m rs (subst (λ (x : Kind). OneOf other_tags (tag_of the_type x)) (kind_of_entry e) (opened h)) }

  module _ (body : Bor Bytes) {b : Bool} (is : body.now ≡ body_at v.file.now o) where
    set_decided : l ≡ kind.XC → DecidesList u32 (different_terms v.work.now v.sizes.rows) body.now 4 b → (f : TermFile) (m : TermMark ℕ ℕ) (rs : List ℕ) → entry_at v.file.now o ≡ some (term m rs) → (r : Result (Unit {0}) Refusal) → broken_rule r ≡ broken ((9, b) ∷ []) → Tells f (cell v.work.now v.sizes.rows term_first) m rs r
    unfolding entry_at different_terms list_rules_by
    set_decided c D f m rs e r t =
        let x = (shown m).set (sym (kind_of_entry e) ∙ c) in
        let e' : entry_at v.file.now o ≡ some (term (Set x.0) rs) = e ∙ ap (λ (y : TermMark ℕ ℕ). some (term y rs)) x.1 in
        let d : b ≡ different (map (cell v.work.now v.sizes.rows term_first) rs) = D.go rs [] (rw is (set_read (mark_at v.file.now o) (body_at v.file.now o) e')) in
        rw (x.1, ← d) t

    record_decided : l ≡ kind.XR → DecidesList (item_text true) ascending body.now 0 b → (f : TermFile) (m : TermMark ℕ ℕ) (rs : List ℕ) → entry_at v.file.now o ≡ some (term m rs) → (r : Result (Unit {0}) Refusal) → broken_rule r ≡ broken ((9, b) ∷ []) → Tells f (cell v.work.now v.sizes.rows term_first) m rs r
    unfolding entry_at item_text list_rules_by
    record_decided c D f m rs e r t =
        let x = (shown m).attributes (sym (kind_of_entry e) ∙ c) in
        let e' : entry_at v.file.now o ≡ some (term (Record x.0) rs) = e ∙ ap (λ (y : TermMark ℕ ℕ). some (term y rs)) x.1 in
        let d : b ≡ ascending x.0 = D.go x.0 [] (rw is (record_read (mark_at v.file.now o) (body_at v.file.now o) e')) in
        rw (x.1, ← d) t

    pub set_kept : l ≡ kind.XC → DecidesList u32 (different_terms v.work.now v.sizes.rows) body.now 4 b → b ≡ true → TermRule v o depth (Ok tt)
    set_kept c D q = record { go = λ f m rs δ h g e. set_decided c D f m rs e (Ok tt) (rule_kept 9 b q) }

    pub set_broken : l ≡ kind.XC → DecidesList u32 (different_terms v.work.now v.sizes.rows) body.now 4 b → b ≡ false → TermRule v o depth (Err NotAscending)
    unfolding number
    set_broken c D q = record { go = λ f m rs δ h g e. set_decided c D f m rs e (Err NotAscending) (rule_broken NotAscending b q) }

    module _ {c : Cursor} (starts : (c.body ≡ body) × (c.at ≡ 0)) where
      at_start : DecidesList (item_text true) ascending c.body.now c.at b → DecidesList (item_text true) ascending body.now 0 b
      at_start D = rw (ap (λ (s : Bor Bytes). s.now) starts.0, starts.1) at D

      pub record_kept : l ≡ kind.XR → DecidesList (item_text true) ascending c.body.now c.at b → b ≡ true → TermRule v o depth (Ok tt)
      record_kept c D q = record { go = λ f m rs δ h g e. record_decided c (at_start D) f m rs e (Ok tt) (rule_kept 9 b q) }

      pub record_broken : l ≡ kind.XR → DecidesList (item_text true) ascending c.body.now c.at b → b ≡ false → TermRule v o depth (Err NotAscending)
      unfolding number
      record_broken c D q = record { go = λ f m rs δ h g e. record_decided c (at_start D) f m rs e (Err NotAscending) (rule_broken NotAscending b q) }

  -- rule 10 of an application, by what its code and its arguments say
  app_decided : l ≡ kind.XA → (f : TermFile) (m : TermMark ℕ ℕ) (rs : List ℕ) → entry_at v.file.now o ≡ some (term m rs) → (u : Bool) → empty rs ≡ u → (r : Result (Unit {0}) Refusal) → broken_rule r ≡ broken ((10, not (not (eqb (get_or (body_at v.file.now o) 4 0) 26) && u)) ∷ []) → Tells f (cell v.work.now v.sizes.rows term_first) m rs r
  unfolding entry_at list_rules_by
  app_decided c f m rs e u ev r t =
      let x = (shown m).application (sym (kind_of_entry e) ∙ c) in
      let e' : entry_at v.file.now o ≡ some (term (App x.0 x.1) rs) = e ∙ ap (λ (y : TermMark ℕ ℕ). some (term y rs)) x.2 in
      rw (x.2, code_needs f (mark_at v.file.now o) (body_at v.file.now o) e', ev) t

  app_arguments : l ≡ kind.XA → (depth ≡ 0 → ⊥) → TermRule v o depth (Ok tt)
  app_arguments c d = record { go = λ f m rs δ h g e. app_decided c f m rs e false (greatest_some δ rs (λ z. d (g ∙ z))) (Ok tt) (rule_kept 10 _ (none_lacking (eqb (get_or (body_at v.file.now o) 4 0) 26))) }

  app_get : l ≡ kind.XA → get_or (body_at v.file.now o) 4 0 ≡ 26 → TermRule v o depth (Ok tt)
  app_get c z = record { go = λ f m rs δ h g e. app_decided c f m rs e (empty rs) refl (Ok tt) (rule_kept 10 _ (rw (eq-eqb (get_or (body_at v.file.now o) 4 0) 26 z))) }

  module _ (body : Bor Bytes) (is : body.now ≡ body_at v.file.now o) where
    code : get_or body.now 4 0 ≡ get_or (body_at v.file.now o) 4 0
    code = ap (λ (s : Bytes). get_or s 4 0) is

    pub app_kept : l ≡ kind.XA → (depth ≡ 0 → ⊥) ⊎ get_or body.now 4 0 ≡ 26 → TermRule v o depth (Ok tt)
    app_kept c (inl d) = app_arguments c d
    app_kept c (inr z) = app_get c (sym code ∙ z)

    pub app_broken : {n : ℕ} → l ≡ kind.XA → depth ≡ 0 → n ≡ get_or body.now 4 0 → (n ≡ 26 → ⊥) → TermRule v o depth (Err NothingGiven)
    unfolding number
    app_broken c d q z = record { go = λ f m rs δ h g e. app_decided c f m rs e true (greatest_none δ rs (sym g ∙ d) h) (Err NothingGiven) (rule_broken NothingGiven _ (rw (ne_eqb (get_or (body_at v.file.now o) 4 0) 26 (λ p. z (q ∙ code ∙ p))))) }
