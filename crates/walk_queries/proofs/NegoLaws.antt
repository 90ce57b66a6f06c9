-- `Bvnego` among the operators, and what a term with this operator or another one is.
-- Assumes nothing.
use Prim.Native.Nat.{ℕ}
use mathlib.Core.Path.{◌≡◌, refl, ap}
use mathlib.Core.Bool.{true, false}
use mathlib.Core.List.{List, [], ◌∷◌, map}
use lib.ListN.{length}
use Rattle.script_spec.specs.Base.{is_yes}
use Rattle.script_spec.specs.Tree as tree
use Rattle.script_spec.specs.Tree.{Ty, Tm, Mark, TypeMark, Forest, node, nil, cons, forest, Bool·, App, Plain, Bvnego, Negation, ordinary, type_of, types_of, mark_dec, negation_with, negation}
use Rattle.script_spec.specs.File.{TermFile, named_op}
use Rattle.script_spec.proofs.Laws.{never}
use Rattle.read_operator.specs.Operators.{op_of}
use Rattle.read_operator.specs.declared.Op.{Op}
use Rattle.read_operator.specs.declared.Op.TheVariants as op
use Rattle.walk_queries.specs.Negations.{IsNego}

-- ---- operators

other_op : (o : Op) → (o ≡ op.Bvnego → ⊥) → op_of o ≡ Plain Bvnego → ⊥
unfolding op_of
other_op op.And h e = never (cc)
other_op op.Bvadd h e = never (cc)
other_op op.Bvlshr h e = never (cc)
other_op op.Bvmul h e = never (cc)
other_op op.Bvneg h e = never (cc)
other_op op.Bvnego h e = h refl
other_op op.Bvsaddo h e = never (cc)
other_op op.Bvsdiv h e = never (cc)
other_op op.Bvshl h e = never (cc)
other_op op.Bvsle h e = never (cc)
other_op op.Bvslt h e = never (cc)
other_op op.Bvsmod h e = never (cc)
other_op op.Bvsmulo h e = never (cc)
other_op op.Bvsrem h e = never (cc)
other_op op.Bvssubo h e = never (cc)
other_op op.Bvsub h e = never (cc)
other_op op.Bvudiv h e = never (cc)
other_op op.Bvule h e = never (cc)
other_op op.Bvult h e = never (cc)
other_op op.Bvurem h e = never (cc)
other_op op.Eq h e = never (cc)
other_op (op.Ext x) h e = never (cc)
other_op op.Ite h e = never (cc)
other_op op.Not h e = never (cc)
other_op op.OptionGet h e = never (cc)
other_op op.Or h e = never (cc)
other_op (op.RecordGet x) h e = never (cc)
other_op op.SetInter h e = never (cc)
other_op op.SetMember h e = never (cc)
other_op op.SetSubset h e = never (cc)
other_op (op.StringLike x) h e = never (cc)
other_op (op.Uuf x) h e = never (cc)
other_op (op.ZeroExtend x) h e = never (cc)

pub is_nego : {o : Op} → o ≡ op.Bvnego → IsNego o true
unfolding op_of
is_nego e = record { if_so = λ h. rw e; if_not = λ h. never (cc) }

pub not_nego : {o : Op} → (o ≡ op.Bvnego → ⊥) → IsNego o false
not_nego {o} k = record { if_so = λ h. never (cc); if_not = λ h. other_op o k }

pub named_op_nego : (f : TermFile) (o : tree.Op ℕ) → named_op f o ≡ Plain Bvnego → o ≡ Plain Bvnego
unfolding named_op
named_op_nego f (Plain o) e = let same : o ≡ Bvnego = cc in ap Plain same
named_op_nego f (tree.Ext o) e = never (cc)
named_op_nego f (tree.RecordGet a) e = never (cc)
named_op_nego f (tree.StringLike p) e = never (cc)
named_op_nego f (tree.Uuf n) e = never (cc)
named_op_nego f (tree.ZeroExtend n) e = never (cc)

-- ---- terms

-- the mark of a `Bvnego` with result Bool
abbrev pub nego : Mark
nego = App (node Bool· nil) (Plain Bvnego)

module _ (m : Mark) (ts : Forest Mark) where
  pub negation_nego : m ≡ nego → negation (node m ts) ≡ negation_with (types_of ts)
  unfolding negation
  negation_nego e = go (mark_dec m nego)
    where
      go : (d : Dec (m ≡ nego)) → ◌≡◌ {A = Negation} (elim (is_yes d) [ true ↦ negation_with (types_of ts) | false ↦ ordinary ]) (negation_with (types_of ts))
      go (yes p) = refl
      go (no q) = absurd (q e)

  pub negation_other : (m ≡ nego → ⊥) → negation (node m ts) ≡ ordinary
  unfolding negation
  negation_other n = go (mark_dec m nego)
    where
      go : (d : Dec (m ≡ nego)) → ◌≡◌ {A = Negation} (elim (is_yes d) [ true ↦ negation_with (types_of ts) | false ↦ ordinary ]) ordinary
      go (yes p) = absurd (n p)
      go (no q) = refl

  -- whatever the mark, where the arguments are not those of a `Bvnego`
  pub negation_ordinary : negation_with (types_of ts) ≡ ordinary → negation (node m ts) ≡ ordinary
  unfolding negation
  negation_ordinary h = go (mark_dec m nego)
    where
      go : (d : Dec (m ≡ nego)) → ◌≡◌ {A = Negation} (elim (is_yes d) [ true ↦ negation_with (types_of ts) | false ↦ ordinary ]) ordinary
      go (yes p) = h
      go (no q) = refl

two_ordinary : (a b : Ty) (tys : Forest TypeMark) → negation_with (cons a (cons b tys)) ≡ ordinary
unfolding negation_with
two_ordinary (node m ps) b tys = refl

-- none or more than one
pub not_one_ordinary : (t : ℕ → Tm) (rs : List ℕ) → (length rs ≡ 1 → ⊥) → negation_with (types_of (forest (map t rs))) ≡ ordinary
unfolding negation_with types_of forest
not_one_ordinary t [] h = refl
not_one_ordinary t (n ∷ []) h = absurd (h refl)
not_one_ordinary t (n ∷ m ∷ rs) h = two_ordinary (type_of (t n)) (type_of (t m)) (types_of (forest (map t rs)))
