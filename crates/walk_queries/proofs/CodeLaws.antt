-- A record that is no `Bvnego`: by the second byte of its mark, or by its operator's code, since only one place of the table has `Bvnego`.
-- Assumes nothing.
use Prim.Native.Nat.{ℕ, zero, suc, ◌^◌}
use mathlib.Core.Path.{◌≡◌, refl, sym, ap, ◌∙◌, subst}
use mathlib.Core.Bool.{Bool, not}
use mathlib.Core.List.{List, [], ◌∷◌, ◌++◌}
use mathlib.Core.Option.{some, none-ne-some}
use lib.ListN.{length, take, drop, get_or}
use lib.Dec.{eqb}
use lib.Seq.{get_or-drop}
use borrow.Author.Tests.{eq-eqb}
use Rattle.script_spec.specs.Base.{Bytes, bytes, at, same, lookup, and_then}
use Rattle.script_spec.specs.Tree as tree
use Rattle.script_spec.specs.Tree.{PlainOp, Op, App, Plain, Bvnego}
use Rattle.script_spec.specs.Fields.{term, got, Reader, ◌>>=◌, pure, u32, text, list, ref, element, ext_op, plain, operators, operator, marks}
use Rattle.script_spec.proofs.Laws.{never}
use Rattle.script_spec.proofs.Readers.{got_value, coded_inverse}
use Rattle.index_compare.proofs.Standing.{entry_whole}
use Rattle.index.specs.First.{All}
use Rattle.index.specs.Standing.{mark_at, body_at, entry_of, entry_at, loose}
use Rattle.index.proofs.Readers.{Gives, gives_after, gives_pure}
use Rattle.check_rules.specs.Marks.{term_bytes, mark_of}
use Rattle.check_rules.proofs.Marks.{entry_mark}
use Rattle.index_entry.proofs.Inverse.{bind_inverse, tested_inverse}
use Rattle.walk_queries.specs.Negations.{OtherCode, IsOther}
use Rattle.walk_queries.proofs.Order.{untrue}

-- ---- the table of operators

module _ {A : Type 0} (P : A → Type 0) where
  at_all : (xs : List A) (n : ℕ) (a : A) → All P xs → at n xs ≡ some a → P a
  unfolding at All
  at_all [] n a q e = absurd (none-ne-some a e)
  at_all (x ∷ xs) zero a q e = let s : x ≡ a = cc in subst P s q.0
  at_all (x ∷ xs) (suc n) a q e = at_all xs n a q.1 e

  -- what stands at any other place of a table
  at_other : (xs : List A) (y : A) (zs : List A) (n : ℕ) (a : A) → All P xs → All P zs → (n ≡ length xs → ⊥) → at n (xs ++ y ∷ zs) ≡ some a → P a
  unfolding at All
  at_other [] y zs zero a p q h e = absurd (h refl)
  at_other [] y zs (suc n) a p q h e = at_all zs n a q e
  at_other (x ∷ xs) y zs zero a p q h e = let s : x ≡ a = cc in subst P s p.0
  at_other (x ∷ xs) y zs (suc n) a p q h e = at_other xs y zs n a p.1 q (λ i. h (ap suc i)) e

-- a reader that never makes `Bvnego`
abbrev Unlike : Reader (Op ℕ) → Type 0
Unlike r = Gives (λ o. o ≡ Plain Bvnego → ⊥) r r

one : (o : Op ℕ) → (o ≡ Plain Bvnego → ⊥) → Unlike (pure o)
one o h = gives_pure {P = λ o. o ≡ Plain Bvnego → ⊥} o h

with_field : {A : Type 0} (r : Reader A) (k : A → Op ℕ) → ((a : A) → k a ≡ Plain Bvnego → ⊥) → Unlike (◌>>=◌ r (λ a. pure (k a)))
with_field r k h = gives_after {P = λ o. o ≡ Plain Bvnego → ⊥} r (λ a. one (k a) (h a))

plain_one : (o : PlainOp) → (◌≡◌ {A = Op ℕ} (Plain o) (Plain Bvnego) → ⊥) → Unlike (plain o)
unfolding plain
plain_one o h = one (Plain o) h

-- the operators before `Bvnego`, and those after it
others_before : (n : ℕ) → All Unlike (take 5 (operators n))
unfolding All operators
others_before n =
    (plain_one tree.And (λ e. never (cc)), (plain_one tree.Bvadd (λ e. never (cc)), (plain_one tree.Bvlshr (λ e. never (cc)), (plain_one tree.Bvmul (λ e. never (cc)), (plain_one tree.Bvneg (λ e. never (cc)), tt)))))

others_after : (n : ℕ) → All Unlike (drop 6 (operators n))
unfolding All operators
others_after n =
    (plain_one tree.Bvsaddo (λ e. never (cc)), (plain_one tree.Bvsdiv (λ e. never (cc)), (plain_one tree.Bvshl (λ e. never (cc)), (plain_one tree.Bvsle (λ e. never (cc)), (plain_one tree.Bvslt (λ e. never (cc)), (plain_one tree.Bvsmod (λ e. never (cc)), (plain_one tree.Bvsmulo (λ e. never (cc)), (plain_one tree.Bvsrem (λ e. never (cc)), (plain_one tree.Bvssubo (λ e. never (cc)), (plain_one tree.Bvsub (λ e. never (cc)), (plain_one tree.Bvudiv (λ e. never (cc)), (plain_one tree.Bvule (λ e. never (cc)), (plain_one tree.Bvult (λ e. never (cc)), (plain_one tree.Bvurem (λ e. never (cc)), (plain_one tree.Eq (λ e. never (cc)), (with_field ext_op tree.Ext (λ o e. never (cc)), (plain_one tree.Ite (λ e. never (cc)), (plain_one tree.Not (λ e. never (cc)), (plain_one tree.OptionGet (λ e. never (cc)), (plain_one tree.Or (λ e. never (cc)), (with_field text tree.RecordGet (λ a e. never (cc)), (plain_one tree.SetInter (λ e. never (cc)), (plain_one tree.SetMember (λ e. never (cc)), (plain_one tree.SetSubset (λ e. never (cc)), (with_field (list element) tree.StringLike (λ p e. never (cc)), (with_field (ref n) tree.Uuf (λ f e. never (cc)), (with_field u32 tree.ZeroExtend (λ n e. never (cc)), tt)))))))))))))))))))))))))))

operators_split : (n : ℕ) → operators n ≡ take 5 (operators n) ++ plain Bvnego ∷ drop 6 (operators n)
unfolding operators
operators_split n = refl

-- another code is that of another operator
other_at : (n code : ℕ) (r : Reader (Op ℕ)) → (code ≡ 5 → ⊥) → at code (operators n) ≡ some r → Unlike r
unfolding operators
other_at n code r h e = at_other Unlike (take 5 (operators n)) (plain Bvnego) (drop 6 (operators n)) code r (others_before n) (others_after n) h (ap (at code) (sym (operators_split n)) ∙ e)

-- ---- applications

module _ (body : Bytes) {code : ℕ} (b : code ≡ get_or body 4 0) (h : code ≡ 5 → ⊥) where
  operator_other : {o : Op ℕ} {rest : Bytes} → operator (2 ^ 32) (drop 4 body) ≡ got o rest → o ≡ Plain Bvnego → ⊥
  unfolding operator
  operator_other {o} {rest} e =
      let c = coded_inverse (operators (2 ^ 32)) (drop 4 body) e in
      let same : code ≡ c.code = b ∙ sym (get_or-drop 4 body 0 0) ∙ ap (λ (s : Bytes). get_or s 0 0) c.is in
      ((other_at (2 ^ 32) c.code c.reader (λ q. h (same ∙ q)) c.has).go c.mid rest o c.reads).0

  app_other : (t : ℕ) (rs : List ℕ) → entry_of (bytes "XA") body ≡ some (term (App t (Plain Bvnego)) rs) → ⊥
  unfolding entry_of and_then marks lookup same bytes ref pure loose
  app_other t rs e =
      bind_inverse (ref (2 ^ 32)) _ body (entry_whole _ _ e) (λ x mid p q. tested_inverse 8 _ body p (λ v d.
      bind_inverse (operator (2 ^ 32)) _ mid q (λ y end i j.
      bind_inverse (list (ref (2 ^ 32))) _ end j (λ ts last k l.
      let made : term (App x y) ts ≡ term (App t (Plain Bvnego)) rs = got_value (term (App x y) ts) _ last [] l in
      let op-is : y ≡ Plain Bvnego = cc in
      operator_other (ap (operator (2 ^ 32)) d ∙ i) op-is))))

pub code_other : {body : Bytes} {code : ℕ} → code ≡ get_or body 4 0 → OtherCode body (not (eqb code 5))
code_other {code = code} b = record { go = λ h t rs. app_other _ b (λ e. untrue (sym (ap not (eq-eqb code 5 e)) ∙ h)) t rs }

-- ---- records

-- the mark of an application
app_mark : (file : Bytes) (o : ℕ) {t : ℕ} {op : Op ℕ} {rs : List ℕ} → entry_at file o ≡ some (term (App t op) rs) → mark_at file o ≡ bytes "XA"
unfolding entry_at mark_of term_bytes
app_mark file o g = entry_mark (mark_at file o) (body_at file o) g

pub record_other : {file body : Bytes} {o : ℕ} {r : Bool} → body ≡ body_at file o → OtherCode body r → IsOther file o r
unfolding entry_at
record_other {file} {o = o} b C = record { go = λ h t rs g. C.go h t rs (rw (b, ← (app_mark file o g)) g) }

-- a letter that is no application's
pub letter_other : {file : Bytes} {o l : ℕ} {r : Bool} → l ≡ get_or (mark_at file o) 1 0 → (l ≡ 65 → ⊥) → IsOther file o r
unfolding bytes
letter_other {file} {o} i h = record { go = λ e t rs g. h (i ∙ ap (λ (s : Bytes). get_or s 1 0) (app_mark file o g)) }
