-- Two bodies under one mark whose segments agree, with other numbers for the references, are read as entries that are equal with
-- these numbers: mark by mark.
-- Assumes nothing.
use Prim.Native.Nat.{ℕ, zero, suc, ◌+◌}
use native.Mathlib.Omega.{arith}
use mathlib.Core.Path.{◌≡◌, refl, sym, ap, ◌∙◌, subst}
use mathlib.Core.Bool.{Bool, true, false}
use mathlib.Core.List.{List, [], ◌∷◌, map}
use mathlib.Core.Option.{some, none-ne-some}
use borrow.Author.Tests.{le-leb}
use lib.ListN.{length}
use Rattle.script_spec.specs.Base.{Bytes, bytes, same, at, firsts, seconds, lookup}
use Rattle.script_spec.proofs.Laws.{same_eq}
use Rattle.script_spec.specs.Tree.{And, Bvadd, Bvlshr, Bvmul, Bvneg, Bvnego, Bvsaddo, Bvsdiv, Bvshl, Bvsle, Bvslt, Bvsmod, Bvsmulo, Bvsrem, Bvssubo, Bvsub, Bvudiv, Bvule, Bvult, Bvurem, Eq}
use Rattle.script_spec.specs.Tree.{Op, PlainOp, Plain, Ext, RecordGet, StringLike, Uuf, ZeroExtend, Ite, Not, OptionGet, Or, SetInter, SetMember, SetSubset}
use Rattle.script_spec.specs.Tree.{Option·, Set·, Declared, record_of, Var, Entity, None, Some, Set, Record, App}
use Rattle.script_spec.specs.Fields.{Reader, Entry, type, func, term, input, Earlier, operators, plain, leaf, marks, ref, text, entity_ref, ext_op}
use Rattle.script_spec.specs.Fields as fields
use Rattle.script_spec.proofs.Readers.{Took, coded_inverse}
use Rattle.index.specs.First.{All, renamed_op, renamed, renumbered}
use Rattle.index.specs.Standing.{loose, entry_of}
use Rattle.index.proofs.Readers.{◌&◌}
use Rattle.index_compare.proofs.Standing.{entry_of_inverse}
use Rattle.index_compare.specs.Segment as segment
use Rattle.index_compare.specs.Segment.{mapped}
use Rattle.index_compare.specs.Machine.{Then, operand_then, operand_of, coded_then, code_then, operator_then, field_then, item_then, count_then, last, remaining, start_type, start_list, start_term, walk_start, segments, reference, text_then}
use Rattle.index_compare.specs.declared.segments.Item.TheVariants as item
use Rattle.index_compare.proofs.Tells.{cut_took, cons_parts, Tells, FieldTells, tells_bind, field_pure, tells_pure, tells_then, field_then_is}
use Rattle.index_compare.proofs.Told.{plainly_number, plainly_elements, plainly_ext_op, field_plain, tells_list, field_type, field_fun, field_term, field_text, field_pair, field_tested, tells_rest}

-- ---- tables by codes

-- each item of a table with its code, from n on
unfoldable pub Each : {A : Type 0} → (ℕ → A → Type 0) → ℕ → List A → Type 0
Each P n [] = Unit {0}
Each P n (x ∷ xs) = P n x × Each P (suc n) xs

pub each_at : {A : Type 0} (P : ℕ → A → Type 0) (b n : ℕ) (xs : List A) {x : A} → Each P n xs → at b xs ≡ some x → P (b + n) x
unfolding Each at
each_at P b n [] {x} h e = absurd (none-ne-some x e)
each_at P zero n (y ∷ ys) {x} h e =
    let same : y ≡ x = cc in
    let code : n ≡ 0 + n = omega arith in
    subst (λ m. P m x) code (subst (P n) same h.0)
each_at P (suc b) n (y ∷ ys) {x} h e =
    let code : b + suc n ≡ suc b + n = omega arith in
    subst (λ m. P m x) code (each_at P b (suc n) ys h.1 e)

pub operator_read : (next : Then) (b : ℕ) (s : Bytes) → operator_then next (b ∷ s) ≡ segment.plain (b ∷ []) ∷ code_then b next s
unfolding operator_then
operator_read next b s =
    let t : Took 1 (b ∷ s) (b ∷ []) s = record { fits = le-leb 1 (length (b ∷ s)) (omega arith); is = refl; left = refl } in
    cut_took segment.plain (code_then b next) t

module _ (types funs terms : ℕ → ℕ) where
  abbrev g : segment.Segment → segment.Segment
  g = mapped types funs terms

  -- operators that are equal with the other numbers
  abbrev SameOp : Op ℕ → Op ℕ → Type 0
  SameOp o o' = renamed_op types funs o ≡ renamed_op types funs o'

  abbrev OperatorTells : ℕ → Reader (Op ℕ) → Type 0
  OperatorTells b r = FieldTells g SameOp r r (code_then b)

  plain_tells : (o : PlainOp) → FieldTells g SameOp (plain o) (plain o) (λ next. next)
  unfolding plain
  plain_tells o = field_pure g (Plain o) (Plain o) refl

  operators_tell : (count : ℕ) → Each OperatorTells 0 (operators count)
  unfolding Each operators code_then operand_of coded_then operand_then renamed_op ext_op
  operators_tell count =
      plain_tells And & plain_tells Bvadd & plain_tells Bvlshr & plain_tells Bvmul & plain_tells Bvneg
      & plain_tells Bvnego & plain_tells Bvsaddo & plain_tells Bvsdiv & plain_tells Bvshl & plain_tells Bvsle
      & plain_tells Bvslt & plain_tells Bvsmod & plain_tells Bvsmulo & plain_tells Bvsrem & plain_tells Bvssubo
      & plain_tells Bvsub & plain_tells Bvudiv & plain_tells Bvule & plain_tells Bvult & plain_tells Bvurem & plain_tells Eq
      & field_then_is g Ext Ext (field_plain types funs terms plainly_ext_op) (λ o o' e. rw e)
      & plain_tells Ite & plain_tells Not & plain_tells OptionGet & plain_tells Or
      & field_then_is g RecordGet RecordGet (field_text types funs terms) (λ a a' e. rw e)
      & plain_tells SetInter & plain_tells SetMember & plain_tells SetSubset
      & field_then_is g StringLike StringLike (field_plain types funs terms plainly_elements) (λ p p' e. rw e)
      & field_then_is g Uuf Uuf (field_fun types funs terms count) (λ n n' e. ap Uuf e)
      & field_then_is g ZeroExtend ZeroExtend (field_plain types funs terms plainly_number) (λ n n' e. rw e)
      & tt

  field_operator : (count : ℕ) → FieldTells g SameOp (fields.operator count) (fields.operator count) operator_then
  unfolding fields.operator mapped
  field_operator count =
      record {
        go = λ next s s' rest rest' o o' e e' q.
            let c = coded_inverse (operators count) s e in
            let c' = coded_inverse (operators count) s' e' in
            let shown = ap (λ (x : Bytes). map g (operator_then next x)) c.is ∙ ap (map g) (operator_read next c.code c.mid) in
            let shown' = ap (λ (x : Bytes). map g (operator_then next x)) c'.is ∙ ap (map g) (operator_read next c'.code c'.mid) in
            let told = cons_parts (sym shown ∙ q ∙ shown') in
            let codes : c.code ≡ c'.code = cc told.0 in
            let readers : c.reader ≡ c'.reader = cc (c.has, c'.has) in
            let code : c.code + 0 ≡ c.code = omega arith in
            let tells = subst (λ (b : ℕ). OperatorTells b c.reader) code (each_at OperatorTells c.code 0 (operators count) (operators_tell count) c.has) in
            tells.go next c.mid c'.mid rest rest' o o' c.reads (rw readers c'.reads) (rw (← codes) at told.1);
      }

  -- ---- marks

  -- entries that are equal with the other numbers
  abbrev pub Agreed : Entry → Entry → Type 0
  Agreed x y = renumbered types funs terms x ≡ renumbered types funs terms y

  module _ (number : ℕ → ℕ) where
    abbrev numbered : Bytes × ℕ → Bytes × ℕ
    numbered p = (p.0, number p.1)

    firsts_numbered : (ps : List (Bytes × ℕ)) → firsts (map numbered ps) ≡ firsts ps
    unfolding firsts
    firsts_numbered [] = refl
    firsts_numbered (p ∷ ps) = rw (firsts_numbered ps)

    seconds_numbered : (ps : List (Bytes × ℕ)) → seconds (map numbered ps) ≡ map number (seconds ps)
    unfolding seconds
    seconds_numbered [] = refl
    seconds_numbered (p ∷ ps) = rw (seconds_numbered ps)

    pairs_agree : (ps qs : List (Bytes × ℕ)) → map numbered ps ≡ map numbered qs → (firsts ps ≡ firsts qs) × (map number (seconds ps) ≡ map number (seconds qs))
    pairs_agree ps qs e =
        (sym (firsts_numbered ps) ∙ ap firsts e ∙ firsts_numbered qs, sym (seconds_numbered ps) ∙ ap seconds e ∙ seconds_numbered qs)

  module _ (e : Earlier) where
    abbrev typed : FieldTells g (λ n n'. types n ≡ types n') (ref e.types) (ref e.types) (reference segment.type_ref)
    typed = field_type types funs terms e.types

    abbrev termed : FieldTells g (λ n n'. terms n ≡ terms n') (ref e.terms) (ref e.terms) (reference segment.term_ref)
    termed = field_term types funs terms e.terms

    texted : FieldTells g ◌≡◌ text text text_then
    texted = field_text types funs terms

    -- a body that is one plain segment
    plainly : {r : Reader Entry} {l : List segment.Segment} → Tells g Agreed r r (λ s. segment.plain s ∷ l)
    plainly {r} {l} = tells_rest types funs terms r l (λ x. refl)

    -- each mark's reader, in the order of `marks`
    marks_tell : All (λ p. Tells g Agreed p.1 p.1 (segments p.0)) (marks e)
    unfolding All marks leaf bytes segments walk_start start_type start_term start_list remaining field_then last count_then item_then renumbered renamed renamed_op entity_ref
    marks_tell =
        plainly
        & plainly
        & plainly
        & tells_bind g typed (λ n n' q. tells_pure g _ _ (λ i. type Option· (q i ∷ [])))
        & tells_bind g typed (λ n n' q. tells_pure g _ _ (λ i. type Set· (q i ∷ [])))
        & plainly
        & plainly
        & tells_then g _ _ (tells_list types funs terms (numbered types) item.NamedType (field_pair types funs terms typed))
        (λ ps qs q. let h = pairs_agree types ps qs q in λ i. type (Declared (record_of (h.0 i))) (h.1 i))
        & plainly
        & tells_bind g texted (λ n n' q. tells_bind g typed (λ a a' h. tells_bind g typed (λ r r' k. tells_pure g _ _ (λ i. func (q i) (h i) (k i)))))
        & tells_bind g texted (λ n n' q. tells_bind g typed (λ t t' h. tells_pure g _ _ (λ i. term (Var (q i) (h i)) [])))
        & plainly
        & plainly
        & plainly
        & tells_bind g (field_tested types funs terms 8 e.is_entity typed)
        (λ t t' q. tells_then g _ _ (tells_rest types funs terms {R = ◌≡◌} text _ (λ x. refl)) (λ x y h. λ i. term (Entity (q i) (h i)) []))
        & plainly
        & tells_bind g typed (λ n n' q. tells_pure g _ _ (λ i. term (None (q i)) []))
        & tells_bind g termed (λ n n' q. tells_pure g _ _ (λ i. term Some (q i ∷ [])))
        & tells_bind g typed (λ n n' q. tells_then g _ _ (tells_list types funs terms terms item.Term termed) (λ ts us h. λ i. term (Set (q i)) (h i)))
        & tells_then g _ _ (tells_list types funs terms (numbered terms) item.NamedTerm (field_pair types funs terms termed))
        (λ ps qs q. let h = pairs_agree terms ps qs q in λ i. term (Record (h.0 i)) (h.1 i))
        & tells_bind g typed (λ n n' q. tells_bind g (field_operator e.funs) (λ o o' k. tells_then g _ _ (tells_list types funs terms terms item.Term termed) (λ ts us h. λ i. term (App (q i) (k i)) (h i))))
        & tells_bind g termed (λ n n' q. tells_pure g _ _ (λ i. input (q i)))
        & tt

-- what a table has for a text is in P, where each of its lines is
pub lookup_all : {A : Type 0} (P : Bytes → A → Type 0) (s : Bytes) (table : List (Bytes × A)) {a : A} → All (λ p. P p.0 p.1) table → lookup s table ≡ some a → P s a
unfolding All lookup
lookup_all P s [] {a} h e = absurd (none-ne-some a e)
lookup_all {A} P s (p ∷ ps) {a} h e = from (λ k. lookup_all P s ps h.1 k) (same s p.0) refl e
  where
    from : (lookup s ps ≡ some a → P s a) → (b : Bool) → same s p.0 ≡ b → elim b [ true ↦ some p.1 | false ↦ lookup s ps ] ≡ some a → P s a
    from later true q k =
        let mark : p.0 ≡ s = sym (same_eq s p.0 (rw q tt)) in
        let value : p.1 ≡ a = cc in
        subst (P s) value (subst (λ m. P m p.1) mark h.0)
    from later false q k = later k

-- entries of one mark whose segments agree with other numbers are equal with these numbers
pub segments_tell : (types funs terms : ℕ → ℕ) (mark body body' : Bytes) {x y : Entry} → entry_of mark body ≡ some x → entry_of mark body' ≡ some y
    → map (mapped types funs terms) (segments mark body) ≡ map (mapped types funs terms) (segments mark body')
    → renumbered types funs terms x ≡ renumbered types funs terms y
segments_tell types funs terms mark body body' {x} {y} e e' q =
    let h = entry_of_inverse mark body e in
    let h' = entry_of_inverse mark body' e' in
    let readers : h'.reader ≡ h.reader = cc (h.found, h'.found) in
    let tells = lookup_all (λ m r. Tells (mapped types funs terms) (Agreed types funs terms) r r (segments m)) mark (marks loose) (marks_tell types funs terms loose) h.found in
    tells.go body body' [] [] x y h.reads (rw (← readers) h'.reads) q
