-- The segments of a body are those of its entry: mark by mark.
-- Assumes nothing.
use Prim.Native.Nat.{ℕ, suc, ◌+◌}
use native.Mathlib.Omega.{arith}
use mathlib.Core.Path.{◌≡◌, refl, sym, ap, ◌∙◌, subst}
use mathlib.Core.Bool.{true, false}
use mathlib.Core.List.{List, [], ◌∷◌, ◌++◌, map}
use mathlib.Core.Option.{some}
use lib.ListN.{length}
use Rattle.script_spec.specs.Base.{Bytes, bytes, firsts, seconds, collect}
use Rattle.script_spec.specs.Tree.{And, Bvadd, Bvlshr, Bvmul, Bvneg, Bvnego, Bvsaddo, Bvsdiv, Bvshl, Bvsle, Bvslt, Bvsmod, Bvsmulo, Bvsrem, Bvssubo, Bvsub, Bvudiv, Bvule, Bvult, Bvurem, Eq}
use Rattle.script_spec.specs.Tree.{Op, PlainOp, Plain, Ext, RecordGet, StringLike, Uuf, ZeroExtend, Ite, Not, OptionGet, Or, SetInter, SetMember, SetSubset}
use Rattle.script_spec.specs.Tree.{DatetimeOfBitVec, DatetimeVal, DecimalVal, DurationOfBitVec, DurationVal, IpaddrAddrV4, IpaddrAddrV6, IpaddrIsV4, IpaddrPrefixV4, IpaddrPrefixV6}
use Rattle.script_spec.specs.Tree.{IPAddr, Decimal, Datetime, Duration, V4, V6, DecimalV, DatetimeV, DurationV}
use Rattle.script_spec.specs.Tree.{BitVecLit}
use Rattle.script_spec.specs.Fields.{Reader, got, ◌>>=◌, pure, Entry, Earlier, operators, leaf, marks, ref, text, entity_ref, ext_op, ext_type, value, prefix, element, width, coded}
use Rattle.script_spec.specs.Fields as fields
use Rattle.script_spec.proofs.Readers.{coded_inverse, bind_inverse, pure_inverse}
use Rattle.index.specs.First.{All}
use Rattle.index.specs.Standing.{loose, entry_of}
use Rattle.index.proofs.Readers.{◌&◌}
use Rattle.index_compare.specs.Segment.{Segment, plain, type_ref, fun_ref, term_ref}
use Rattle.index_compare.specs.Machine as machine
use Rattle.index_compare.specs.Machine.{Then, operand_then, operand_of, coded_then, code_then, operator_then, field_then, item_then, items, last, remaining, start_type, start_list, start_term, walk_start, segments, reference}
use Rattle.index_compare.specs.Printed.{low_bytes, text_bytes, bool_code, ext_type_code, ext_op_code, plain_op_code, value_bytes, op_segments, named_references, count_before, type_segments, term_segments, segments_of}
use Rattle.index_compare.specs.declared.segments.Item.TheVariants as item
use Rattle.index_compare.proofs.Standing.{entry_of_inverse}
use Rattle.index_compare.proofs.Told.{plainly_text, plainly_number, plainly_elements, plainly_ext_op}
use Rattle.index_compare.proofs.Agreement.{Each, each_at, operator_read, lookup_all}
use Rattle.index_compare.proofs.Prints.{Octets, Prints, prints_bind, prints_pure, prints_tested, prints_coded, prints_number, prints_u32, prints_address, prints_byte, prints_text, prints_list}
use Rattle.index_compare.proofs.Shows.{FieldShows, Shows, shows_bind, shows_pure, shows_rest, rest_bind, rest_pure, rest_ensure, field_shown, reference_shown, tested_shown, pair_shown, shows_list}

-- ---- plain fields

prints_ext_op : Prints [] (λ o. ext_op_code o ∷ []) ext_op
unfolding ext_op Each ext_op_code
prints_ext_op =
    prints_coded _ (prints_pure DatetimeOfBitVec refl & prints_pure DatetimeVal refl & prints_pure DecimalVal refl & prints_pure DurationOfBitVec refl
    & prints_pure DurationVal refl & prints_pure IpaddrAddrV4 refl & prints_pure IpaddrAddrV6 refl & prints_pure IpaddrIsV4 refl
    & prints_pure IpaddrPrefixV4 refl & prints_pure IpaddrPrefixV6 refl & tt)

prints_ext_type : Prints [] (λ x. ext_type_code x ∷ []) ext_type
unfolding ext_type Each ext_type_code
prints_ext_type = prints_coded _ (prints_pure IPAddr refl & prints_pure Decimal refl & prints_pure Datetime refl & prints_pure Duration refl & tt)

prints_bool : Prints [] (λ b. bool_code b ∷ []) (coded (map pure (false ∷ true ∷ [])))
unfolding Each bool_code
prints_bool = prints_coded _ (prints_pure false refl & prints_pure true refl & tt)

prints_prefix : (bound : ℕ) → Prints [] (λ p. p ∷ []) (prefix bound)
unfolding prefix
prints_prefix bound = prints_tested 7 _ prints_byte

prints_value : Prints [] value_bytes value
unfolding value Each value_bytes
prints_value =
    prints_coded _ (prints_bind (prints_address 4) (λ a. prints_bind (prints_prefix 32) (λ p. prints_pure (V4 a p) refl))
    & prints_bind (prints_address 16) (λ a. prints_bind (prints_prefix 128) (λ p. prints_pure (V6 a p) refl))
    & prints_bind (prints_number 8) (λ n. prints_pure (DecimalV n) refl)
    & prints_bind (prints_number 8) (λ n. prints_pure (DatetimeV n) refl)
    & prints_bind (prints_number 8) (λ n. prints_pure (DurationV n) refl)
    & tt)

prints_width : Prints [] (low_bytes 4) width
unfolding width
prints_width = prints_tested 7 _ prints_u32

prints_element : Prints [] (low_bytes 4) element
unfolding element
prints_element = prints_tested 7 _ prints_u32

-- ---- operators

text_shown : FieldShows (λ a. plain (text_bytes a) ∷ []) text machine.text_then
unfolding machine.text_then
text_shown = field_shown plainly_text prints_text

-- after its code, an operator's segments are those that the code stands before
pub record AfterCode (b : ℕ) (r : Reader (Op ℕ)) : Type 0 where
  pub go : (next : Then) (s rest : Bytes) (o : Op ℕ) → Octets s → r s ≡ got o rest
      → (plain (b ∷ []) ∷ code_then b next s ≡ op_segments o ++ next rest) × Octets rest

after_code : {A : Type 0} {out : A → List Segment} {r : Reader A} {field : Then → Then} (b : ℕ) (f : A → Op ℕ) → code_then b ≡ field
    → ((a : A) → plain (b ∷ []) ∷ out a ≡ op_segments (f a)) → FieldShows out r field → AfterCode b (◌>>=◌ r (λ a. pure (f a)))
after_code {A} {out} {r} {field} b f same h F =
    record {
      go = λ next s rest o octets e.
          let x = bind_inverse r (λ a. pure (f a)) s e in
          let q = pure_inverse (f x.value) x.mid x.after in
          let p = F.go next s x.mid x.value octets x.first in (
            ap (λ (φ : Then → Then). plain (b ∷ []) ∷ φ next s) same ∙ ap (λ (l : List Segment). plain (b ∷ []) ∷ l) p.0
                ∙ (λ i. (h x.value ∙ ap op_segments q.0) i ++ next (q.1 i)),
            subst Octets q.1 p.1,
          );
    }

plain_code : (b : ℕ) (o : PlainOp) → code_then b ≡ (λ next. next) → plain_op_code o ≡ b → AfterCode b (fields.plain o)
unfolding fields.plain op_segments
plain_code b o same h =
    record {
      go = λ next s rest o' octets e.
          let q = pure_inverse (Plain o) s e in
          ((λ i. plain (sym h i ∷ []) ∷ same i next s) ∙ (λ i. op_segments (q.0 i) ++ next (q.1 i)), subst Octets q.1 octets);
    }

operators_shown : (count : ℕ) → Each AfterCode 0 (operators count)
unfolding Each operators code_then operand_of coded_then operand_then op_segments plain_op_code
operators_shown count =
    plain_code _ And refl refl & plain_code _ Bvadd refl refl & plain_code _ Bvlshr refl refl & plain_code _ Bvmul refl refl
    & plain_code _ Bvneg refl refl & plain_code _ Bvnego refl refl & plain_code _ Bvsaddo refl refl & plain_code _ Bvsdiv refl refl
    & plain_code _ Bvshl refl refl & plain_code _ Bvsle refl refl & plain_code _ Bvslt refl refl & plain_code _ Bvsmod refl refl
    & plain_code _ Bvsmulo refl refl & plain_code _ Bvsrem refl refl & plain_code _ Bvssubo refl refl & plain_code _ Bvsub refl refl
    & plain_code _ Bvudiv refl refl & plain_code _ Bvule refl refl & plain_code _ Bvult refl refl & plain_code _ Bvurem refl refl
    & plain_code _ Eq refl refl
    & after_code _ Ext refl (λ o. refl) (field_shown plainly_ext_op prints_ext_op)
    & plain_code _ Ite refl refl & plain_code _ Not refl refl & plain_code _ OptionGet refl refl & plain_code _ Or refl refl
    & after_code _ RecordGet refl (λ a. refl) text_shown
    & plain_code _ SetInter refl refl & plain_code _ SetMember refl refl & plain_code _ SetSubset refl refl
    & after_code _ StringLike refl (λ p. refl) (field_shown plainly_elements (prints_list prints_element))
    & after_code _ Uuf refl (λ f. refl) (reference_shown count fun_ref)
    & after_code _ ZeroExtend refl (λ n. refl) (field_shown plainly_number prints_u32)
    & tt

operator_shown : (count : ℕ) → FieldShows op_segments (fields.operator count) operator_then
unfolding fields.operator
operator_shown count =
    record {
      go = λ next s rest o octets e.
          let c = coded_inverse (operators count) s e in
          let code : c.code + 0 ≡ c.code = omega arith in
          let A = subst (λ (b : ℕ). AfterCode b c.reader) code (each_at AfterCode c.code 0 (operators count) (operators_shown count) c.has) in
          let octets' = subst Octets c.is octets in
          let p = A.go next c.mid rest o (λ i. octets' (suc i)) c.reads in
          (ap (λ (m : Bytes). operator_then next m) c.is ∙ operator_read next c.code c.mid ∙ p.0, p.1);
    }

-- ---- marks

length_firsts : (ps : List (Bytes × ℕ)) → length (firsts ps) ≡ length ps
unfolding firsts
length_firsts [] = refl
length_firsts (p ∷ ps) = ap suc (length_firsts ps)

pairs_shown : (wrap : ℕ → Segment) (ps : List (Bytes × ℕ)) → collect (λ p. plain (text_bytes p.0) ∷ wrap p.1 ∷ []) ps ≡ named_references wrap (firsts ps) (seconds ps)
unfolding collect named_references firsts seconds
pairs_shown wrap [] = refl
pairs_shown wrap (p ∷ ps) = rw (pairs_shown wrap ps)

refs_shown : (wrap : ℕ → Segment) (rs : List ℕ) → collect (λ n. wrap n ∷ []) rs ≡ map wrap rs
unfolding collect
refs_shown wrap [] = refl
refs_shown wrap (n ∷ rs) = rw (refs_shown wrap rs)

list_shown : (wrap : ℕ → Segment) (ps : List (Bytes × ℕ)) → plain (low_bytes 4 (length ps)) ∷ collect (λ p. plain (text_bytes p.0) ∷ wrap p.1 ∷ []) ps
    ≡ count_before (firsts ps) (named_references wrap (firsts ps) (seconds ps))
unfolding count_before
list_shown wrap ps = λ i. plain (low_bytes 4 (sym (length_firsts ps) i)) ∷ pairs_shown wrap ps i

terms_shown : (rs : List ℕ) → plain (low_bytes 4 (length rs)) ∷ collect (λ n. term_ref n ∷ []) rs ≡ count_before rs (map term_ref rs)
unfolding count_before
terms_shown rs = ap (λ (l : List Segment). plain (low_bytes 4 (length rs)) ∷ l) (refs_shown term_ref rs)

module _ (e : Earlier) where
  abbrev typed : FieldShows (λ n. type_ref n ∷ []) (ref e.types) (reference type_ref)
  typed = reference_shown e.types type_ref

  abbrev termed : FieldShows (λ n. term_ref n ∷ []) (ref e.terms) (reference term_ref)
  termed = reference_shown e.terms term_ref

  -- each mark's reader, in the order of `marks`
  marks_shown : All (λ p. Shows [] segments_of p.1 (segments p.0)) (marks e)
  unfolding All marks leaf bytes segments walk_start start_type start_term start_list remaining field_then last items machine.count_then item_then entity_ref segments_of type_segments term_segments
  marks_shown =
      shows_rest (rest_pure _ refl)
      & shows_rest (rest_pure _ refl)
      & shows_rest (rest_bind prints_width (λ n. rest_pure _ refl))
      & shows_bind typed (λ n. shows_pure _ (λ s. refl) refl)
      & shows_bind typed (λ n. shows_pure _ (λ s. refl) refl)
      & shows_rest (rest_bind prints_text (λ n. rest_pure _ refl))
      & shows_rest (rest_bind prints_ext_type (λ x. rest_pure _ refl))
      & shows_list item.NamedType (pair_shown text_shown typed) _ (λ ps. list_shown type_ref ps)
      & shows_rest (rest_bind prints_text (λ n. rest_bind (prints_list prints_text) (λ ms. rest_pure _ refl)))
      & shows_bind text_shown (λ n. shows_bind typed (λ a. shows_bind typed (λ r. shows_pure _ (λ s. refl) refl)))
      & shows_bind text_shown (λ n. shows_bind typed (λ t. shows_pure _ (λ s. refl) refl))
      & shows_rest (rest_bind prints_bool (λ b. rest_pure _ refl))
      & shows_rest (rest_bind prints_width (λ n. rest_bind (prints_number 16) (λ v. rest_ensure (λ w. pure (leaf (BitVecLit n w))) 7 _ v (rest_pure _ refl))))
      & shows_rest (rest_bind prints_text (λ s. rest_pure _ refl))
      & shows_bind (tested_shown 8 e.is_entity typed) (λ t. shows_rest (rest_bind prints_text (λ i. rest_pure _ refl)))
      & shows_rest (rest_bind prints_value (λ v. rest_pure _ refl))
      & shows_bind typed (λ n. shows_pure _ (λ s. refl) refl)
      & shows_bind termed (λ n. shows_pure _ (λ s. refl) refl)
      & shows_bind typed (λ n. shows_list item.Term termed _ (λ ts. ap (λ (l : List Segment). type_ref n ∷ l) (terms_shown ts)))
      & shows_list item.NamedTerm (pair_shown text_shown termed) _ (λ ps. list_shown term_ref ps)
      & shows_bind typed (λ n. shows_bind (operator_shown e.funs) (λ o. shows_list item.Term termed _ (λ ts. ap (λ (l : List Segment). type_ref n ∷ (op_segments o ++ l)) (terms_shown ts))))
      & shows_bind termed (λ n. shows_pure _ (λ s. refl) refl)
      & tt

-- the segments of a body are those of its entry
pub segments_shown : (mark body : Bytes) {x : Entry} → Octets body → entry_of mark body ≡ some x → segments mark body ≡ segments_of x
segments_shown mark body {x} o e =
    let h = entry_of_inverse mark body e in
    (lookup_all (λ m r. Shows [] segments_of r (segments m)) mark (marks loose) (marks_shown loose) h.found).go body x o h.reads
