-- What the segments of two bodies tell of their fields: references with other numbers, texts, operands, operators and lists.
-- Assumes nothing.
use Prim.Native.Nat.{ℕ, zero, suc, ◌+◌, ◌*◌}
use native.Mathlib.Omega.{arith}
use mathlib.Core.Path.{◌≡◌, refl, sym, ap, ◌∙◌, subst}
use mathlib.Core.Bool.{Bool}
use mathlib.Core.List.{List, [], ◌∷◌, ◌++◌, map}
use mathlib.Core.Option.{some, none-ne-some}
use borrow.Author.Tests.{le-leb}
use lib.ListN.{length, take, drop}
use lib.Seq.{take_at, drop_at}
use Rattle.script_spec.specs.Base.{Bytes, at}
use Rattle.script_spec.specs.Fields.{got, Reader, ◌>>=◌, pure, ref, u32, text, list, times, pair, low, element, coded, ensure, ext_op}
use Rattle.script_spec.specs.Tree.{DatetimeOfBitVec, DatetimeVal, DecimalVal, DurationOfBitVec, DurationVal, IpaddrAddrV4, IpaddrAddrV6, IpaddrIsV4, IpaddrPrefixV4, IpaddrPrefixV6}
use Rattle.script_spec.proofs.Readers.{bind_inverse, pure_inverse, tested_inverse, Took, took_first, took_length, u32_inverse, ref_inverse, coded_inverse}
use Rattle.read_field.specs.Words.{words}
use Rattle.read_field.proofs.Words.{words_take}
use Rattle.index_compare.specs.Segment.{Segment, plain, type_ref, fun_ref, term_ref, mapped}
use Rattle.index_compare.specs.Machine.{Then, cut, reference, text_then, counted_size, item_then, items, count_then}
use Rattle.index_compare.specs.declared.segments.Item.{Item}
use Rattle.index_compare.proofs.Inverse.{list_count, text_inverse, list_inverse}
use Rattle.index_compare.proofs.Tells.{cut_took, reference_read, cons_parts, Tells, FieldTells, tells_bind, field_bind, tells_pure, field_pure, tells_then}

-- a reader whose bytes are one plain segment, of a size that the bytes tell
pub record Plainly {A : Type 0} (r : Reader A) (size : Bytes → ℕ) : Type 0 where
  pub took : (s rest : Bytes) (a : A) → r s ≡ got a rest → Took (size s) s (take (size s) s) rest
  pub only : (s s' rest rest' : Bytes) (a a' : A) → r s ≡ got a rest → r s' ≡ got a' rest' → take (size s) s ≡ take (size s') s' → a ≡ a'

pub plainly_text : Plainly text counted_size
plainly_text =
    record {
      took = λ s rest a e. let t = (text_inverse s e).took in record { fits = t.fits; is = refl; left = t.left };
      only = λ s s' rest rest' a a' e e' q.
          let t = text_inverse s e in
          let t' = text_inverse s' e' in
          sym (drop_at (take 4 s) a 4 t.count) ∙ ap (drop 4) (sym t.took.is ∙ q ∙ t'.took.is) ∙ drop_at (take 4 s') a' 4 t'.count;
    }

pub plainly_number : Plainly u32 (λ s. 4)
plainly_number =
    record {
      took = λ s rest n e. took_first (u32_inverse s e);
      only = λ s s' rest rest' n n' e e' q. sym (u32_inverse s e).is ∙ ap low q ∙ (u32_inverse s' e').is;
    }

pub plainly_elements : Plainly (list element) (λ s. 4 + 4 * low (take 4 s))
plainly_elements =
    record {
      took = λ s rest p e. let t = (list_inverse s e).0 in record { fits = t.fits; is = refl; left = t.left };
      only = λ s s' rest rest' p p' e e' q.
          let t = list_inverse s e in
          let t' = list_inverse s' e' in
          let n = low (take 4 s) in
          let n' = low (take 4 s') in
          let four = took_length (list_count s e) in
          let four' = took_length (list_count s' e') in
          let both : take 4 s ++ take (4 * n) (drop 4 s) ≡ take 4 s' ++ take (4 * n') (drop 4 s') = sym t.0.is ∙ q ∙ t'.0.is in
          let counts : take 4 s ≡ take 4 s' = sym (take_at (take 4 s) _ 4 four) ∙ ap (take 4) both ∙ take_at (take 4 s') _ 4 four' in
          let bodies : take (4 * n) (drop 4 s) ≡ take (4 * n') (drop 4 s') = sym (drop_at (take 4 s) _ 4 four) ∙ ap (drop 4) both ∙ drop_at (take 4 s') _ 4 four' in
          sym t.1 ∙ sym (words_take n (4 * n) (drop 4 s) (omega arith)) ∙ (λ i. words (low (counts i)) (bodies i)) ∙ words_take n' (4 * n') (drop 4 s') (omega arith) ∙ t'.1;
    }

-- a code of a table of values
at_pures : {A : Type 0} (b : ℕ) (xs : List A) {r : Reader A} {s rest : Bytes} {a : A} → at b (map pure xs) ≡ some r → r s ≡ got a rest
    → (at b xs ≡ some a) × (s ≡ rest)
unfolding at
at_pures b [] {r} h e = absurd (none-ne-some r h)
at_pures zero (x ∷ xs) {r} {s} {rest} {a} h e =
    let first : pure x ≡ r = cc in
    let q = pure_inverse x s (rw (← first) at e) in
    (ap some q.0, q.1)
at_pures (suc b) (x ∷ xs) h e = at_pures b xs h e

plainly_pures : {A : Type 0} (xs : List A) → Plainly (coded (map pure xs)) (λ s. 1)
plainly_pures xs =
    record {
      took = λ s rest a e.
          let c = coded_inverse (map pure xs) s e in
          rw c.is (record { fits = le-leb 1 (length (c.code ∷ c.mid)) (omega arith); is = refl; left = (at_pures c.code xs c.has c.reads).1 });
      only = λ s s' rest rest' a a' e e' q.
          let c = coded_inverse (map pure xs) s e in
          let c' = coded_inverse (map pure xs) s' e' in
          let p = (at_pures c.code xs c.has c.reads).0 in
          let p' = (at_pures c'.code xs c'.has c'.reads).0 in
          let codes : c.code ∷ [] ≡ c'.code ∷ [] = rw (c.is, c'.is) at q in
          cc;
    }

pub plainly_ext_op : Plainly ext_op (λ s. 1)
unfolding ext_op
plainly_ext_op =
    plainly_pures (DatetimeOfBitVec ∷ DatetimeVal ∷ DecimalVal ∷ DurationOfBitVec ∷ DurationVal ∷ IpaddrAddrV4 ∷ IpaddrAddrV6 ∷ IpaddrIsV4
    ∷ IpaddrPrefixV4 ∷ IpaddrPrefixV6 ∷ [])

module _ (types funs terms : ℕ → ℕ) where
  abbrev g : Segment → Segment
  g = mapped types funs terms

  pub field_plain : {A : Type 0} {r : Reader A} {size : Bytes → ℕ} → Plainly r size → FieldTells g ◌≡◌ r r (λ next s. cut (size s) plain next s)
  unfolding mapped
  field_plain {A} {r} {size} P =
      record {
        go = λ next s s' rest rest' a a' e e' q.
            let c = ap (map g) (cut_took plain next (P.took s rest a e)) in
            let c' = ap (map g) (cut_took plain next (P.took s' rest' a' e')) in
            let told = cons_parts (sym c ∙ q ∙ c') in
            let same : take (size s) s ≡ take (size s') s' = cc told.0 in
            (P.only s s' rest rest' a a' e e' same, told.1);
      }

  -- a reference: its numbers agree
  field_ref : (count : ℕ) (wrap : ℕ → Segment) (number : ℕ → ℕ) → ((n n' : ℕ) → g (wrap n) ≡ g (wrap n') → number n ≡ number n')
      → FieldTells g (λ n n'. number n ≡ number n') (ref count) (ref count) (reference wrap)
  field_ref count wrap number only =
      record {
        go = λ next s s' rest rest' n n' e e' q.
            let c = ap (map g) (reference_read wrap next (ref_inverse count s e)) in
            let c' = ap (map g) (reference_read wrap next (ref_inverse count s' e')) in
            let told = cons_parts (sym c ∙ q ∙ c') in
            (only n n' told.0, told.1);
      }

  -- ---- lists

  module _ {A C : Type 0} (h : A → C) (i : Item) {r : Reader A} (F : FieldTells g (λ a a'. h a ≡ h a') r r (item_then i)) where
    tells_times : (n : ℕ) → Tells g (λ l l'. map h l ≡ map h l') (times n r) (times n r) (items i n)
    unfolding times items
    tells_times zero = tells_pure g [] [] refl
    tells_times (suc n) = tells_bind g F (λ a a' q. tells_then g (λ l. a ∷ l) (λ l. a' ∷ l) (tells_times n) (λ l l' e. rw (q, e)))

    -- with one count
    tells_count : {n n' : ℕ} → n ≡ n' → (s s' rest rest' : Bytes) (l l' : List A) → times n r s ≡ got l rest → times n' r s' ≡ got l' rest'
        → map g (items i n s) ≡ map g (items i n' s') → map h l ≡ map h l'
    tells_count {n} {n'} same s s' rest rest' l l' e e' q = (tells_times n).go s s' rest rest' l l' e (rw same e') (rw (← same) at q)

    pub tells_list : Tells g (λ l l'. map h l ≡ map h l') (list r) (list r) (count_then i)
    unfolding list count_then mapped
    tells_list =
        record {
          go = λ s s' rest rest' l l' e e' q.
              let x = bind_inverse u32 (λ n. times n r) s e in
              let x' = bind_inverse u32 (λ n. times n r) s' e' in
              let w = u32_inverse s x.first in
              let w' = u32_inverse s' x'.first in
              let c = ap (map g) (cut_took plain (items i (low (take 4 s))) (took_first w)) in
              let c' = ap (map g) (cut_took plain (items i (low (take 4 s'))) (took_first w')) in
              let told = cons_parts (sym c ∙ q ∙ c') in
              let same : take 4 s ≡ take 4 s' = cc told.0 in
              tells_count (sym w.is ∙ ap low same ∙ w'.is) x.mid x'.mid rest rest' l l' x.after x'.after (rw (w.is, w'.is) at told.1);
        }

  -- ---- references and texts with references

  pub field_type : (count : ℕ) → FieldTells g (λ n n'. types n ≡ types n') (ref count) (ref count) (reference type_ref)
  unfolding mapped
  field_type count = field_ref count type_ref types (λ n n' e. cc)

  pub field_fun : (count : ℕ) → FieldTells g (λ n n'. funs n ≡ funs n') (ref count) (ref count) (reference fun_ref)
  unfolding mapped
  field_fun count = field_ref count fun_ref funs (λ n n' e. cc)

  pub field_term : (count : ℕ) → FieldTells g (λ n n'. terms n ≡ terms n') (ref count) (ref count) (reference term_ref)
  unfolding mapped
  field_term count = field_ref count term_ref terms (λ n n' e. cc)

  pub field_text : FieldTells g ◌≡◌ text text text_then
  unfolding text_then
  field_text = field_plain plainly_text

  -- a text and a reference
  pub field_pair : {r : Reader ℕ} {number : ℕ → ℕ} {field : Then → Then} → FieldTells g (λ n n'. number n ≡ number n') r r field
      → FieldTells g (λ p p'. ◌≡◌ {A = Bytes × ℕ} (p.0, number p.1) (p'.0, number p'.1)) (pair text r) (pair text r) (λ next. text_then (field next))
  unfolding pair
  field_pair F = field_bind g field_text (λ a a' q. field_bind g F (λ n n' m. field_pure g (a, n) (a', n') (λ i. (q i, m i))))

  -- a value that was tested
  pub field_tested : {A : Type 0} {R : A → A → Type 0} {r : Reader A} {field : Then → Then} (n : ℕ) (test : A → Bool) → FieldTells g R r r field
      → FieldTells g R (◌>>=◌ r (λ a. ensure n (test a) a)) (◌>>=◌ r (λ a. ensure n (test a) a)) field
  field_tested {A} {R} {r} n test F =
      record {
        go = λ next s s' rest rest' a a' e e' q. F.go next s s' rest rest' a a' (tested_inverse r n test s e) (tested_inverse r n test s' e') q;
      }

  -- a body, or what is left of one, that is one plain segment
  pub tells_rest : {A : Type 0} {R : A → A → Type 0} (r : Reader A) (l : List Segment) → ((a : A) → R a a) → Tells g R r r (λ s. plain s ∷ l)
  unfolding mapped
  tells_rest {A} {R} r l reflexive =
      record {
        go = λ s s' rest rest' a a' e e' q.
            let told = cons_parts q in
            let same : s ≡ s' = cc told.0 in
            let value : a ≡ a' = cc (e, e', ap r same) in
            subst (R a) value (reflexive a);
      }
