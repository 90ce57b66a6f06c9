-- The segments of a body are those of its entry: a relation of a reader, the segments of its value and the walk through its bytes that
-- each field and each way of making a reader has.
-- Assumes nothing.
use Prim.Native.Nat.{ℕ, zero, suc}
use native.Mathlib.Omega.{arith}
use mathlib.Core.Path.{◌≡◌, sym, ap, ◌∙◌, subst}
use mathlib.Core.Bool.{Bool, true, false}
use mathlib.Core.List.{List, [], ◌∷◌, ◌++◌, append_assoc, append-nil}
use lib.ListN.{length, take, length-append, take-append-drop}
use lib.Seq.{take-append_seam}
use Rattle.script_spec.specs.Base.{Bytes, collect}
use Rattle.script_spec.specs.Fields.{got, Reader, ◌>>=◌, pure, ensure, low, ref, u32, text, list, times, pair}
use Rattle.script_spec.proofs.Readers.{bad_not_got, bind_inverse, pure_inverse, tested_inverse, took_first, u32_inverse, ref_inverse}
use Rattle.index_compare.specs.Segment.{Segment, plain}
use Rattle.index_compare.specs.Machine.{Then, cut, reference, item_then, items, count_then}
use Rattle.index_compare.specs.Printed.{low_bytes, text_bytes}
use Rattle.index_compare.specs.declared.segments.Item.{Item}
use Rattle.index_compare.proofs.Tells.{cut_took, reference_read}
use Rattle.index_compare.proofs.Told.{Plainly}
use Rattle.index_compare.proofs.Prints.{Octets, octets_drop, Prints, prints_u32, times_length}

-- a field's segments are those of its value
pub record FieldShows {A : Type 0} (out : A → List Segment) (r : Reader A) (field : Then → Then) : Type 0 where
  pub go : (next : Then) (s rest : Bytes) (a : A) → Octets s → r s ≡ got a rest → (field next s ≡ out a ++ next rest) × Octets rest

-- with the segments before them, those of a body, or of what is left of it, are those of its value
pub record Shows {A : Type 0} (before : List Segment) (out : A → List Segment) (r : Reader A) (last : Then) : Type 0 where
  pub go : (s : Bytes) (a : A) → Octets s → r s ≡ got a [] → before ++ last s ≡ out a

-- ---- ways of making a reader

module _ {A B : Type 0} {before : List Segment} {out : A → List Segment} {total : B → List Segment} {r : Reader A} {k : A → Reader B} {field : Then → Then} {last : Then} where
  pub shows_bind : FieldShows out r field → ((a : A) → Shows (before ++ out a) total (k a) last) → Shows before total (◌>>=◌ r k) (field last)
  shows_bind F H =
      record {
        go = λ s b o e.
            let x = bind_inverse r k s e in
            let p = F.go last s x.mid x.value o x.first in
            ap (λ (l : List Segment). before ++ l) p.0 ∙ sym (append_assoc before (out x.value) (last x.mid))
            ∙ (H x.value).go x.mid b p.1 x.after;
      }

module _ {A : Type 0} {before : List Segment} {out : A → List Segment} where
  pub shows_pure : {last : Then} (a : A) → ((s : Bytes) → last s ≡ []) → before ++ [] ≡ out a → Shows before out (pure a) last
  shows_pure a none h =
      record { go = λ s b o e. ap (λ (l : List Segment). before ++ l) (none s) ∙ h ∙ ap out (pure_inverse a s e).0 }

-- ---- what is left as one plain segment

-- after `before`, the bytes that are left make with it the plain segment between `lead` and l
pub record ShowsRest {A : Type 0} (lead : List Segment) (before : Bytes) (out : A → List Segment) (r : Reader A) (l : List Segment) : Type 0 where
  pub go : (s : Bytes) (a : A) → Octets s → r s ≡ got a [] → lead ++ (plain (before ++ s) ∷ l) ≡ out a

module _ {lead l : List Segment} where
  pub shows_rest : {A : Type 0} {out : A → List Segment} {r : Reader A} → ShowsRest lead [] out r l → Shows lead out r (λ s. plain s ∷ l)
  shows_rest R = record { go = λ s a o e. R.go s a o e }

  module _ {A B : Type 0} {before : Bytes} {bytes : A → Bytes} {out : B → List Segment} {r : Reader A} {k : A → Reader B} where
    pub rest_bind : Prints [] bytes r → ((a : A) → ShowsRest lead (before ++ bytes a) out (k a) l) → ShowsRest lead before out (◌>>=◌ r k) l
    rest_bind P H =
        record {
          go = λ s b o e.
              let x = bind_inverse r k s e in
              let p = P.go s x.mid x.value o x.first in
              ap (λ (m : Bytes). lead ++ (plain (before ++ m) ∷ l)) p.0
              ∙ ap (λ (m : Bytes). lead ++ (plain m ∷ l)) (sym (append_assoc before (bytes x.value) x.mid))
              ∙ (H x.value).go x.mid b p.1 x.after;
        }

  module _ {A : Type 0} {before : Bytes} {out : A → List Segment} where
    pub rest_pure : (a : A) → lead ++ (plain before ∷ l) ≡ out a → ShowsRest lead before out (pure a) l
    rest_pure a h =
        record {
          go = λ s b o e.
              let q = pure_inverse a s e in
              ap (λ (m : Bytes). lead ++ (plain m ∷ l)) (ap (λ (m : Bytes). before ++ m) q.1 ∙ append-nil before) ∙ h ∙ ap out q.0;
        }

    -- a value that is tested before it is used
    pub rest_ensure : {B : Type 0} (k : B → Reader A) (n : ℕ) (t : Bool) (v : B) → ShowsRest lead before out (k v) l
        → ShowsRest lead before out (◌>>=◌ (ensure n t v) k) l
    unfolding ◌>>=◌ ensure
    rest_ensure k n true v R = R
    rest_ensure k n false v R = record { go = λ s a o e. absurd (bad_not_got n a [] e) }

-- ---- fields

append_cancel : (p q rest : Bytes) → p ++ rest ≡ q ++ rest → p ≡ q
append_cancel p q rest e =
    let size : length p ≡ length q = omega (arith, ap length e, length-append p rest, length-append q rest) in
    sym (take-append_seam p rest) ∙ (λ i. take (size i) (e i)) ∙ take-append_seam q rest

pub field_shown : {A : Type 0} {r : Reader A} {size : Bytes → ℕ} {bytes : A → Bytes} → Plainly r size → Prints [] bytes r
    → FieldShows (λ a. plain (bytes a) ∷ []) r (λ next s. cut (size s) plain next s)
field_shown {A} {r} {size} {bytes} Q P =
    record {
      go = λ next s rest a o e.
          let t = Q.took s rest a e in
          let p = P.go s rest a o e in
          let whole = take (size s) s in
          let split : whole ++ rest ≡ s = ap (λ (m : Bytes). whole ++ m) (sym t.left) ∙ take-append-drop (size s) s in
          let shown : whole ≡ bytes a = append_cancel whole (bytes a) rest (split ∙ p.0) in
          (cut_took plain next t ∙ ap (λ (m : Bytes). plain m ∷ next rest) shown, p.1);
    }

pub reference_shown : (count : ℕ) (wrap : ℕ → Segment) → FieldShows (λ n. wrap n ∷ []) (ref count) (reference wrap)
reference_shown count wrap =
    record {
      go = λ next s rest n o e.
          let w = ref_inverse count s e in
          (reference_read wrap next w, subst Octets w.left (octets_drop 4 s o));
    }

pub tested_shown : {A : Type 0} {out : A → List Segment} {r : Reader A} {field : Then → Then} (n : ℕ) (test : A → Bool) → FieldShows out r field
    → FieldShows out (◌>>=◌ r (λ a. ensure n (test a) a)) field
tested_shown {A} {out} {r} n test F = record { go = λ next s rest a o e. F.go next s rest a o (tested_inverse r n test s e) }

pub pair_shown : {r : Reader ℕ} {wrap : ℕ → Segment} {text-field field : Then → Then} → FieldShows (λ a. plain (text_bytes a) ∷ []) text text-field → FieldShows (λ n. wrap n ∷ []) r field
    → FieldShows (λ p. plain (text_bytes p.0) ∷ wrap p.1 ∷ []) (pair text r) (λ next. text-field (field next))
unfolding pair
pair_shown {r} {wrap} {text-field} {field} T F =
    record {
      go = λ next s rest p o e.
          let x = bind_inverse text _ s e in
          let y = bind_inverse r (λ n. pure (x.value, n)) x.mid x.after in
          let q = pure_inverse (x.value, y.value) y.mid y.after in
          let a = T.go (field next) s x.mid x.value o x.first in
          let b = F.go next x.mid y.mid y.value a.1 y.first in (
            a.0 ∙ ap (λ (l : List Segment). plain (text_bytes x.value) ∷ l) b.0
                ∙ (λ i. plain (text_bytes (q.0 i).0) ∷ wrap (q.0 i).1 ∷ next (q.1 i)),
            subst Octets q.1 b.1,
          );
    }

-- ---- lists

module _ {A : Type 0} {out : A → List Segment} {r : Reader A} (i : Item) (F : FieldShows out r (item_then i)) where
  items_shown : (n : ℕ) (s rest : Bytes) (l : List A) → Octets s → times n r s ≡ got l rest → items i n s ≡ collect out l
  unfolding times items collect
  items_shown zero s rest l o e = ap (collect out) (pure_inverse [] s e).0
  items_shown (suc n) s rest l o e =
      let x = bind_inverse r _ s e in
      let y = bind_inverse (times n r) (λ k. pure (x.value ∷ k)) x.mid x.after in
      let q = pure_inverse (x.value ∷ y.value) y.mid y.after in
      let p = F.go (items i n) s x.mid x.value o x.first in
      p.0 ∙ ap (λ (m : List Segment). out x.value ++ m) (items_shown n x.mid y.mid y.value p.1 y.first) ∙ ap (collect out) q.0

  pub shows_list : {B : Type 0} {before : List Segment} {total : B → List Segment} (f : List A → B) → ((l : List A) → before ++ (plain (low_bytes 4 (length l)) ∷ collect out l) ≡ total (f l))
      → Shows before total (◌>>=◌ (list r) (λ l. pure (f l))) (count_then i)
  unfolding list count_then
  shows_list {B} {before} {total} f h =
      record {
        go = λ s b o e.
            let x = bind_inverse (list r) (λ l. pure (f l)) s e in
            let q = pure_inverse (f x.value) x.mid x.after in
            let y = bind_inverse u32 (λ n. times n r) s x.first in
            let w = u32_inverse s y.first in
            let t = took_first w in
            let octets = subst Octets w.left (octets_drop 4 s o) in
            let size = times_length r y.value y.mid y.after in
            let printed = (prints_u32.go s y.mid y.value o y.first).0 in
            let split : take 4 s ++ y.mid ≡ s = ap (λ (m : Bytes). take 4 s ++ m) (sym t.left) ∙ take-append-drop 4 s in
            let count : take 4 s ≡ low_bytes 4 y.value = append_cancel (take 4 s) (low_bytes 4 y.value) y.mid (split ∙ printed) in
            let shown = items_shown y.value y.mid x.mid x.value octets y.after in
            let first : cut 4 plain (items i (low (take 4 s))) s ≡ plain (take 4 s) ∷ items i y.value y.mid =
            cut_took plain (items i (low (take 4 s))) t ∙ ap (λ (n : ℕ). plain (take 4 s) ∷ items i n y.mid) w.is in
            let second : plain (take 4 s) ∷ items i y.value y.mid ≡ plain (low_bytes 4 (length x.value)) ∷ collect out x.value =
            (λ j. plain ((count ∙ ap (low_bytes 4) (sym size)) j) ∷ shown j) in
            ap (λ (l : List Segment). before ++ l) (first ∙ second) ∙ h x.value ∙ ap total q.0;
      }
