-- Readers of plain bytes read what is printed of their values: a relation of a reader and a printer that each way of making a reader has.
-- Assumes nothing.
use Prim.Native.Nat.{ℕ, zero, suc, ◌+◌, ◌*◌, ◌/◌, ◌%◌, ◌<◌}
use native.Mathlib.Nat.{zero-add, add-zero}
use native.Mathlib.Omega.{arith}
use mathlib.Core.Path.{◌≡◌, refl, sym, ap, ◌∙◌, subst}
use mathlib.Core.Bool.{Bool}
use mathlib.Core.List.{List, [], ◌∷◌, ◌++◌, append_assoc, append-nil}
use lib.ListN.{length, take, drop, get_or, take-append-drop}
use lib.Seq.{get_or-drop}
use Rattle.script_spec.specs.Base.{Bytes, collect}
use Rattle.script_spec.specs.Fields.{got, Reader, ◌>>=◌, pure, ensure, byte, low, high, number, address, u32, text, list, times, coded, part}
use Rattle.script_spec.proofs.Readers.{bad_not_got, bind_inverse, pure_inverse, tested_inverse, Took, took_first, took_length, part_inverse, number_inverse, coded_inverse}
use Rattle.index_compare.specs.Printed.{low_bytes, high_bytes, text_bytes, list_bytes}
use Rattle.index_compare.proofs.Inverse.{text_inverse}
use Rattle.index_compare.proofs.Agreement.{Each, each_at}

-- every element is a byte
abbrev pub Octets : Bytes → Type 0
Octets s = (i : ℕ) → get_or s i 0 < 256

pub octets_drop : (n : ℕ) (s : Bytes) → Octets s → Octets (drop n s)
octets_drop n s h i = rw (get_or-drop n s i 0) (h (n + i))

pub octets_take : (n : ℕ) (s : Bytes) → Octets s → Octets (take n s)
octets_take zero s h i = omega arith
octets_take (suc n) [] h i = omega arith
octets_take (suc n) (b ∷ s) h zero = h 0
octets_take (suc n) (b ∷ s) h (suc i) = octets_take n s (λ j. h (suc j)) i

-- ---- numbers

low_printed : (p : Bytes) → Octets p → low_bytes (length p) (low p) ≡ p
unfolding low_bytes low
low_printed [] h = refl
low_printed (b ∷ p) h =
    let small = h 0 in
    let first : (b + 256 * low p) % 256 ≡ b = omega arith in
    let rest : (b + 256 * low p) / 256 ≡ low p = omega arith in
    rw (first, rest, low_printed p (λ i. h (suc i)))

high_printed : (p : Bytes) (v k : ℕ) (rest : Bytes) → Octets p → high_bytes (length p + k) (high v p) rest ≡ high_bytes k v (p ++ rest)
unfolding high_bytes high
high_printed [] v k rest h = rw zero-add
high_printed (b ∷ p) v k rest h =
    let small = h 0 in
    let size : suc (length p) + k ≡ length p + suc k = omega arith in
    let first : (v * 256 + b) % 256 ≡ b = omega arith in
    let above : (v * 256 + b) / 256 ≡ v = omega arith in
    rw size (high_printed p (v * 256 + b) (suc k) rest (λ i. h (suc i)) ∙ (rw (first, above)))

-- ---- readers

-- what stands before a reader's bytes, and these, are what is printed of its value
pub record Prints {A : Type 0} (before : Bytes) (out : A → Bytes) (r : Reader A) : Type 0 where
  pub go : (s rest : Bytes) (a : A) → Octets s → r s ≡ got a rest → (before ++ s ≡ out a ++ rest) × Octets rest

module _ {A B : Type 0} {before : Bytes} {out : A → Bytes} {total : B → Bytes} {r : Reader A} {k : A → Reader B} where
  pub prints_bind : Prints [] out r → ((a : A) → Prints (before ++ out a) total (k a)) → Prints before total (◌>>=◌ r k)
  prints_bind P H =
      record {
        go = λ s rest b o e.
            let x = bind_inverse r k s e in
            let p = P.go s x.mid x.value o x.first in
            let q = (H x.value).go x.mid rest b p.1 x.after in
            (ap (λ (l : Bytes). before ++ l) p.0 ∙ sym (append_assoc before (out x.value) x.mid) ∙ q.0, q.1);
      }

module _ {A : Type 0} {before : Bytes} {out : A → Bytes} where
  pub prints_pure : (a : A) → before ≡ out a → Prints before out (pure a)
  prints_pure a h =
      record {
        go = λ s rest b o e.
            let q = pure_inverse a s e in
            ((λ i. h i ++ q.1 i) ∙ ap (λ (x : A). out x ++ rest) q.0, subst Octets q.1 o);
      }

  pub prints_tested : {r : Reader A} (n : ℕ) (test : A → Bool) → Prints before out r → Prints before out (◌>>=◌ r (λ a. ensure n (test a) a))
  prints_tested {r} n test P = record { go = λ s rest a o e. P.go s rest a o (tested_inverse r n test s e) }

  -- a code of a table
  pub prints_coded : (table : List (Reader A)) → Each (λ b r. Prints (before ++ (b ∷ [])) out r) 0 table → Prints before out (coded table)
  prints_coded table h =
      record {
        go = λ s rest a o e.
            let c = coded_inverse table s e in
            let code : c.code + 0 ≡ c.code = omega arith in
            let P = subst (λ (b : ℕ). Prints (before ++ (b ∷ [])) out c.reader) code (each_at (λ b r. Prints (before ++ (b ∷ [])) out r) c.code 0 table h c.has) in
            let octets = subst Octets c.is o in
            let p = P.go c.mid rest a (λ i. octets (suc i)) c.reads in
            (ap (λ (l : Bytes). before ++ l) c.is ∙ sym (append_assoc before (c.code ∷ []) c.mid) ∙ p.0, p.1);
      }

-- ---- fields

took_split : {k : ℕ} {s p rest : Bytes} → Took k s p rest → s ≡ p ++ rest
took_split {k} {s} t = sym (take-append-drop k s) ∙ (rw (t.is, t.left))

took_octets : {k : ℕ} {s p rest : Bytes} → Took k s p rest → Octets s → Octets rest
took_octets {k} {s} t o = subst Octets t.left (octets_drop k s o)

pub prints_number : (k : ℕ) → Prints [] (low_bytes k) (number k)
prints_number k =
    record {
      go = λ s rest n o e.
          let w = number_inverse k s e in
          let t = took_first w in
          let shown : low_bytes k n ≡ take k s = (λ i. low_bytes (sym (took_length t) i) (sym w.is i)) ∙ low_printed (take k s) (octets_take k s o) in
          (took_split t ∙ ap (λ (p : Bytes). p ++ rest) (sym shown), took_octets t o);
    }

pub prints_u32 : Prints [] (low_bytes 4) u32
unfolding u32
prints_u32 = prints_number 4

pub prints_address : (k : ℕ) → Prints [] (λ a. high_bytes k a []) (address k)
unfolding address high_bytes
prints_address k =
    record {
      go = λ s rest n o e.
          let x = bind_inverse (part k) (λ bs. pure (high 0 bs)) s e in
          let t = part_inverse k s x.first in
          let q = pure_inverse (high 0 x.value) x.mid x.after in
          let p = x.value in
          let octets = subst Octets t.is (octets_take k s o) in
          let size : k ≡ length p + 0 = sym (took_length t) ∙ sym (add-zero (length p)) in
          let shown : high_bytes k n [] ≡ p = (λ i. high_bytes (size i) (sym q.0 i) []) ∙ high_printed p 0 0 [] octets ∙ append-nil p in
          (took_split t ∙ (λ i. sym shown i ++ q.1 i), subst Octets q.1 (took_octets t o));
    }

pub prints_byte : Prints [] (λ b. b ∷ []) byte
unfolding byte
prints_byte = record { go = λ s rest b o e. from s rest b o e }
  where
    from : (s rest : Bytes) (b : ℕ) → Octets s → byte s ≡ got b rest → (s ≡ b ∷ rest) × Octets rest
    from [] rest b o e = absurd (bad_not_got 5 b rest e)
    from (c ∷ s) rest b o e =
        let first : c ≡ b = cc in
        let left : s ≡ rest = cc in
        ((λ i. first i ∷ left i), subst Octets left (λ i. o (suc i)))

pub prints_text : Prints [] text_bytes text
unfolding text_bytes
prints_text =
    record {
      go = λ s rest a o e.
          let t = text_inverse s e in
          let shown : low_bytes 4 (length a) ≡ take 4 s = (λ i. low_bytes (sym t.count i) (sym t.size i)) ∙ low_printed (take 4 s) (octets_take 4 s o) in
          (took_split t.took ∙ ap (λ (p : Bytes). (p ++ a) ++ rest) (sym shown), took_octets t.took o);
    }

-- ---- lists

pub times_length : {A : Type 0} (r : Reader A) (n : ℕ) (s : Bytes) {l : List A} {rest : Bytes} → times n r s ≡ got l rest → length l ≡ n
unfolding times
times_length {A} r zero s e = ap length (sym (pure_inverse [] s e).0)
times_length {A} r (suc n) s {l} e =
    let x = bind_inverse r _ s e in
    let y = bind_inverse (times n r) (λ k. pure (x.value ∷ k)) x.mid x.after in
    let q = pure_inverse (x.value ∷ y.value) y.mid y.after in
    ap length (sym q.0) ∙ ap suc (times_length r n x.mid y.first)

module _ {A : Type 0} {out : A → Bytes} {r : Reader A} (P : Prints [] out r) where
  prints_times : (n : ℕ) → Prints [] (collect out) (times n r)
  unfolding times collect
  prints_times zero = prints_pure [] refl
  prints_times (suc n) = prints_bind P (λ a. prints_bind (prints_times n) (λ l. prints_pure (a ∷ l) refl))

  pub prints_list : Prints [] (list_bytes out) (list r)
  unfolding list list_bytes
  prints_list =
      record {
        go = λ s rest l o e.
            let x = bind_inverse u32 (λ n. times n r) s e in
            let p = prints_u32.go s x.mid x.value o x.first in
            let q = (prints_times x.value).go x.mid rest l p.1 x.after in
            let size = times_length r x.value x.mid x.after in (
              p.0 ∙ ap (λ (m : Bytes). low_bytes 4 x.value ++ m) q.0 ∙ ap (λ (n : ℕ). low_bytes 4 n ++ (collect out l ++ rest)) (sym size)
                  ∙ sym (append_assoc (low_bytes 4 (length l)) (collect out l) rest),
              q.1,
            );
      }
