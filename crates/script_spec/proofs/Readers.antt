-- Laws of readers: what follows a field that gave a value or a refusal, and what a reader that gave a value has read.
-- Assumes nothing.
use Prim.Native.Nat.{ℕ, ◌+◌, ◌-◌, ◌≤◌, ◌<◌}
use native.Mathlib.Omega.{arith}
use mathlib.Core.Path.{◌≡◌, refl, sym, ap, ◌∙◌}
use mathlib.Core.Bool.{Bool, true, false}
use mathlib.Core.List.{List, [], ◌∷◌, ◌++◌}
use mathlib.Core.Option.{Option, none, some}
use lib.Dec.{leb, leb→le}
use borrow.Author.Tests.{le-leb, leb-false}
use lib.ListN.{length, take, drop, length-drop}
use lib.Seq.{take-add, drop-drop, length-take-le}
use Rattle.script_spec.specs.Base.{Bytes, at}
use Rattle.script_spec.specs.Fields.{Read, got, bad, Reader, ◌>>=◌, pure, ensure, part, byte, low, number, u32, ref, present, coded}
use Rattle.script_spec.proofs.Laws.{never}

-- ---- what a reader gives

module _ {A : Type 0} where
  -- a refusal is no value
  pub bad_not_got : (n : ℕ) (a : A) (rest : Bytes) → bad n ≡ got a rest → ⊥
  bad_not_got n a rest e = never cc

  -- the same value
  pub got_value : (a b : A) (s rest : Bytes) → got a s ≡ got b rest → a ≡ b
  got_value a b s rest e = cc

  -- and the same rest
  pub got_rest : (a b : A) (s rest : Bytes) → got a s ≡ got b rest → s ≡ rest
  got_rest a b s rest e = cc

-- one field after the other, where the first gives a value or a refusal
module _ {A B : Type 0} (r : Reader A) (k : A → Reader B) {s : Bytes} where
  pub bind_got : {a : A} {rest : Bytes} → r s ≡ got a rest → ◌>>=◌ r k s ≡ k a rest
  unfolding ◌>>=◌
  bind_got e = rw (◌>>=◌, e)

  pub bind_bad : {n : ℕ} → r s ≡ bad n → ◌>>=◌ r k s ≡ bad n
  unfolding ◌>>=◌
  bind_bad e = rw (◌>>=◌, e)

-- ---- ways of making a reader, taken back

-- two readers after one another: what the first gave
pub record Bound {A B : Type 0} (r : Reader A) (k : A → Reader B) (s : Bytes) (b : B) (rest : Bytes) : Type 0 where
  pub value : A
  pub mid : Bytes
  pub first : r s ≡ got value mid
  pub after : k value mid ≡ got b rest

module _ {A B : Type 0} (r : Reader A) (k : A → Reader B) (s : Bytes) {b : B} {rest : Bytes} where
  pub bind_inverse : ◌>>=◌ r k s ≡ got b rest → Bound r k s b rest
  unfolding ◌>>=◌
  bind_inverse e = from (r s) refl e
    where
      from : (x : Read A) → r s ≡ x → elim x [ got a left ↦ k a left | bad n ↦ bad n ] ≡ got b rest → Bound r k s b rest
      from (got a left) q h = record { value = a; mid = left; first = q; after = h }
      from (bad n) q h = never cc

module _ {A : Type 0} {b : A} {rest : Bytes} where
  -- a value that is known
  pub pure_inverse : (a : A) (s : Bytes) → pure a s ≡ got b rest → (a ≡ b) × (s ≡ rest)
  unfolding pure
  pure_inverse a s e = (cc, cc)

  -- a test that was passed
  pub ensure_inverse : (n : ℕ) (t : Bool) (a : A) (s : Bytes) → ensure n t a s ≡ got b rest → got a s ≡ got b rest
  unfolding ensure
  ensure_inverse n true a s e = e
  ensure_inverse n false a s e = never cc

  -- a value that was tested is the value that was read
  pub tested_inverse : (r : Reader A) (n : ℕ) (test : A → Bool) (s : Bytes) → ◌>>=◌ r (λ a. ensure n (test a) a) s ≡ got b rest → r s ≡ got b rest
  tested_inverse r n test s e =
      let x = bind_inverse r (λ a. ensure n (test a) a) s e in
      x.first ∙ ensure_inverse n (test x.value) x.value x.mid x.after

-- ---- bytes

-- the first k bytes of s are p, and the rest is left
pub record Took (k : ℕ) (s p rest : Bytes) : Type 0 where
  pub fits : leb k (length s) ≡ true
  pub is : take k s ≡ p
  pub left : drop k s ≡ rest

-- k bytes
pub part_inverse : (k : ℕ) (s : Bytes) {p rest : Bytes} → part k s ≡ got p rest → Took k s p rest
unfolding part
part_inverse k s {p} {rest} e = from (leb k (length s)) refl e
  where
    from : (b : Bool) → leb k (length s) ≡ b → elim b [ true ↦ got (take k s) (drop k s) | false ↦ bad 5 ] ≡ got p rest → Took k s p rest
    from true q h = record { fits = q; is = cc; left = cc }
    from false q h = never cc

-- the first k bytes of s make the number n, and the rest is left
pub record Numbered (k : ℕ) (s : Bytes) (n : ℕ) (rest : Bytes) : Type 0 where
  pub fits : leb k (length s) ≡ true
  pub is : low (take k s) ≡ n
  pub left : drop k s ≡ rest

-- as bytes
pub took_first : {k : ℕ} {s rest : Bytes} {n : ℕ} → Numbered k s n rest → Took k s (take k s) rest
took_first w = record { fits = w.fits; is = refl; left = w.left }

-- a number of k bytes
pub number_inverse : (k : ℕ) (s : Bytes) {n : ℕ} {rest : Bytes} → number k s ≡ got n rest → Numbered k s n rest
unfolding number
number_inverse k s e =
    let x = bind_inverse (part k) (λ bs. pure (low bs)) s e in
    let t = part_inverse k s x.first in
    let q = pure_inverse (low x.value) x.mid x.after in
    record { fits = t.fits; is = ap low t.is ∙ q.0; left = t.left ∙ q.1 }

-- a number of four bytes
pub u32_inverse : (s : Bytes) {n : ℕ} {rest : Bytes} → u32 s ≡ got n rest → Numbered 4 s n rest
unfolding u32
u32_inverse s e = number_inverse 4 s e

-- a number of four bytes that is not there
pub u32_short : (s : Bytes) (m : ℕ) → u32 s ≡ bad m → length s < 4
unfolding u32 number part pure
u32_short s m h = go (leb 4 (length s)) refl
  where
    go : (t : Bool) → leb 4 (length s) ≡ t → length s < 4
    go true e =
        let p : part 4 s ≡ got (take 4 s) (drop 4 s) = rw (part, e) in
        absurd (bad_not_got m (low (take 4 s)) (drop 4 s) (sym h ∙ bind_got (part 4) (λ (bs : Bytes). pure (low bs)) p))
    go false e = leb-false 4 (length s) e

-- a reference
pub ref_inverse : (count : ℕ) (s : Bytes) {n : ℕ} {rest : Bytes} → ref count s ≡ got n rest → Numbered 4 s n rest
unfolding ref
ref_inverse count s e = u32_inverse s (tested_inverse u32 8 _ s e)

-- m bytes and then n
pub took_both : {m n : ℕ} {s p mid a rest : Bytes} → Took m s p mid → Took n mid a rest → Took (m + n) s (p ++ a) rest
took_both {m} {n} {s} {p} {mid} {a} {rest} t u =
    let h : m ≤ length s = leb→le m (length s) (rw t.fits tt) in
    let k : n ≤ length mid = leb→le n (length mid) (rw u.fits tt) in
    let size : length mid ≡ length s - m = ap length (sym t.left) ∙ length-drop m s in
    record {
      fits = le-leb (m + n) (length s) (omega arith);
      is = take-add m n s ∙ (rw (t.is, t.left, u.is));
      left = sym (drop-drop n m s) ∙ ap (drop n) t.left ∙ u.left;
    }

-- so many they are
pub took_length : {k : ℕ} {s p rest : Bytes} → Took k s p rest → length p ≡ k
took_length {k} {s} t = ap length (sym t.is) ∙ length-take-le k s (leb→le k (length s) (rw t.fits tt))

-- ---- tables

-- a code: its byte stands first, and the reader that the table has for it reads on
pub record Coded {A : Type 0} (table : List (Reader A)) (s : Bytes) (a : A) (rest : Bytes) : Type 0 where
  pub code : ℕ
  pub mid : Bytes
  pub reader : Reader A
  pub is : s ≡ code ∷ mid
  pub has : at code table ≡ some reader
  pub reads : reader mid ≡ got a rest

-- a value that is there
present_inverse : {A : Type 0} (n : ℕ) (o : Option A) (s : Bytes) {a : A} {rest : Bytes} → present n o s ≡ got a rest → (o ≡ some a) × (s ≡ rest)
unfolding present
present_inverse n none s e = never cc
present_inverse n (some b) s e = (cc, cc)

-- a field with a code
pub coded_inverse : {A : Type 0} (table : List (Reader A)) (s : Bytes) {a : A} {rest : Bytes} → coded table s ≡ got a rest → Coded table s a rest
unfolding coded byte
coded_inverse table [] e = let x = bind_inverse byte _ [] e in never (cc x.first)
coded_inverse {A} table (b ∷ s) e =
    let x = bind_inverse byte _ (b ∷ s) e in
    let y = bind_inverse (present 7 (at x.value table)) (λ r. r) x.mid x.after in
    let q = present_inverse 7 (at x.value table) x.mid y.first in
    record { code = x.value; mid = x.mid; reader = y.value; is = cc x.first; has = q.0; reads = ap y.value q.1 ∙ y.after }
