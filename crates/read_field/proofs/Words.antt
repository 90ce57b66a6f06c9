-- Laws of numbers of four bytes each: what a reader of elements has read, and that numbers take no more than their bytes.
-- Assumes nothing.
use Prim.Native.Nat.{ℕ, zero, suc, ◌+◌, ◌-◌, ◌*◌, ◌≤◌, ◌<◌}
use native.Mathlib.Nat.{zero-add, suc-add, mul-div_cancel_left}
use native.Mathlib.Omega.{arith}
use mathlib.Core.Path.{◌≡◌, refl, ap, ◌∙◌}
use mathlib.Core.List.{List, [], ◌∷◌}
use borrow.Author.Tests.{le-leb}
use lib.Dec.{leb→le}
use lib.ListN.{length, take, drop}
use lib.Seq.{take-nil, take-take, length-take-le}
use Rattle.script_spec.specs.Base.{Bytes}
use Rattle.script_spec.specs.Fields.{got, pure, low, u32, element, times}
use Rattle.script_spec.proofs.Readers.{bind_inverse, pure_inverse, tested_inverse, Took, Numbered, took_first, took_both, u32_inverse}
use Rattle.read_field.specs.Words.{words, elements}

-- an element
element_inverse : (s : Bytes) {n : ℕ} {rest : Bytes} → element s ≡ got n rest → Numbered 4 s n rest
unfolding element
element_inverse s e = u32_inverse s (tested_inverse u32 7 _ s e)

-- elements: their bytes stand first, and the rest is left
pub record Elements (n : ℕ) (s : Bytes) (p : List ℕ) (rest : Bytes) : Type 0 where
  pub took : Took (4 * n) s (take (4 * n) s) rest
  pub value : words n s ≡ p

-- n elements
pub elements_inverse : (n : ℕ) (s : Bytes) {p : List ℕ} {rest : Bytes} → times n element s ≡ got p rest → Elements n s p rest
unfolding times words
elements_inverse zero s e =
    let q = pure_inverse [] s e in
    record { took = record { fits = le-leb 0 (length s) (omega arith); is = refl; left = q.1 }; value = q.0 }
elements_inverse (suc n) s e =
    let x = bind_inverse element _ s e in
    let w = element_inverse s x.first in
    let y = bind_inverse (times n element) (λ l. pure (x.value ∷ l)) x.mid x.after in
    let later = elements_inverse n x.mid y.first in
    let q = pure_inverse (x.value ∷ y.value) y.mid y.after in
    let four = took_first w in
    let all = took_both four later.took in
    let size : 4 * suc n ≡ 4 + 4 * n = omega arith in
    let value : low (take 4 s) ∷ words n (drop 4 s) ≡ x.value ∷ y.value = rw (w.is, w.left, later.value) in
    record {
      took = record { fits = rw size all.fits; is = refl; left = ap (λ (m : ℕ). drop m s) size ∙ all.left ∙ q.1 };
      value = value ∙ q.0;
    }

-- the first m + n without the first m
drop_take : (m n : ℕ) (s : Bytes) → drop m (take (m + n) s) ≡ take n (drop m s)
drop_take zero n s = rw zero-add
drop_take (suc m) n [] = rw (suc-add, take-nil) refl
drop_take (suc m) n (x ∷ s) = rw suc-add (drop_take m n s)

-- numbers take no more than their bytes
pub words_take : (n m : ℕ) (s : Bytes) → 4 * n ≤ m → words n (take m s) ≡ words n s
unfolding words
words_take zero m s h = refl
words_take (suc n) m s h =
    let four : 4 ≤ m = omega arith in
    let size : m ≡ 4 + (m - 4) = omega arith in
    rw (take-take 4 m s four, ap (λ (j : ℕ). drop 4 (take j s)) size ∙ drop_take 4 (m - 4) s, words_take n (m - 4) (drop 4 s) (omega arith))

-- ---- the elements of a pattern

-- the elements of the bytes that hold n of them
elements_take : (n : ℕ) (s : Bytes) → 4 * n ≤ length s → elements (take (4 * n) s) ≡ words n s
unfolding elements
elements_take n s h =
    let pos : 0 < 4 = omega arith in
    let l : length (take (4 * n) s) ≡ 4 * n = length-take-le (4 * n) s h in
    rw (l, mul-div_cancel_left n pos) (words_take n (4 * n) s (omega arith))

-- what a reader of n elements finds in a body, by the bytes that hold them
pub elements_read : (n : ℕ) (s : Bytes) (cs : List ℕ) (r : Bytes) → times n element s ≡ got cs r → elements (take (4 * n) s) ≡ cs
elements_read n s cs r h =
    let w = elements_inverse n s h in
    elements_take n s (leb→le (4 * n) (length s) (rw w.took.fits tt)) ∙ w.value
