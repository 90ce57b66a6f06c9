-- The references of a list differ exactly where none repeats among their first equal numbers.
-- Assumes nothing.
use mathlib.Core.Path.{◌≡◌, refl, sym, ap, ◌∙◌, subst}
use Prim.Native.Nat.{ℕ, zero, suc, ◌+◌, ◌*◌, ◌<◌}
use native.Mathlib.Omega.{arith}
use mathlib.Core.Bool.{Bool, true, false, not, ◌&&◌, ◌||◌}
use mathlib.Core.List.{List, [], ◌∷◌, map}
use lib.Dec.{leb, eqb, leb→le}
use borrow.Author.Tests.{eq-eqb, ne_eqb}
use lib.ListN.{length, take, drop, get_or, length-drop, get_or-map}
use lib.Seq.{drop-drop}
use Rattle.script_spec.specs.Base.{Bytes, any}
use Rattle.script_spec.specs.Fields.{got, pure, low, times, u32}
use Rattle.script_spec.proofs.Laws.{never}
use Rattle.script_spec.proofs.Readers.{bind_inverse, pure_inverse, u32_inverse}
use Rattle.index.specs.Cells.{cell, term_first}
use Rattle.index.specs.Lists.{number_at}
use Rattle.index.specs.Rules.{different}
use Rattle.check_rules.specs.Repeats.{ref_at, first_at, References, Repeated, Different, RepeatsTold, Tells}
use Rattle.std.specs.Prelude.{Option, Some}
use Rattle.index.specs.declared.Records.{Records}
use Rattle.index.specs.declared.RecordsMut.{RecordsMut}
use Rattle.check_rules.proofs.Noting.{Views}
use Rattle.check_rules.proofs.References.{ref_there}
use Rattle.check_rules.specs.Decided.{DecidesItems, LeavesMemory}
use Rattle.check_rules.specs.Tests.{different_terms}

-- ---- numbers that differ

any_none : (n d : ℕ) (ys : List ℕ) → ((j : ℕ) → j < length ys → n ≡ get_or ys j d → ⊥) → any (eqb n) ys ≡ false
unfolding any
any_none n d [] h = refl
any_none n d (y ∷ ys) h = rw (ne_eqb n y (h 0 (omega arith)), any_none n d ys (λ j l. h (suc j) (omega arith)))

any_there : (n d : ℕ) (ys : List ℕ) (j : ℕ) → j < length ys → n ≡ get_or ys j d → any (eqb n) ys ≡ true
unfolding any
any_there n d [] j l e = absurd (omega arith)
any_there n d (y ∷ ys) zero l e = rw (eq-eqb n y e)
any_there n d (y ∷ ys) (suc j) l e = go (eqb n y) (any_there n d ys j (omega arith) e)
  where
    go : (b : Bool) {a : Bool} → a ≡ true → b || a ≡ true
    go true e = refl
    go false e = e

pub different_all : (d : ℕ) (ys : List ℕ) → Different (λ i. get_or ys i d) (length ys) → different ys ≡ true
unfolding different
different_all d [] D = refl
different_all d (y ∷ ys) D =
    rw (
      any_none y d ys (λ j l e. D.go (record { first = 0; second = suc j; ordered = omega arith; below = omega arith; equal = e })),
      different_all d ys (record { go = λ R. D.go (record { first = suc R.first; second = suc R.second; ordered = omega (arith, R.ordered); below = omega (arith, R.below); equal = R.equal }) }),
    )

both_false : (a b : Bool) → b ≡ false → not a && b ≡ false
both_false true b e = refl
both_false false b e = e

pub different_not : (d : ℕ) (ys : List ℕ) (i j : ℕ) → i < j → j < length ys → get_or ys i d ≡ get_or ys j d → different ys ≡ false
unfolding different
different_not d [] i j l m e = absurd (omega arith)
different_not d (y ∷ ys) zero zero l m e = absurd (omega arith)
different_not d (y ∷ ys) zero (suc j) l m e = rw (any_there y d ys j (omega arith) e)
different_not d (y ∷ ys) (suc i) zero l m e = absurd (omega arith)
different_not d (y ∷ ys) (suc i) (suc j) l m e = both_false (any (eqb y) ys) (different ys) (different_not d ys i j (omega arith) (omega arith) e)

-- ---- the references that are read

ref_later : (body : Bytes) (from i : ℕ) → ref_at body (from + 4) i ≡ ref_at body from (suc i)
unfolding ref_at
ref_later body from i =
    let e : from + 4 + 4 * i ≡ from + 4 * suc i = omega arith in
    ap (number_at body) e

ref_first : (body : Bytes) (from : ℕ) → leb 4 (length (drop from body)) ≡ true → low (take 4 (drop from body)) ≡ ref_at body from 0
ref_first body from h =
    let e : from ≡ from + 4 * 0 = omega arith in
    ap (λ (m : ℕ). low (take 4 (drop m body))) e ∙ ref_there body from 0 (omega (arith, leb→le 4 (length (drop from body)) (rw h tt), length-drop from body))

pub references_read : (body : Bytes) (count from : ℕ) (xs : List ℕ) (rest : Bytes) → times count u32 (drop from body) ≡ got xs rest → References body from xs count
unfolding times pure
references_read body zero from xs rest e = let n : xs ≡ [] = cc in rw n (record { size = refl; are = λ i l. absurd (omega arith) })
references_read body (suc count) from xs rest e =
    let b = bind_inverse u32 _ (drop from body) e in
    let c = bind_inverse (times count u32) _ b.mid b.after in
    let p = pure_inverse (b.value ∷ c.value) c.mid c.after in
    let w = u32_inverse (drop from body) b.first in
    let left : b.mid ≡ drop (from + 4) body = sym w.left ∙ drop-drop 4 from body in
    let R = references_read body count (from + 4) c.value c.mid (subst (λ (s : Bytes). times count u32 s ≡ got c.value c.mid) left c.first) in
    subst (λ (l : List ℕ). References body from l (suc count)) p.0
    (record { size = ap suc R.size; are = λ i l. at i l (sym w.is ∙ ref_first body from w.fits) R })
  where
    at : {v : ℕ} {vs : List ℕ} (i : ℕ) → i < suc count → v ≡ ref_at body from 0 → References body (from + 4) vs count → get_or (v ∷ vs) i 0 ≡ ref_at body from i
    at zero l e R = e
    at (suc i) l e R = R.are i (omega arith) ∙ ref_later body from i

module _ (body : Bytes) (work : List ℕ) (k from count : ℕ) where
  -- the first equal number of each item
  pub numbers_are : (xs : List ℕ) → References body from xs count → (i : ℕ) → i < count → get_or (map (cell work k term_first) xs) i (cell work k term_first 0) ≡ first_at body work k from i
  unfolding first_at
  numbers_are xs R i l = get_or-map (cell work k term_first) xs i 0 ∙ ap (cell work k term_first) (R.are i l)

length_map : (φ : ℕ → ℕ) (xs : List ℕ) → length (map φ xs) ≡ length xs
length_map φ [] = refl
length_map φ (x ∷ xs) = ap suc (length_map φ xs)

-- they differ exactly where none repeats
module _ (body : Bytes) (work : List ℕ) (k from : ℕ) {count : ℕ} {xs : List ℕ} (R : References body from xs count) where
  size : length (map (cell work k term_first) xs) ≡ count
  size = length_map (cell work k term_first) xs ∙ R.size

  pub references_differ : Different (first_at body work k from) count → different_terms work k xs ≡ true
  unfolding different_terms
  references_differ D =
      different_all (cell work k term_first 0) (map (cell work k term_first) xs)
      (record {
        go = λ P.
            let m : P.second < count = rw (← size) P.below in
            let at = numbers_are body work k from count xs R in
            D.go (record { first = P.first; second = P.second; ordered = P.ordered; below = m; equal = sym (at P.first (omega (arith, P.ordered))) ∙ P.equal ∙ at P.second m });
      })

  pub references_repeat : Repeated (first_at body work k from) count → different_terms work k xs ≡ false
  unfolding different_terms
  references_repeat P =
      let at = numbers_are body work k from count xs R in
      different_not (cell work k term_first 0) (map (cell work k term_first) xs) P.first P.second P.ordered (rw size P.below)
      (at P.first (omega (arith, P.ordered, P.below)) ∙ P.equal ∙ sym (at P.second P.below))

  pub differ_references : different_terms work k xs ≡ true → Different (first_at body work k from) count
  differ_references h = record { go = λ P. let q = references_repeat P in never (cc (h, q)) }

-- ---- what the answer decides

-- by the answer of the notes
module _ {body : Bytes} {v w : RecordsMut} {from count : ℕ} {r : Option Bool} (T : Tells body v w from count r) where
  says : {a : Option Bool} → r ≡ a → RepeatsTold (first_at body v.work.now v.sizes.rows from) count a
  says e = subst (λ (r : Option Bool). RepeatsTold (first_at body v.work.now v.sizes.rows from) count r) e T.answer

  never_differ : r ≡ Some false → LeavesMemory v w (DecidesItems u32 (different_terms v.work.now v.sizes.rows) body from count true)
  never_differ e = record { unchanged = T.unchanged; told = record { go = λ xs rest q. sym (references_differ body v.work.now v.sizes.rows from (references_read body count from xs rest q) (says e)) } }

  once_differ : r ≡ Some true → LeavesMemory v w (DecidesItems u32 (different_terms v.work.now v.sizes.rows) body from count false)
  once_differ e = record { unchanged = T.unchanged; told = record { go = λ xs rest q. sym (references_repeat body v.work.now v.sizes.rows from (references_read body count from xs rest q) (says e)) } }

  pub told_differ : (b : Bool) → r ≡ Some b → LeavesMemory v w (DecidesItems u32 (different_terms v.work.now v.sizes.rows) body from count (not b))
  told_differ true e = once_differ e
  told_differ false e = never_differ e

  pub pairs_differ : (x : Records) {b : Bool} → Views x w → DecidesItems u32 (different_terms x.work.now x.sizes.rows) body from count b → LeavesMemory v w (DecidesItems u32 (different_terms v.work.now v.sizes.rows) body from count b)
  pairs_differ x V D = record { unchanged = T.unchanged; told = rw (V.1, V.2, T.unchanged.memory, T.unchanged.sizes_are) at D }
