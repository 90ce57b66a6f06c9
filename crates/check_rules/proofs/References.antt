-- A reference by its place in the body.
-- Assumes nothing.
use mathlib.Core.Path.{◌≡◌, refl, sym, ◌∙◌}
use Prim.Native.Nat.{ℕ, ◌+◌, ◌-◌, ◌*◌, ◌≤◌, ◌<◌}
use native.Mathlib.Omega.{arith}
use mathlib.Core.Bool.{Bool, true, false}
use lib.Dec.{leb}
use borrow.Author.Tests.{le-leb, lt-leb, leb-false}
use lib.ListN.{length, take, drop, length-drop}
use lib.Seq.{drop-drop}
use Rattle.script_spec.specs.Base.{Bytes}
use Rattle.script_spec.specs.Fields.{low, part, u32}
use Rattle.script_spec.proofs.Laws.{never}
use Rattle.script_spec.proofs.Readers.{part_inverse, u32_inverse, u32_short}
use Rattle.refusal.specs.declared.Refusal.{Refusal}
use Rattle.refusal.specs.Numbers.{number}
use Rattle.read_field.specs.Reads.{as_read}
use Rattle.read_field.specs.declared.Cursor.{Cursor}
use Rattle.read_field.specs.Takes.{TakesTo, RefusesAt}
use Rattle.index.specs.Lists.{number_at}
use Rattle.check_rules.specs.Repeats.{ref_at}

module _ (body : Bytes) (from i : ℕ) where
  pub ref_read : {n : ℕ} → leb 4 (length (drop (from + 4 * i) body)) ≡ true → n ≡ low (take 4 (drop (from + 4 * i) body)) → n ≡ ref_at body from i
  unfolding ref_at number_at
  ref_read h e = rw (number_at, h) e

  pub ref_short : leb 4 (length (drop (from + 4 * i) body)) ≡ false → 0 ≡ ref_at body from i
  unfolding ref_at number_at
  ref_short h = rw (number_at, h)

  pub ref_there : from + 4 * i + 4 ≤ length body → low (take 4 (drop (from + 4 * i) body)) ≡ ref_at body from i
  ref_there h = ref_read (le-leb 4 (length (drop (from + 4 * i) body)) (rw length-drop (omega arith))) refl

  pub ref_past : length body < from + 4 * i + 4 → 0 ≡ ref_at body from i
  ref_past h = ref_short (lt-leb 4 (length (drop (from + 4 * i) body)) (rw length-drop (omega arith)))

-- what is taken after the references before it, or 0
module _ (b : Cursor) (i : ℕ) where
  -- the references before it are not all there
  pub ref_none : {e : Refusal} → RefusesAt (part (4 * i)) b e → 0 ≡ ref_at b.body.now b.at i
  unfolding as_read part
  ref_none {e} h = go (leb (4 * i) (length (drop b.at b.body.now))) refl
    where
      go : (t : Bool) → leb (4 * i) (length (drop b.at b.body.now)) ≡ t → 0 ≡ ref_at b.body.now b.at i
      go true q = let r = rw (part, q) at h.reads.is in never cc
      go false q = ref_past b.body.now b.at i (omega (arith, leb-false (4 * i) (length (drop b.at b.body.now)) q, length-drop b.at b.body.now))

  module _ {c : Cursor} {before : Bytes} (passed : TakesTo (part (4 * i)) b c before) where
    here : drop c.at c.body.now ≡ drop (b.at + 4 * i) b.body.now
    unfolding as_read
    here = rw passed.body (sym (part_inverse (4 * i) (drop b.at b.body.now) passed.reads.is).left ∙ drop-drop (4 * i) b.at b.body.now)

    pub ref_taken : {d : Cursor} {n : ℕ} → TakesTo u32 c d n → n ≡ ref_at b.body.now b.at i
    unfolding as_read
    ref_taken h = let w = u32_inverse (drop (b.at + 4 * i) b.body.now) (rw here at h.reads.is) in ref_read b.body.now b.at i w.fits (sym w.is)

    pub ref_refused : {e : Refusal} → RefusesAt u32 c e → 0 ≡ ref_at b.body.now b.at i
    unfolding as_read
    ref_refused {e} h =
        let short : length (drop (b.at + 4 * i) b.body.now) < 4 = u32_short (drop (b.at + 4 * i) b.body.now) (number e) (rw here at h.reads.is) in
        let size : length (drop (b.at + 4 * i) b.body.now) ≡ length b.body.now - (b.at + 4 * i) = length-drop (b.at + 4 * i) b.body.now in
        ref_past b.body.now b.at i (omega arith)
