-- Laws for the steps of a walk: four bytes as a number, and the segments cut from the bytes that are left.
-- Assumes nothing.
use Prim.Native.Nat.{ℕ, zero, suc, ◌+◌, ◌-◌, ◌≤◌, ◌<◌}
use native.Mathlib.Omega.{arith}
use mathlib.Core.Path.{◌≡◌, ap, ◌∙◌}
use mathlib.Core.Bool.{true, false}
use mathlib.Core.List.{List, [], ◌∷◌}
use lib.Dec.{leb, leb→le, nleb→lt}
use borrow.Author.Tests.{le-leb, lt-leb}
use lib.ListN.{length, take, drop, get_or, length-drop}
use lib.Seq.{take_all}
use Rattle.std.specs.Prelude.{Option, Some, None, IfNone}
use Rattle.std.specs.Bool.{⊤}
use Rattle.std.specs.Iterator.{YieldsFirstBy, MakesProgress, item_count}
use Rattle.script_spec.specs.Base.{Bytes}
use Rattle.script_spec.specs.Fields.{low}
use Rattle.index_compare.specs.Segment.{Segment, plain}
use Rattle.index_compare.specs.Machine.{Then, cut, reference, operand_of, coded_then, code_then, operator_then, item_then, items, last, ahead}
use Rattle.index_compare.specs.Step.{told, led_by, WordRead, walk_ending}
use Rattle.index_compare.specs.declared.segments.Operand.{Operand}
use Rattle.index_compare.specs.declared.segments.Item.{Item}
use Rattle.index_compare.specs.declared.segments.Segment as met
use Rattle.index_compare.specs.declared.segments.Segments.{Segments}
use Rattle.index_compare.specs.declared.segments.Walk.{Walk}

pub word_fits : (s : Bytes) → leb 4 (length s) ≡ true → 4 ≤ length s
word_fits s h = leb→le 4 (length s) (rw h tt)

-- the bytes after the first n, as a slice has them
pub part_after : (n : ℕ) (s : Bytes) → take (length s - n) (drop n s) ≡ drop n s
part_after n s = take_all (length s - n) (drop n s) (omega (arith, length-drop n s))

module _ (n : ℕ) (s : Bytes) (wrap : Bytes → Segment) (next : Then) where
  pub cut_short : length s < n → cut n wrap next s ≡ []
  unfolding cut
  cut_short h = let q = lt-leb n (length s) h in rw (q, cut)

  pub cut_at : n ≤ length s → cut n wrap next s ≡ wrap (take n s) ∷ next (drop n s)
  unfolding cut
  cut_at h = let q = le-leb n (length s) h in rw (q, cut)

-- where a count is missing nothing is cut with it
pub cut_uncounted : (m : ℕ) (s : Bytes) (wrap : Bytes → Segment) (next : Then) → leb 4 (length s) ≡ false → cut (4 + m) wrap next s ≡ []
cut_uncounted m s wrap next h =
    let k : length s < 4 = nleb→lt 4 (length s) (rw h tt) in
    cut_short (4 + m) s wrap next (omega arith)

module _ (s : Bytes) (wrap : ℕ → Segment) (next : Then) where
  pub reference_short : leb 4 (length s) ≡ false → reference wrap next s ≡ []
  unfolding reference
  reference_short h = cut_uncounted 0 s (λ p. wrap (low p)) next h

  pub reference_at : {n : ℕ} → WordRead s (Some n) → reference wrap next s ≡ wrap n ∷ next (drop 4 s)
  unfolding reference cut
  reference_at h = rw (h.0, h.1, cut)

-- ---- the end of a body, and of the fields

pub operator_with : (s : Bytes) (next : Then) {c : Option Operand} → operand_of (get_or s 0 0) ≡ c → operator_then next s ≡ cut 1 plain (coded_then c next) s
unfolding operator_then code_then
operator_with s next e = rw e

items_positive : (i : Item) (n : ℕ) (s : Bytes) → 0 < n → items i n s ≡ item_then i (items i (n - 1)) s
unfolding items
items_positive i zero s h = absurd (omega arith)
items_positive i (suc n) s h = let less : suc n - 1 ≡ n = omega arith in rw less

module _ (w : Walk) (s : Bytes) (fields : w.counts ≡ false) where
  pub ending_none : w.left ≡ 0 → walk_ending w s ≡ []
  unfolding walk_ending last items
  ending_none h = rw (fields, h)

  pub ending_item : {i : Item} → w.item ≡ i → 0 < w.left → walk_ending w s ≡ item_then i (items w.item (w.left - 1)) s
  unfolding walk_ending last
  ending_item {i} e h =
      let first : walk_ending w s ≡ item_then w.item (items w.item (w.left - 1)) s = rw fields (items_positive w.item w.left s h) in
      first ∙ ap (λ (j : Item). item_then j (items w.item (w.left - 1)) s) e

-- ---- the segments one by one

-- an iterator that gave the first of what was left has fewer left
module _ {S A B : Type 0} (rest : S → List B) {s t : S} where
  pub fewer_left : (view : A → B) (r : Option A) → YieldsFirstBy view rest s r t → MakesProgress (λ _. ⊤) (item_count rest) s r t
  fewer_left view None e = record { on = λ _. tt; keeps = tt; rests = λ _. tt }
  fewer_left view (Some x) e = let more : length (rest s) ≡ suc (length (rest t)) = ap length e in record { on = λ _. (tt, tt, omega arith); keeps = tt; rests = λ _. tt }

-- a step that gives the first segment, or rests where there is none
pub step_yields : (s t : Segments) (r : Option met.Segment) → ahead s ≡ led_by r (ahead t) → IfNone r (t ≡ s) → YieldsFirstBy told ahead s r t
step_yields s t None e h = (e, ap ahead h ∙ e)
step_yields s t (Some x) e h = e
