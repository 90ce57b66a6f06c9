-- The unwritten part of a buffer, lent to a line: what is written there from its start continues what was written before.
-- Assumes nothing.
use mathlib.Core.Path.{◌≡◌, refl, sym, ap, ◌∙◌, subst}
use Prim.Native.Nat.{ℕ, zero, suc, ◌+◌, ◌-◌, ◌≤◌, ◌<◌, min}
use native.Mathlib.Omega.{arith}
use mathlib.Core.Bool.{Bool, true, false}
use mathlib.Core.List.{[], ◌∷◌, ◌++◌, append-nil}
use lib.Dec.{leb}
use lib.ListN.{length, take, drop, length-append, length-take, length-drop, drop_of_length-le, take-append-drop}
use lib.Seq.{take_all}
use borrow.Author.Tests.{leb-true, leb-false}
use Rattle.script_spec.specs.Base.{Bytes}
use Rattle.write_bytes.specs.Writing.{laid, ceiling, moved, Wrote}
use Rattle.write_bytes.specs.Writers.{Writes, InRest, LendsRest, Lends, past, within}
use Rattle.write_bytes.specs.declared.writer.Writer.{Writer}
use Rattle.write_bytes.proofs.Laws.{length_laid, laid_nil, laid_full, nothing_past, from_start, past_length}

-- ---- the rest of a buffer

laid_zero : (o s : Bytes) → laid 0 o s ≡ o
unfolding laid
laid_zero o s = refl

laid_none : (n : ℕ) (s : Bytes) → laid n [] s ≡ []
unfolding laid
laid_none zero s = refl
laid_none (suc n) s = refl

-- bytes laid over the rest continue what stands before it
laid_on : (m p room : ℕ) (o a s : Bytes) → p ≡ min (length a) (length o) → room + length a ≡ m → take p (laid m o a) ++ laid room (drop p (laid m o a)) s ≡ laid m o (a ++ s)
unfolding laid
laid_on m zero room o [] s h k =
    let same : room ≡ m = omega arith in
    rw (laid_nil m o, same)
laid_on m (suc p) room o [] s h k = absurd (omega arith)
laid_on zero p room o (b ∷ a) s h k = absurd (omega arith)
laid_on (suc m) zero room [] (b ∷ a) s h k = laid_none room s
laid_on (suc m) (suc p) room [] (b ∷ a) s h k = absurd (omega arith)
laid_on (suc m) zero room (x ∷ o) (b ∷ a) s h k = absurd (omega arith)
laid_on (suc m) (suc p) room (x ∷ o) (b ∷ a) s h k = ap (λ (l : Bytes). b ∷ l) (laid_on m p room o a s (omega arith) (omega arith))

-- the place after a line whose length counts as far as the room
line_moved : (at m room n ls r : ℕ) → at ≤ m → room ≡ m - at → min n (room + 1) ≡ min ls (room + 1) → r ≡ min (at + n) (m + 1) → min r (m + 1) ≡ min (at + ls) (m + 1)
line_moved at m room n ls r h k e q = omega arith

-- a place past the limit stays past it
past_moved : (la ls at m n r : ℕ) → m < at → min at (m + 1) ≡ min la (m + 1) → r ≡ min (at + n) (m + 1) → min r (m + 1) ≡ min (la + ls) (m + 1)
past_moved la ls at m n r h e k = omega arith

-- a line that is written from the start of the rest is appended to the whole
pub rest_appends : (limit at room n r p : ℕ) (x ys s : Bytes) → room ≡ ceiling limit - at → p ≡ min at (length x) → Wrote room (drop p x) ys n s → r ≡ moved at n (ceiling limit)
    → (o a : Bytes) → Wrote limit o x at a → Wrote limit o (take p x ++ ys) r (a ++ s)
rest_appends limit at room n r p x ys s hroom hp w hr o a v = by (leb at m) refl
  where
    m : ℕ
    m = ceiling limit

    small : ceiling room ≡ room
    small = omega arith

    line : ys ≡ laid room (drop p x) s
    line = w.holds ∙ ap (λ (k : ℕ). laid k (drop p x) s) small

    counted : min n (room + 1) ≡ min (length s) (room + 1)
    counted = rw small at w.place

    is : x ≡ laid m o a
    is = v.holds

    l : length x ≡ length o
    l = ap length v.holds ∙ length_laid (ceiling limit) o a

    hat : min at (m + 1) ≡ min (length a) (m + 1)
    hat = v.place

    by : (b : Bool) → leb at m ≡ b → Wrote limit o (take p x ++ ys) r (a ++ s)
    by true e =
        let fits : at ≤ m = leb-true at m e in
        let end : at ≡ length a = omega arith in
        record {
          holds = rw (line, is) (laid_on m p room o a s (rw (end, l) at hp) (omega arith));
          place = simp length-append (rw (← end) (line_moved at m room n (length s) r fits hroom counted hr));
        }
    by false e =
        let past : m < at = leb-false at m e in
        let none : room ≡ 0 = omega arith in
        let kept : take p x ++ drop p x ≡ laid m o a = take-append-drop p x ∙ is in
        record {
          holds = rw (line, none, laid_zero) (kept ∙ laid_full m o a s (past_length (length a) (length o) at m hat past));
          place = simp length-append (past_moved (length a) (length s) at m n r past hat hr);
        }

-- ---- lending

module _ {P : Writer → Writer → Type 0} {v w : Writer} where
  -- within the limit the buffer keeps its length
  pub lent_size : LendsRest P v w → length w.out.now ≡ length v.out.now
  lent_size L =
      let p = min v.at (length v.out.now) in
      ap length L.holds ∙ simp (length-append, length-take) (omega (arith, L.line.size, length-drop p v.out.now))

  -- and what the line wrote is written
  rest_lent : {s : Bytes} → ((x y : Writer) → P x y → Writes x y s) → LendsRest P v w → Writes v w s
  rest_lent {s} h L =
      let I = L.line in
      let W = h I.rest I.after I.wrote in
      let p = min v.at (length v.out.now) in
      let wrote : Wrote (ceiling v.limit - v.at) (drop p v.out.now) I.after.out.now I.after.at s = rw (I.room_is, I.lent) at (from_start I.starts W) in
      let whole : w.out.now ≡ take p v.out.now ++ I.after.out.now = L.holds ∙ ap (λ (b : Bytes). take p v.out.now ++ b) (I.holds W.same) in
      record {
        same = L.same;
        limit_is = L.limit_is;
        size = lent_size L;
        go = λ o a q. rw whole (rest_appends v.limit v.at (ceiling v.limit - v.at) I.after.at w.at p v.out.now I.after.out.now s refl refl wrote (rw I.place at L.moves) o a q);
      }

-- what the line writes is written
pub lent : {P : Writer → Writer → Type 0} {v w : Writer} {s : Bytes} → ((x y : Writer) → P x y → Writes x y s) → Lends P v w → Writes v w s
lent {v = v} {s = s} h (past far e) = subst (λ (w : Writer). Writes v w s) (sym e) (nothing_past far)
lent h (within fits L) = rest_lent h L

-- the rest as it is lent and comes back: the part from p on, and nothing after it
rest_whole : (p : ℕ) (x ys : Bytes) → p ≤ length x → take p x ++ (ys ++ drop (length x - p) (drop p x)) ≡ take p x ++ ys
rest_whole p x ys h =
    let l : length (drop p x) ≤ length x - p = simp length-drop (omega arith) in
    rw (drop_of_length-le (drop p x) l, append-nil)

rest_all : (p : ℕ) (x : Bytes) → p ≤ length x → take (length x - p) (drop p x) ≡ drop p x
rest_all p x h = take_all (length x - p) (drop p x) (simp length-drop (omega arith))

-- a line that was lent the rest
pub lends : (P : Writer → Writer → Type 0) {v w : Writer} {p room n : ℕ} {ys : Bytes} → v.at ≤ ceiling v.limit
    → InRest P room (take (length v.out.now - p) (drop p v.out.now)) ys n → p ≡ min v.at (length v.out.now) → room ≡ ceiling v.limit - v.at
    → w.out.ghost_name ≡ v.out.ghost_name → w.limit ≡ v.limit → w.out.now ≡ take p v.out.now ++ (ys ++ drop (length v.out.now - p) (drop p v.out.now))
    → w.at ≡ moved v.at n (ceiling v.limit) → Lends P v w
lends P {v} {w} {p} {room} {n} {ys} fits I hp hr hs hm hw moves =
    let inside : p ≤ length v.out.now = omega arith in
    within fits (record {
      same = hs;
      limit_is = hm;
      rest = ys;
      length_is = n;
      line = rw (hp, hr) at (rw (rest_all p v.out.now inside) at I);
      holds = hw ∙ rest_whole p v.out.now ys inside ∙ ap (λ (k : ℕ). take k v.out.now ++ ys) hp;
      moves = moves;
    })
