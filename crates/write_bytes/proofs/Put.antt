-- One write into a buffer: a text copied into the part that the limit leaves, and a byte that is stored.
-- Assumes nothing.
use mathlib.Core.Path.{◌≡◌, refl, sym, ap, ◌∙◌}
use mathlib.Core.List.{[], ◌∷◌, ◌++◌}
use Prim.Native.Nat.{ℕ, zero, suc, ◌+◌, ◌-◌, ◌≤◌, ◌<◌, min}
use native.Mathlib.Nat.{not-suc-le-zero}
use native.Mathlib.Omega.{arith}
use lib.ListN.{length, take, drop, set, get_or, length-append, length-take, length-drop, length-set}
use lib.Seq.{take_all}
use Rattle.std.proofs.lemmas.List.{take_more, take_more_set}
use Rattle.script_spec.specs.Base.{Bytes}
use Rattle.write_bytes.specs.declared.writer.Writer.{Writer}
use Rattle.write_bytes.specs.Writing.{laid, longest, ceiling}
use Rattle.write_bytes.specs.Writers.{Writes}
use Rattle.write_bytes.proofs.Laws.{length_laid, laid_nil, laid_full}

-- ---- bytes copied over a part

-- one byte more
pub copied_more : (x s : Bytes) (i : ℕ) → i < length x → i < length s → take i x ≡ take i s → take (i + 1) (set x i (get_or s i 0)) ≡ take (i + 1) s
copied_more x s i h k e = take_more_set x i (get_or s i 0) h ∙ ap (λ (t : Bytes). t ++ (get_or s i 0 ∷ [])) e ∙ sym (take_more s i 0 k)

-- all of them
pub copied_all : (x s : Bytes) (i : ℕ) → length x ≡ length s → length s ≤ i → take i x ≡ take i s → x ≡ s
copied_all x s i h k e = sym (take_all i x (omega arith)) ∙ e ∙ take_all i s k

-- ---- bytes laid over a part

-- the bytes of s that fit, and what the buffer held after them
laid_cut : (n k : ℕ) (o s : Bytes) → k ≡ min (length s) (min (length o) n) → take k s ++ drop k o ≡ laid n o s
unfolding laid
laid_cut zero zero o s h = refl
laid_cut zero (suc k) o s h = absurd (omega arith)
laid_cut (suc n) zero [] s h = refl
laid_cut (suc n) (suc k) [] s h = absurd (omega arith)
laid_cut (suc n) zero (x ∷ o) [] h = refl
laid_cut (suc n) (suc k) (x ∷ o) [] h = absurd (omega arith)
laid_cut (suc n) zero (x ∷ o) (b ∷ s) h = absurd (omega arith)
laid_cut (suc n) (suc k) (x ∷ o) (b ∷ s) h = ap (λ (l : Bytes). b ∷ l) (laid_cut n k o s (omega arith))

-- a write into the part from p on continues what was written before p
laid_rest : (n p k : ℕ) (o a s : Bytes) → p ≡ min (length a) (min (length o) n) → k ≡ min (length s) (min (length o) n - p)
    → take p (laid n o a) ++ (take k s ++ drop k (drop p (laid n o a))) ≡ laid n o (a ++ s)
unfolding laid
laid_rest n zero k o [] s h e = rw (laid_nil n o) (laid_cut n k o s (omega arith))
laid_rest n (suc p) k o [] s h e = absurd (omega arith)
laid_rest zero zero zero o (b ∷ a) s h e = refl
laid_rest zero zero (suc k) o (b ∷ a) s h e = absurd (omega arith)
laid_rest zero (suc p) k o (b ∷ a) s h e = absurd (omega arith)
laid_rest (suc n) zero zero [] (b ∷ a) s h e = refl
laid_rest (suc n) zero (suc k) [] (b ∷ a) s h e = absurd (omega arith)
laid_rest (suc n) (suc p) k [] (b ∷ a) s h e = absurd (omega arith)
laid_rest (suc n) zero k (x ∷ o) (b ∷ a) s h e = absurd (omega arith)
laid_rest (suc n) (suc p) k (x ∷ o) (b ∷ a) s h e = ap (λ (l : Bytes). b ∷ l) (laid_rest n p k o a s (omega arith) (omega arith))

-- a byte after what is written
laid_byte : (n : ℕ) (o a : Bytes) (b : ℕ) → length a < n → length a < length o → set (laid n o a) (length a) b ≡ laid n o (a ++ (b ∷ []))
unfolding laid
laid_byte zero o a b h k = absurd (not-suc-le-zero h)
laid_byte (suc n) [] a b h k = absurd (not-suc-le-zero k)
laid_byte (suc n) (x ∷ o) [] b h k = ap (λ (l : Bytes). b ∷ l) (sym (laid_nil n o))
laid_byte (suc n) (x ∷ o) (c ∷ a) b h k = ap (λ (l : Bytes). c ∷ l) (laid_byte n o a b (omega arith) (omega arith))

-- ---- one write

-- the part that a write goes into starts where the bytes before it end, or at its end e
part_start : (la lo m c at p e : ℕ) → c ≡ min m longest → lo ≤ longest → min at (c + 1) ≡ min la (c + 1) → e ≡ min lo m → p ≡ min at e → p ≡ min la (min lo c)
part_start la lo m c at p e hc h g k l = omega arith

part_size : (ls lo m c p k e : ℕ) → c ≡ min m longest → lo ≤ longest → e ≡ min lo m → k ≡ min ls (e - p) → k ≡ min ls (min lo c - p)
part_size ls lo m c p k e hc h g l = omega arith

-- the place after a write: past the limit, or within it
place_moved : (la ls c at r : ℕ) → min at (c + 1) ≡ min la (c + 1) → min r (c + 1) ≡ min (at + ls) (c + 1) → min r (c + 1) ≡ min (la + ls) (c + 1)
place_moved la ls c at r h k = omega arith

-- as much of s as there is room for is copied to p
pub put_writes : {v : Writer} {p q k e r : ℕ} {ys s : Bytes} → length v.out.now ≤ longest → e ≡ min (length v.out.now) v.limit → p ≡ min v.at e
    → k ≡ min (length s) (e - p) → q ≡ k → ys ≡ take k s → min r (ceiling v.limit + 1) ≡ min (v.at + length s) (ceiling v.limit + 1)
    → Writes v (record v { out = record v.out { now = take p v.out.now ++ (ys ++ drop q (drop p v.out.now)) }; at = r }) s
put_writes {v} {p} {q} {k} {e} {r} {ys} {s} small he hp hk hq hy hr = record {
  same = refl;
  limit_is = refl;
  size = rw (hq, hy) (simp (length-append, length-take, length-drop) (omega arith));
  go = λ o a w.
      let l : length v.out.now ≡ length o = ap length w.holds ∙ length_laid (ceiling v.limit) o a in
      let start : p ≡ min (length a) (min (length o) (ceiling v.limit)) = part_start (length a) (length o) v.limit (ceiling v.limit) v.at p e refl (omega arith) w.place (omega arith) hp in
      let size : k ≡ min (length s) (min (length o) (ceiling v.limit) - p) = part_size (length s) (length o) v.limit (ceiling v.limit) p k e refl (omega arith) (omega arith) hk in
      record {
        holds = rw (hq, hy, w.holds) (laid_rest (ceiling v.limit) p k o a s start size);
        place = simp length-append (place_moved (length a) (length s) (ceiling v.limit) v.at r w.place hr);
      };
}

-- a byte stored at its place, which is below the end
pub byte_writes : {v : Writer} {e b : ℕ} → length v.out.now ≤ longest → e ≡ min (length v.out.now) v.limit → v.at < e
    → Writes v (record v { out = record v.out { now = set v.out.now v.at b }; at = v.at + 1 }) (b ∷ [])
byte_writes {v} {e} {b} small he h = record {
  same = refl;
  limit_is = refl;
  size = length-set _ _ _;
  go = λ o a w.
      let l : length v.out.now ≡ length o = ap length w.holds ∙ length_laid (ceiling v.limit) o a in
      let place : v.at ≡ length a = omega (arith, w.place) in
      record {
        holds = rw (w.holds, place) (laid_byte (ceiling v.limit) o a b (omega arith) (omega arith));
        place = simp length-append (omega arith);
      };
}

-- a write whose place is at the end or past it
pub past_writes : {v : Writer} {e r : ℕ} {s : Bytes} → length v.out.now ≤ longest → e ≡ min (length v.out.now) v.limit → e ≤ v.at
    → r ≡ min (v.at + length s) (ceiling v.limit + 1) → Writes v (record v { at = r }) s
past_writes {v} {e} {r} {s} small he h hr = record {
  same = refl;
  limit_is = refl;
  size = refl;
  go = λ o a w.
      let l : length v.out.now ≡ length o = ap length w.holds ∙ length_laid (ceiling v.limit) o a in
      record {
        holds = w.holds ∙ laid_full (ceiling v.limit) o a s (omega (arith, w.place));
        place = simp length-append (place_moved (length a) (length s) (ceiling v.limit) v.at r w.place (omega arith));
      };
}
