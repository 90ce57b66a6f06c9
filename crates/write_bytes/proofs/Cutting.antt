-- A write that is cut after so many bytes: with little room the cut does not show, and else it is a nearer limit.
-- Assumes nothing.
use mathlib.Core.Path.{◌≡◌, refl, sym, ap, ◌∙◌}
use mathlib.Core.List.{[], ◌∷◌, ◌++◌}
use Prim.Native.Nat.{ℕ, zero, suc, ◌+◌, ◌-◌, ◌≤◌, ◌<◌, min}
use native.Mathlib.Nat.{not-suc-le-zero}
use native.Mathlib.Omega.{arith}
use lib.ListN.{length, take, length-append, length-take}
use lib.Seq.{take-append-add}
use Rattle.script_spec.specs.Base.{Bytes}
use Rattle.write_bytes.specs.declared.writer.Writer.{Writer}
use Rattle.write_bytes.specs.Writing.{laid, ceiling}
use Rattle.write_bytes.specs.Writers.{Writes}

-- bytes past the limit are not laid
laid_take : (n k : ℕ) (o s : Bytes) → n ≤ k → laid n o (take k s) ≡ laid n o s
unfolding laid
laid_take zero k o s h = refl
laid_take (suc n) zero o s h = absurd (not-suc-le-zero h)
laid_take (suc n) (suc k) [] s h = refl
laid_take (suc n) (suc k) (x ∷ o) [] h = refl
laid_take (suc n) (suc k) (x ∷ o) (b ∷ s) h = ap (λ (l : Bytes). b ∷ l) (laid_take n k o s (omega arith))

-- a copy that stops where the bytes end is whole
laid_whole : (n m : ℕ) (o s : Bytes) → length s ≤ n → length s ≤ m → laid n o s ≡ laid m o s
unfolding laid
laid_whole zero zero o s h k = refl
laid_whole zero (suc m) [] s h k = refl
laid_whole zero (suc m) (x ∷ o) [] h k = refl
laid_whole zero (suc m) (x ∷ o) (b ∷ s) h k = absurd (omega arith)
laid_whole (suc n) zero [] s h k = refl
laid_whole (suc n) zero (x ∷ o) [] h k = refl
laid_whole (suc n) zero (x ∷ o) (b ∷ s) h k = absurd (omega arith)
laid_whole (suc n) (suc m) [] s h k = refl
laid_whole (suc n) (suc m) (x ∷ o) [] h k = refl
laid_whole (suc n) (suc m) (x ∷ o) (b ∷ s) h k = ap (λ (l : Bytes). b ∷ l) (laid_whole n m o s (omega arith) (omega arith))

-- the place after a write that is cut past the limit
place_past : (la ls n m : ℕ) → m < la + n → min (la + ls) (m + 1) ≡ min (la + min n ls) (m + 1)
place_past la ls n m h = omega arith

-- the place after one that is cut within it
place_cut : (la ls n p : ℕ) → min p (la + n + 1) ≡ min (la + ls) (la + n + 1) → min p (la + n) ≡ la + min n ls
place_cut la ls n p h = omega arith

module _ {v : Writer} {n room : ℕ} {s : Bytes} (e : room ≡ ceiling v.limit - v.at) where
  pub cut_short : {w : Writer} → room < n → Writes v w s → Writes v w (take n s)
  cut_short {w} h A = record {
    same = A.same;
    limit_is = A.limit_is;
    size = A.size;
    go = λ o a w.
        let k = A.go o a w in
        let few : ceiling v.limit < length a + n = omega (arith, w.place) in
        record {
          holds = k.holds ∙ sym (laid_take (ceiling v.limit) (length a + n) o (a ++ s) (omega arith)) ∙ ap (laid (ceiling v.limit) o) (take-append-add a s n);
          place = simp (length-append, length-take) (simp length-append at k.place ∙ place_past (length a) (length s) n (ceiling v.limit) few);
        };
  }

  -- the writer with a nearer limit, and then with its own again
  pub cut_long : {end p : ℕ} {w : Writer} → n ≤ room → 0 < n → end ≡ v.at + n → p ≡ min w.at end → Writes (record v { limit = end }) w s
      → Writes v (record w { limit = v.limit; at = p }) (take n s)
  cut_long {end} {p} {w} h k f hp A = record {
    same = A.same;
    limit_is = refl;
    size = A.size;
    go = λ o a b.
        let on : v.at ≡ length a = omega (arith, b.place) in
        let near : ceiling end ≡ length a + n = omega arith in
        let c = A.go o a (record { holds = b.holds ∙ laid_whole (ceiling v.limit) (ceiling end) o a (omega arith) (omega arith); place = omega arith }) in
        let cut : laid (ceiling end) o (a ++ take n s) ≡ laid (ceiling end) o (a ++ s) = ap (laid (ceiling end) o) (sym (take-append-add a s n)) ∙ laid_take (ceiling end) (length a + n) o (a ++ s) (omega arith) in
        let size : length (a ++ take n s) ≤ length a + n = simp (length-append, length-take) (omega arith) in
        record {
          holds = c.holds ∙ sym cut ∙ laid_whole (ceiling end) (ceiling v.limit) o (a ++ take n s) (omega arith) (omega arith);
          place =
              let there : end ≡ length a + n = omega arith in
              let place : min w.at (length a + n + 1) ≡ min (length a + length s) (length a + n + 1) = rw (near, length-append) at c.place in
              let r : p ≡ length a + min n (length s) = hp ∙ (rw there (place_cut (length a) (length s) n w.at place)) in
              let l : length (a ++ take n s) ≡ length a + min n (length s) = simp (length-append, length-take) in
              rw (r, l);
        };
  }
