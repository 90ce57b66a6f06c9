-- Laws of a text that is cut: by recursion on its bytes.
-- Assumes nothing.
use mathlib.Core.Path.{◌≡◌, refl, sym, ap, ◌∙◌}
use mathlib.Core.Bool.{Bool, true, false}
use mathlib.Core.List.{[], ◌∷◌, ◌++◌, append_assoc}
use Prim.Native.Nat.{ℕ, suc, ◌+◌, ◌≤◌, ◌<◌}
use native.Mathlib.Numerals.{add-one}
use native.Mathlib.Omega.{arith}
use lib.ListN.{length, take, drop, get_or}
use lib.Seq.{take-suc, drop-cons}
use Rattle.script_spec.specs.Base.{Bytes, between}
use Rattle.script_spec.specs.Text.{begun, cut_after}
use Rattle.script_spec.proofs.Cutting.{cut_on, cut_off}
use Rattle.write_text.specs.Comments.{Cuts}

-- at most one begins
begun_by : (t : Bool) → elim t as (λ x. ℕ) [ true ↦ 0 | false ↦ 1 ] ≤ 1
begun_by true = omega arith
begun_by false = omega arith

pub begun_one : {d : ℕ} (b : ℕ) → d ≡ begun b → d ≤ 1
unfolding begun
begun_one b e = rw e (begun_by (between 128 191 b))

-- ---- a text byte by byte

-- after more than 200 code points nothing is kept
pub cut_over : (n : ℕ) (s : Bytes) → 200 < n → cut_after n s ≡ []
unfolding cut_after
cut_over n [] h = refl
cut_over n (b ∷ s) h = cut_off n b s (omega arith)

-- a text is kept as far as a place, with so many code points before the place
pub record Kept (s : Bytes) (n at sum : ℕ) : Type 0 where
  pub inside : at ≤ length s
  pub few : sum ≤ 200
  pub goes : (r : Bytes) → cut_after n (s ++ r) ≡ take at s ++ cut_after sum (drop at s ++ r)

module _ {s : Bytes} {n at sum d : ℕ} (h : at < length s) (e : d ≡ begun (get_or s at 0)) (k : Kept s n at sum) where
  here : (r : Bytes) → drop at s ++ r ≡ get_or s at 0 ∷ (drop (suc at) s ++ r)
  here r = ap (λ (l : Bytes). l ++ r) (drop-cons s at 0 h)

  pub kept_more : sum + d ≤ 200 → Kept s n (at + 1) (sum + d)
  kept_more l = record {
    inside = omega arith;
    few = l;
    goes = λ r.
        k.goes r
        ∙ ap (λ (t : Bytes). take at s ++ cut_after sum t) (here r)
        ∙ ap (λ (t : Bytes). take at s ++ t) (cut_on sum (get_or s at 0) (drop (suc at) s ++ r) (rw (← e) l))
        ∙ (rw (← e, add-one at, take-suc s at 0 h) (sym (append_assoc (take at s) (get_or s at 0 ∷ []) (cut_after (sum + d) (drop (suc at) s ++ r)))));
  }

  pub kept_cut : 200 < sum + d → Cuts s n (record { end = at; points = sum + d })
  kept_cut l = record {
    inside = omega arith;
    kept = λ r.
        k.goes r
        ∙ ap (λ (t : Bytes). take at s ++ cut_after sum t) (here r)
        ∙ ap (λ (t : Bytes). take at s ++ t) (cut_off sum (get_or s at 0) (drop (suc at) s ++ r) (rw (← e) l) ∙ sym (cut_over (sum + d) r l));
  }
