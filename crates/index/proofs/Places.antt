-- The places of terms among the records of a file: in a file with one record more, and that of the first equal term.
-- Assumes nothing.
use mathlib.Core.Path.{◌≡◌, refl, sym, ap, ◌∙◌}
use Prim.Native.Nat.{ℕ, zero, suc, ◌<◌}
use native.Mathlib.Nat.{le_of_suc-le-suc, not-suc-le-zero}
use native.Mathlib.Omega.{arith}
use mathlib.Core.Bool.{Bool, true, false}
use mathlib.Core.List.{[], ◌∷◌, ◌++◌}
use mathlib.Core.Option.{Option, none, some, get_or}
use lib.ListN.{length}
use Rattle.script_spec.specs.Base.{empty, place, place_from, collect}
use Rattle.script_spec.specs.Tree.{Tm, eq_tm}
use Rattle.script_spec.specs.File.{TermFile, Named, type, enum, func, term, input, terms, term_at}
use Rattle.script_spec.specs.Walk.{is_term, first_equal}
use Rattle.script_spec.proofs.Laws.{never}
use Rattle.index.specs.First.{first_term, first}
use Rattle.index.specs.Meaning.{place_after, record_place}
use Rattle.index.proofs.Firsts.{equal_terms, place_first}

-- ---- one record more

-- the place of an old term
pub place_kept : (f : TermFile) (r : Named) (n : ℕ) → n < length (terms f) → record_place (f ++ (r ∷ [])) n ≡ record_place f n
unfolding terms collect record_place place_after empty
place_kept [] r n l = absurd (not-suc-le-zero l)
place_kept (type t ∷ f) r n l = ap suc (place_kept f r n l)
place_kept (enum name members ∷ f) r n l = ap suc (place_kept f r n l)
place_kept (func g ∷ f) r n l = ap suc (place_kept f r n l)
place_kept (input t ∷ f) r n l = ap suc (place_kept f r n l)
place_kept (term t ∷ f) r zero l = refl
place_kept (term t ∷ f) r (suc n) l = ap suc (place_kept f r n (le_of_suc-le-suc l))

-- the place of a new one
pub place_last : (f : TermFile) (t : Tm) → record_place (f ++ (term t ∷ [])) (length (terms f)) ≡ length f
unfolding terms collect record_place place_after empty
place_last [] t = refl
place_last (type u ∷ f) t = ap suc (place_last f t)
place_last (enum name members ∷ f) t = ap suc (place_last f t)
place_last (func g ∷ f) t = ap suc (place_last f t)
place_last (input u ∷ f) t = ap suc (place_last f t)
place_last (term u ∷ f) t = ap suc (place_last f t)

-- ---- the first equal term

-- the first of the terms that is equal is the first of the records
first_record : (t : Tm) (f : TermFile) (n : ℕ) → place (eq_tm t) (terms f) ≡ some n → place (is_term t) f ≡ some (record_place f n)
unfolding place place_from is_term terms collect record_place place_after empty
first_record t [] n e = never cc
first_record t (type u ∷ f) n e = rw (first_record t f n e)
first_record t (enum name members ∷ f) n e = rw (first_record t f n e)
first_record t (func g ∷ f) n e = rw (first_record t f n e)
first_record t (input u ∷ f) n e = rw (first_record t f n e)
first_record t (term u ∷ f) n e = go (eq_tm t u) (place (eq_tm t) (terms f)) n e (λ m q. first_record t f m q)
  where
    go : (b : Bool) (o : Option ℕ) (m : ℕ) → place_from b o ≡ some m → ((i : ℕ) → o ≡ some i → place (is_term t) f ≡ some (record_place f i))
        → place_from b (place (is_term t) f) ≡ some (place_after false (λ i. record_place f i) m)
    go true o zero q rest = refl
    go true o (suc m) q rest = absurd (let z : 0 ≡ suc m = cc in omega arith)
    go false none m q rest = never cc
    go false (some i) zero q rest = absurd (let z : suc i ≡ 0 = cc in omega arith)
    go false (some i) (suc m) q rest = let z : suc i ≡ suc m = cc in let y : i ≡ m = omega arith in rw (rest i refl, y)

-- the place of a term that is the first equal one
pub place_first_equal : (f : TermFile) (n : ℕ) → n < length (terms f) → first_term f n ≡ n → record_place f n ≡ first_equal f (term_at f n)
unfolding first_term first_equal term_at first
place_first_equal f n l e =
    let p : place (eq_tm (term_at f n)) (terms f) ≡ some n = place_first equal_terms _ (terms f) n l (term_at f n) (equal_terms.reflexive (term_at f n)) ∙ ap some e in
    sym (ap (λ (o : Option ℕ). get_or o 0) (first_record (term_at f n) f n p))
