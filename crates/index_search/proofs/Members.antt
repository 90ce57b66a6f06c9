-- Numbers that differ: each is a member once, and where they are among as many others they are all of these.
-- Assumes nothing.
use Prim.Native.Nat.{ℕ, zero, suc, ◌≤◌, ◌<◌}
use native.Mathlib.Omega.{arith}
use native.Mathlib.Decide.{ℕ_discrete}
use mathlib.Core.Path.{◌≡◌, refl, sym, ap, ◌∙◌, subst}
use mathlib.Core.Logic.{◌⊎◌, inl, inr, ⊎_elim}
use mathlib.Core.Bool.{Bool, true, false, not, ◌&&◌, true≢false}
use mathlib.Core.List.Memᴰ
use mathlib.Core.List.{List, [], ◌∷◌, map, Memᴰ}
use lib.Dec.{T, eqb, ltb, eqb→eq}
use borrow.Author.Tests.{eq-eqb}
use lib.ListN.{length, get_or}
use Rattle.script_spec.specs.Base.{any}
use Rattle.script_spec.proofs.Lists.{any_mem}
use Rattle.script_spec.proofs.Pigeonhole.{Apart, apart, new, length_apart}
use Rattle.index.specs.First.{inserted, ascended}
use Rattle.index.specs.Rules.{different}
use Rattle.index.proofs.Ascended.{inserted_by, inserted_is, mem_ascended}

-- a list has every member of another
abbrev pub Within : List ℕ → List ℕ → Type 0
Within ys xs = (n : ℕ) → Memᴰ n ys → Memᴰ n xs

-- a number is a member or not
pub member : (n : ℕ) (ns : List ℕ) → Memᴰ n ns ⊎ (Memᴰ n ns → ⊥)
member n [] = inr (λ m. Memᴰ.not-nil m)
member n (m ∷ ms) = go (ℕ_discrete n m) (member n ms)
  where
    go : Dec (n ≡ m) → Memᴰ n ms ⊎ (Memᴰ n ms → ⊥) → Memᴰ n (m ∷ ms) ⊎ (Memᴰ n (m ∷ ms) → ⊥)
    go (yes e) r = inl (Memᴰ.head e)
    go (no e) (inl j) = inl (Memᴰ.tail j)
    go (no e) (inr h) = inr (λ j. elim (Memᴰ.cases_cons j) [ inl q ↦ e q | inr i ↦ h i ])

-- ---- numbers that differ

both_true : (a b : Bool) → not a && b ≡ true → (a ≡ false) × (b ≡ true)
both_true true b e = absurd (true≢false (sym e))
both_true false b e = (refl, e)

pub differ_cons : (n : ℕ) (ns : List ℕ) → different (n ∷ ns) ≡ true → (Memᴰ n ns → ⊥) × (different ns ≡ true)
unfolding different
differ_cons n ns e =
    let b = both_true (any (eqb n) ns) (different ns) e in
    (λ m. subst T b.0 (any_mem (eqb n) ns m (subst T (sym (eq-eqb n n refl)) tt)), b.1)

-- ---- members by their places

pub mem_at : (g : ℕ → ℕ) (xs : List ℕ) {m : ℕ} → Memᴰ m (map g xs) → (i : ℕ) × (i < length xs) × (m ≡ g (get_or xs i 0))
mem_at g [] j = absurd (Memᴰ.not-nil j)
mem_at g (x ∷ xs) (Memᴰ.head e) = (0, omega arith, e)
mem_at g (x ∷ xs) (Memᴰ.tail j) = let r = mem_at g xs j in (suc r.0, omega (arith, r.1), r.2)

pub at_mem : (g : ℕ → ℕ) (xs : List ℕ) (i : ℕ) → i < length xs → Memᴰ (g (get_or xs i 0)) (map g xs)
at_mem g [] i l = absurd (omega arith)
at_mem g (x ∷ xs) zero l = Memᴰ.head refl
at_mem g (x ∷ xs) (suc i) l = Memᴰ.tail (at_mem g xs i (omega arith))

-- ---- numbers among others

different_apart : (ns : List ℕ) → different ns ≡ true → Apart ns
different_apart [] d = apart
different_apart (n ∷ ns) d = let p = differ_cons n ns d in new p.0 (different_apart ns p.1)

-- as many numbers that differ as those that they are among are all of these
pub all_within : (ys xs : List ℕ) → different ys ≡ true → length ys ≡ length xs → Within ys xs → Within xs ys
all_within ys xs d e w n m =
    ⊎_elim (λ j. j)
    (λ h.
    let more : suc (length ys) ≤ length xs = length_apart (n ∷ ys) xs (new h (different_apart ys d)) (λ k j. elim (Memᴰ.cases_cons j) [ inl q ↦ subst (λ (i : ℕ). Memᴰ i xs) (sym q) m | inr i ↦ w k i ]) in
    absurd (omega (arith, more, e)))
    (member n ys)

-- ---- numbers in ascending order

pub inserted_size : (n : ℕ) (xs : List ℕ) → (Memᴰ n xs → ⊥) → length (inserted n xs) ≡ suc (length xs)
unfolding inserted inserted_by
inserted_size n [] h = refl
inserted_size n (m ∷ ms) h = ap length (inserted_is n m ms) ∙ go (ltb n m) (eqb n m) refl (inserted_size n ms (λ j. h (Memᴰ.tail j)))
  where
    go : (a b : Bool) → eqb n m ≡ b → length (inserted n ms) ≡ suc (length ms) → length (inserted_by a b n m ms (inserted n ms)) ≡ suc (suc (length ms))
    go true b e less = refl
    go false true e less = absurd (h (Memᴰ.head (eqb→eq n m (subst T (sym e) tt))))
    go false false e less = ap suc less

pub ascended_size : (xs : List ℕ) → different xs ≡ true → length (ascended xs) ≡ length xs
unfolding ascended
ascended_size [] d = refl
ascended_size (x ∷ xs) d = let p = differ_cons x xs d in inserted_size x (ascended xs) (λ j. p.0 (mem_ascended xs x j)) ∙ ap suc (ascended_size xs p.1)
