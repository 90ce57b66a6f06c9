-- The hash of a set does not depend on the order of its elements.
-- Assumes nothing.
use Prim.Native.Nat.{ℕ, ◌+◌, ◌%◌}
use native.Mathlib.Nat.{mod-add-mod}
use native.Mathlib.Omega.{arith}
use mathlib.Core.Path.{◌≡◌, refl, sym, ap, ◌∙◌, subst}
use mathlib.Core.Bool.{Bool, true, false}
use mathlib.Core.List.{List, [], ◌∷◌, Memᴰ}
use lib.Dec.{T, eqb, ltb, eqb→eq}
use Rattle.index.specs.First.{inserted, ascended}
use Rattle.index.specs.Rules.{different}
use Rattle.index.proofs.Ascended.{inserted_by, inserted_is, mem_ascended}
use Rattle.index_search.specs.Hash.{element, gathered, set_hash}
use Rattle.index_search.proofs.Members.{differ_cons, ascended_size}

-- sums in either order, what is above 2 ^ 64 left out
sum_swapped : (s a b : ℕ) → ((s + a) % 18446744073709551616 + b) % 18446744073709551616 ≡ ((s + b) % 18446744073709551616 + a) % 18446744073709551616
sum_swapped s a b =
    let e : s + a + b ≡ s + b + a = omega arith in
    mod-add-mod (s + a) 18446744073709551616 b ∙ ap (λ (n : ℕ). n % 18446744073709551616) e ∙ sym (mod-add-mod (s + b) 18446744073709551616 a)

module _ (k h : ℕ) where
  gathered_swapped : (s m n : ℕ) (ns : List ℕ) → gathered k h s (m ∷ n ∷ ns) ≡ gathered k h s (n ∷ m ∷ ns)
  unfolding gathered
  gathered_swapped s m n ns = ap (λ (t : ℕ). gathered k h t ns) (sum_swapped s (element k h m) (element k h n))

  -- one element more, wherever it is put
  gathered_inserted : (s n : ℕ) (ns : List ℕ) → (Memᴰ n ns → ⊥) → gathered k h s (inserted n ns) ≡ gathered k h s (n ∷ ns)
  unfolding inserted inserted_by gathered
  gathered_inserted s n [] out = refl
  gathered_inserted s n (m ∷ ms) out = ap (gathered k h s) (inserted_is n m ms) ∙ go (ltb n m) (eqb n m) refl (λ t. gathered_inserted t n ms (λ j. out (Memᴰ.tail j)))
    where
      go : (a b : Bool) → eqb n m ≡ b → ((t : ℕ) → gathered k h t (inserted n ms) ≡ gathered k h t (n ∷ ms)) → gathered k h s (inserted_by a b n m ms (inserted n ms)) ≡ gathered k h s (n ∷ m ∷ ms)
      go true b e later = refl
      go false true e later = absurd (out (Memᴰ.head (eqb→eq n m (subst T (sym e) tt))))
      go false false e later = later ((s + element k h m) % 18446744073709551616) ∙ gathered_swapped s m n ms

  gathered_ascended : (s : ℕ) (ns : List ℕ) → different ns ≡ true → gathered k h s (ascended ns) ≡ gathered k h s ns
  unfolding ascended gathered
  gathered_ascended s [] d = refl
  gathered_ascended s (n ∷ ns) d =
      let p = differ_cons n ns d in
      gathered_inserted s n (ascended ns) (λ j. p.0 (mem_ascended ns n j)) ∙ gathered_ascended ((s + element k h n) % 18446744073709551616) ns p.1

-- the hash of a set is that of its elements in ascending order
pub set_hash_ascended : (k t : ℕ) (ns : List ℕ) → different ns ≡ true → set_hash k t (ascended ns) ≡ set_hash k t ns
unfolding set_hash
set_hash_ascended k t ns d = rw (ascended_size ns d) (gathered_ascended k _ _ ns d)
