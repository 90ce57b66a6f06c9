-- Numbers in ascending order, each once: such lists with the same members are the same. By recursion on the lists.
-- Assumes nothing.
use Prim.Native.Nat.{ℕ, ◌<◌}
use native.Mathlib.Omega.{arith}
use mathlib.Core.Path.{◌≡◌, refl, sym, ◌∙◌, subst}
use mathlib.Core.Logic.{◌⊎◌, inl, inr}
use mathlib.Core.Bool.{Bool, true, false}
use mathlib.Core.List.Memᴰ
use mathlib.Core.List.{List, [], ◌∷◌, Memᴰ}
use lib.Dec.{T, eqb, ltb, eqb→eq, ltb→lt, lt→ltb}
use borrow.Author.Tests.{eq-eqb}
use Rattle.index.specs.First.{inserted, ascended}

-- each is below the later ones
unfoldable pub Ascends : List ℕ → Type 0
Ascends [] = Unit {0}
Ascends (x ∷ xs) = ((y : ℕ) → Memᴰ y xs → x < y) × Ascends xs

-- what an insertion makes, by its tests
unfoldable pub inserted_by : Bool → Bool → ℕ → ℕ → List ℕ → List ℕ → List ℕ
inserted_by true e n m ms later = n ∷ m ∷ ms
inserted_by false true n m ms later = m ∷ ms
inserted_by false false n m ms later = m ∷ later

pub inserted_is : (n m : ℕ) (ms : List ℕ) → inserted n (m ∷ ms) ≡ inserted_by (ltb n m) (eqb n m) n m ms (inserted n ms)
unfolding inserted inserted_by
inserted_is n m ms = go (ltb n m) (eqb n m)
  where
    go : (a b : Bool) → ◌≡◌ {A = List ℕ} (elim a as (λ x. List ℕ) [ true ↦ n ∷ m ∷ ms | false ↦ elim b as (λ x. List ℕ) [ true ↦ m ∷ ms | false ↦ m ∷ inserted n ms ] ]) (inserted_by a b n m ms (inserted n ms))
    go true b = refl
    go false true = refl
    go false false = refl

-- the members of an insertion
pub mem_inserted : (n : ℕ) (xs : List ℕ) (k : ℕ) → Memᴰ k (inserted n xs) → (k ≡ n) ⊎ Memᴰ k xs
unfolding inserted inserted_by
mem_inserted n [] k h = Memᴰ.cases_cons h
mem_inserted n (m ∷ ms) k h = go (ltb n m) (eqb n m) (subst (Memᴰ k) (inserted_is n m ms) h) (λ j. mem_inserted n ms k j)
  where
    tail_of : (k ≡ n) ⊎ Memᴰ k ms → (k ≡ n) ⊎ Memᴰ k (m ∷ ms)
    tail_of (inl e) = inl e
    tail_of (inr j) = inr (Memᴰ.tail j)

    go : (a b : Bool) → Memᴰ k (inserted_by a b n m ms (inserted n ms)) → (Memᴰ k (inserted n ms) → (k ≡ n) ⊎ Memᴰ k ms) → (k ≡ n) ⊎ Memᴰ k (m ∷ ms)
    go true b j ih = Memᴰ.cases_cons j
    go false true j ih = inr j
    go false false j ih = elim (Memᴰ.cases_cons j) [ inl e ↦ inr (Memᴰ.head e) | inr i ↦ tail_of (ih i) ]

pub inserted_mem : (n : ℕ) (xs : List ℕ) (k : ℕ) → (k ≡ n) ⊎ Memᴰ k xs → Memᴰ k (inserted n xs)
unfolding inserted inserted_by
inserted_mem n [] k (inl e) = Memᴰ.head e
inserted_mem n [] k (inr m) = absurd (Memᴰ.not-nil m)
inserted_mem n (m ∷ ms) k h = subst (Memᴰ k) (sym (inserted_is n m ms)) (go (ltb n m) (eqb n m) refl h (λ j. inserted_mem n ms k j))
  where
    go : (a b : Bool) → eqb n m ≡ b → (k ≡ n) ⊎ Memᴰ k (m ∷ ms) → ((k ≡ n) ⊎ Memᴰ k ms → Memᴰ k (inserted n ms)) → Memᴰ k (inserted_by a b n m ms (inserted n ms))
    go true b q (inl e) ih = Memᴰ.head e
    go true b q (inr j) ih = Memᴰ.tail j
    go false true q (inl e) ih = Memᴰ.head (e ∙ eqb→eq n m (subst T (sym q) tt))
    go false true q (inr j) ih = j
    go false false q (inl e) ih = Memᴰ.tail (ih (inl e))
    go false false q (inr j) ih = elim (Memᴰ.cases_cons j) [ inl e ↦ Memᴰ.head e | inr i ↦ Memᴰ.tail (ih (inr i)) ]

inserted_ascends : (n : ℕ) (xs : List ℕ) → Ascends xs → Ascends (inserted n xs)
unfolding inserted Ascends inserted_by
inserted_ascends n [] a = (λ y m. absurd (Memᴰ.not-nil m), tt)
inserted_ascends n (m ∷ ms) a = subst Ascends (sym (inserted_is n m ms)) (go (ltb n m) (eqb n m) refl refl (inserted_ascends n ms a.1))
  where
    below : n < m → (y : ℕ) → (y ≡ m) ⊎ Memᴰ y ms → n < y
    below l y (inl e) = omega (arith, l, e)
    below l y (inr j) = let k = a.0 y j in omega (arith, l, k)

    above : m < n → (y : ℕ) → (y ≡ n) ⊎ Memᴰ y ms → m < y
    above l y (inl e) = omega (arith, l, e)
    above l y (inr j) = a.0 y j

    not_below : ltb n m ≡ false → n < m → ⊥
    not_below q l = subst T q (lt→ltb n m l)

    not_same : eqb n m ≡ false → n ≡ m → ⊥
    not_same q e = subst T q (subst T (sym (eq-eqb n m e)) tt)

    larger : (n < m → ⊥) → (n ≡ m → ⊥) → m < n
    larger p q = omega (arith, p, q)

    go : (s t : Bool) → ltb n m ≡ s → eqb n m ≡ t → Ascends (inserted n ms) → Ascends (inserted_by s t n m ms (inserted n ms))
    go true t p q ih = (λ y j. below (ltb→lt n m (subst T (sym p) tt)) y (Memᴰ.cases_cons j), a)
    go false true p q ih = a
    go false false p q ih = (λ y j. above (larger (not_below p) (not_same q)) y (mem_inserted n ms y j), ih)

pub ascended_ascends : (xs : List ℕ) → Ascends (ascended xs)
unfolding ascended Ascends
ascended_ascends [] = tt
ascended_ascends (x ∷ xs) = inserted_ascends x (ascended xs) (ascended_ascends xs)

-- the members of numbers put in ascending order are theirs
pub mem_ascended : (xs : List ℕ) (k : ℕ) → Memᴰ k (ascended xs) → Memᴰ k xs
unfolding ascended
mem_ascended [] k m = m
mem_ascended (x ∷ xs) k m = elim (mem_inserted x (ascended xs) k m) [ inl e ↦ Memᴰ.head e | inr j ↦ Memᴰ.tail (mem_ascended xs k j) ]

pub ascended_mem : (xs : List ℕ) (k : ℕ) → Memᴰ k xs → Memᴰ k (ascended xs)
unfolding ascended
ascended_mem [] k m = m
ascended_mem (x ∷ xs) k (Memᴰ.head e) = inserted_mem x (ascended xs) k (inl e)
ascended_mem (x ∷ xs) k (Memᴰ.tail m) = inserted_mem x (ascended xs) k (inr (ascended_mem xs k m))

-- ascending numbers with the same members
same_list : (xs ys : List ℕ) → Ascends xs → Ascends ys → ((k : ℕ) → Memᴰ k xs → Memᴰ k ys) → ((k : ℕ) → Memᴰ k ys → Memᴰ k xs) → xs ≡ ys
unfolding Ascends
same_list [] [] a b h k = refl
same_list [] (y ∷ ys) a b h k = absurd (Memᴰ.not-nil (k y (Memᴰ.head refl)))
same_list (x ∷ xs) [] a b h k = absurd (Memᴰ.not-nil (h x (Memᴰ.head refl)))
same_list (x ∷ xs) (y ∷ ys) a b h k = λ i. heads i ∷ same_list xs ys a.1 b.1 (λ n m. left n m (Memᴰ.cases_cons (h n (Memᴰ.tail m)))) (λ n m. right n m (Memᴰ.cases_cons (k n (Memᴰ.tail m)))) i
  where
    heads : x ≡ y
    heads = go (Memᴰ.cases_cons (h x (Memᴰ.head refl))) (Memᴰ.cases_cons (k y (Memᴰ.head refl)))
      where
        go : (x ≡ y) ⊎ Memᴰ x ys → (y ≡ x) ⊎ Memᴰ y xs → x ≡ y
        go (inl e) q = e
        go (inr m) (inl e) = sym e
        go (inr m) (inr j) = let p = b.0 x m in let q = a.0 y j in absurd (omega (arith, p, q))

    left : (n : ℕ) → Memᴰ n xs → (n ≡ y) ⊎ Memᴰ n ys → Memᴰ n ys
    left n m (inl e) = let p = a.0 n m in absurd (let q = heads in omega (arith, p, q, e))
    left n m (inr j) = j

    right : (n : ℕ) → Memᴰ n ys → (n ≡ x) ⊎ Memᴰ n xs → Memᴰ n xs
    right n m (inl e) = let p = b.0 n m in absurd (let q = heads in omega (arith, p, q, e))
    right n m (inr j) = j

-- numbers with the same members are the same in ascending order
pub ascended_same : (xs ys : List ℕ) → ((k : ℕ) → Memᴰ k xs → Memᴰ k ys) → ((k : ℕ) → Memᴰ k ys → Memᴰ k xs) → ascended xs ≡ ascended ys
ascended_same xs ys h k =
    same_list (ascended xs) (ascended ys) (ascended_ascends xs) (ascended_ascends ys)
    (λ n m. ascended_mem ys n (h n (mem_ascended xs n m))) (λ n m. ascended_mem xs n (k n (mem_ascended ys n m)))
