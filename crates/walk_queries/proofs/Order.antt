-- The order of texts by bytes is strict, so that in texts that ascend each stands before every later one.
-- Assumes nothing.
use Prim.Native.Nat.{ℕ, zero, suc, ◌<◌}
use native.Mathlib.Omega.{arith}
use mathlib.Core.Path.{◌≡◌, refl, ◌∙◌}
use mathlib.Core.Bool.{Bool, true, false, ◌&&◌, ◌||◌}
use mathlib.Core.Logic.{◌⊎◌, inl, inr, ⊎_elim}
use mathlib.Core.List.{List, [], ◌∷◌}
use lib.Dec.{ltb, eqb}
use lib.ListN.{length, get_or}
use borrow.Author.Tests.{ltb-true, eqb-true, lt-ltb, le-ltb, eq-eqb}
use Rattle.script_spec.specs.Base.{Bytes, before, ascending}
use Rattle.script_spec.proofs.Laws.{never}

pub untrue : {A : Type 0} → false ≡ true → A
untrue h = never cc

and_true : (a b : Bool) → (a && b) ≡ true → (a ≡ true) × (b ≡ true)
and_true true b h = (refl, h)
and_true false b h = untrue h

-- ---- two texts

before_cases : (x y : ℕ) (xs ys : Bytes) → before (x ∷ xs) (y ∷ ys) ≡ true → (x < y) ⊎ ((x ≡ y) × (before xs ys ≡ true))
unfolding before
before_cases x y xs ys h = go (ltb x y) (eqb x y) refl refl h
  where
    go : (b c : Bool) → ltb x y ≡ b → eqb x y ≡ c → (b || (c && before xs ys)) ≡ true → (x < y) ⊎ ((x ≡ y) × (before xs ys ≡ true))
    go true c p q h = inl (ltb-true x y p)
    go false true p q h = inr (eqb-true x y q, h)
    go false false p q h = untrue h

before_less : (x y : ℕ) (xs ys : Bytes) → x < y → before (x ∷ xs) (y ∷ ys) ≡ true
unfolding before
before_less x y xs ys h = rw (lt-ltb x y h)

before_equal : (x y : ℕ) (xs ys : Bytes) → x ≡ y → before xs ys ≡ true → before (x ∷ xs) (y ∷ ys) ≡ true
unfolding before
before_equal x y xs ys e h = rw (le-ltb x y (omega arith), eq-eqb x y e) h

pub before_irreflexive : (x : Bytes) → before x x ≡ true → ⊥
unfolding before
before_irreflexive [] h = untrue h
before_irreflexive (x ∷ xs) h = ⊎_elim (λ l. omega arith) (λ p. before_irreflexive xs p.1) (before_cases x x xs xs h)

pub before_trans : (x y z : Bytes) → before x y ≡ true → before y z ≡ true → before x z ≡ true
unfolding before
before_trans [] [] z h g = untrue h
before_trans [] (y ∷ ys) [] h g = untrue g
before_trans [] (y ∷ ys) (z ∷ zs) h g = refl
before_trans (x ∷ xs) [] z h g = untrue h
before_trans (x ∷ xs) (y ∷ ys) [] h g = untrue g
before_trans (x ∷ xs) (y ∷ ys) (z ∷ zs) h g =
    ⊎_elim
    (λ a. ⊎_elim (λ b. before_less x z xs zs (omega arith)) (λ b. before_less x z xs zs (omega (arith, b.0))) (before_cases y z ys zs g))
    (λ a. ⊎_elim (λ b. before_less x z xs zs (omega (arith, a.0))) (λ b. before_equal x z xs zs (a.0 ∙ b.0) (before_trans xs ys zs a.1 b.1)) (before_cases y z ys zs g))
    (before_cases x y xs ys h)

-- ---- texts that ascend

ascending_tail : (x : Bytes) (xs : List Bytes) → ascending (x ∷ xs) ≡ true → ascending xs ≡ true
unfolding ascending
ascending_tail x [] h = refl
ascending_tail x (y ∷ r) h = (and_true (before x y) (ascending (y ∷ r)) h).1

ascending_head : (x : Bytes) (xs : List Bytes) → ascending (x ∷ xs) ≡ true → (j : ℕ) → j < length xs → before x (get_or xs j []) ≡ true
unfolding ascending
ascending_head x [] h j l = absurd (omega arith)
ascending_head x (y ∷ r) h zero l = (and_true (before x y) (ascending (y ∷ r)) h).0
ascending_head x (y ∷ r) h (suc j) l =
    let p = and_true (before x y) (ascending (y ∷ r)) h in
    before_trans x y (get_or r j []) p.0 (ascending_head y r p.1 j (omega arith))

pub ascending_before : (names : List Bytes) → ascending names ≡ true → (i j : ℕ) → i < j → j < length names → before (get_or names i []) (get_or names j []) ≡ true
ascending_before [] h i j g l = absurd (omega arith)
ascending_before (x ∷ xs) h zero zero g l = absurd (omega arith)
ascending_before (x ∷ xs) h zero (suc j) g l = ascending_head x xs h j (omega arith)
ascending_before (x ∷ xs) h (suc i) zero g l = absurd (omega arith)
ascending_before (x ∷ xs) h (suc i) (suc j) g l = ascending_before xs (ascending_tail x xs h) i j (omega arith) (omega arith)
