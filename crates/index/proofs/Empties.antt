-- Laws of how many entries of a column are 0: by recursion on the number of entries.
-- Assumes nothing.
use mathlib.Core.Path.{◌≡◌, refl}
use Prim.Native.Nat.{ℕ, zero, suc, ◌<◌}
use native.Mathlib.Omega.{arith}
use Rattle.index.specs.Empties.{one_if_empty, empties}

-- all of them
pub empties_all : (column : ℕ → ℕ) (k : ℕ) → ((i : ℕ) → i < k → column i ≡ 0) → empties column k ≡ k
unfolding empties one_if_empty
empties_all column zero h = refl
empties_all column (suc k) h = rw (h k (omega arith), empties_all column k (λ i l. h i (omega arith))) (omega arith)

-- as many as of a column with the same entries
pub empties_same : (column column' : ℕ → ℕ) (k : ℕ) → ((i : ℕ) → i < k → column' i ≡ column i) → empties column' k ≡ empties column k
unfolding empties
empties_same column column' zero h = refl
empties_same column column' (suc k) h = rw (h k (omega arith), empties_same column column' k (λ i l. h i (omega arith)))
