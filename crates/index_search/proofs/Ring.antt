-- Slots in a ring: each is met from any other, so that one that is empty is found where one is; and how many are empty.
-- Assumes nothing.
use mathlib.Core.Path.{◌≡◌, refl, sym, ◌∙◌}
use Prim.Native.Nat.{ℕ, zero, suc, ◌+◌, ◌-◌, ◌/◌, ◌≤◌, ◌<◌}
use native.Mathlib.Nat.{not-suc-le-zero, le_refl, div-add-mod', mod-lt}
use native.Mathlib.Decide.{ℕ_discrete, dec_lt}
use native.Mathlib.Omega.{arith}
use borrow.Author.Count.{below_more}
use borrow.Author.Tests.{lt-ltb, le-ltb}
use Rattle.index.specs.Cells.{placed}
use Rattle.index.specs.Names.{slot, code_of}
use Rattle.index.proofs.Empties.{empties_same}
use Rattle.index.specs.Empties.{one_if_empty, empties}
use Rattle.index_search.specs.Storing.{FirstEmpty}

-- ---- codes

-- the number that a code is of
pub code_number : (n kind v : ℕ) → kind < 4 → v ≡ code_of n kind → (v - 1) / 4 ≡ n
unfolding code_of
code_number n kind v h e = let p : 0 < 4 = omega arith in omega (arith, div-add-mod' (v - 1) 4, mod-lt (v - 1) p)

-- ---- the ring

module _ (k b d : ℕ) where
  pub slot_before : d < k - b → b + d ≡ slot k b d
  unfolding slot placed
  slot_before h = rw (lt-ltb d (k - b) h)

  pub slot_round : k - b ≤ d → d - (k - b) ≡ slot k b d
  unfolding slot placed
  slot_round h = rw (le-ltb d (k - b) h)

pub slot_inside : (k b d : ℕ) → b < k → d < k → slot k b d < k
slot_inside k b d h l = go (dec_lt d (k - b))
  where
    go : Dec (d < k - b) → slot k b d < k
    go (yes g) = omega (arith, slot_before k b d g)
    go (no g) = omega (arith, slot_round k b d (omega arith))

-- what holds of every slot that is met holds of every slot
pub slot_onto : (k b : ℕ) → b < k → (P : ℕ → Type 0) → ((d : ℕ) → d < k → P (slot k b d)) → (i : ℕ) → i < k → P i
slot_onto k b h P all i l = go (dec_lt i b)
  where
    go : Dec (i < b) → P i
    go (yes g) =
        let e : slot k b (i + (k - b)) ≡ i = omega (arith, slot_round k b (i + (k - b)) (omega arith)) in
        rw e at (all (i + (k - b)) (omega arith))
    go (no g) =
        let e : slot k b (i - b) ≡ i = omega (arith, slot_before k b (i - b) (omega arith)) in
        rw e at (all (i - b) (omega arith))

-- ---- empty slots

one_taken : (n : ℕ) → (n ≡ 0 → ⊥) → one_if_empty n ≡ 0
unfolding one_if_empty
one_taken zero h = absurd (h refl)
one_taken (suc n) h = refl

empties_none : (column : ℕ → ℕ) (k : ℕ) → ((i : ℕ) → i < k → column i ≡ 0 → ⊥) → empties column k ≡ 0
unfolding empties
empties_none column zero h = refl
empties_none column (suc k) h = omega (arith, one_taken (column k) (h k (omega arith)), empties_none column k (λ i l. h i (omega arith)))

-- there are slots where some are empty
pub empties_some : (column : ℕ → ℕ) (k : ℕ) → 0 < empties column k → 0 < k
unfolding empties
empties_some column zero h = absurd (omega arith)
empties_some column (suc k) h = omega arith

-- an empty slot that is taken
pub empties_taken : (column column' : ℕ → ℕ) (i k : ℕ) → i < k → column i ≡ 0
    → ((j : ℕ) → (j ≡ i → ⊥) → column' j ≡ column j) → empties column k ≤ suc (empties column' k)
unfolding empties one_if_empty
empties_taken column column' i zero l z h = absurd (not-suc-le-zero l)
empties_taken column column' i (suc k) l z h = go (ℕ_discrete k i) (λ m. empties_taken column column' i k m z h)
  where
    go : Dec (k ≡ i) → (i < k → empties column k ≤ suc (empties column' k)) → empties column (suc k) ≤ suc (empties column' (suc k))
    go (yes e) less = rw (e, z) (omega (arith, empties_same column column' i (λ j m. h j (omega arith))))
    go (no n) less = rw (h k n) (omega (arith, less (omega arith)))

-- ---- the first empty slot

-- no empty slot in the first d steps
pub record Taken (k : ℕ) (column : ℕ → ℕ) (b d : ℕ) : Type 0 where
  pub most : d ≤ k
  pub taken : (j : ℕ) → j < d → column (slot k b j) ≡ 0 → ⊥

module _ {k : ℕ} {column : ℕ → ℕ} {b : ℕ} where
  -- one is found where one is
  pub empty_near : {r : ℕ} → b < k → 0 < empties column k → FirstEmpty k column b r → r < k
  empty_near {r} h p F = go (dec_lt r k)
    where
      go : Dec (r < k) → r < k
      go (yes l) = l
      go (no l) = absurd (omega (arith, empties_none column k (slot_onto k b h (λ i. column i ≡ 0 → ⊥) (λ d m. F.taken d (omega arith)))))

  pub taken_none : Taken k column b 0
  taken_none = record { most = omega arith; taken = λ j l e. omega arith }

  module _ {d v : ℕ} (T : Taken k column b d) (is : v ≡ column (slot k b d)) where
    pub taken_more : d < k → (v ≡ 0 → ⊥) → Taken k column b (d + 1)
    taken_more l h = record { most = omega arith; taken = below_more (λ j. column (slot k b j) ≡ 0 → ⊥) d T.taken (λ e. h (is ∙ e)) }

    pub empty_here : v ≡ 0 → FirstEmpty k column b d
    empty_here e = record { most = T.most; taken = T.taken; empty = λ l. sym is ∙ e }

  -- all slots were passed
  pub empty_nowhere : {d : ℕ} → Taken k column b d → k ≤ d → FirstEmpty k column b k
  empty_nowhere T h = record { most = le_refl k; taken = λ j l. T.taken j (omega arith); empty = λ l. absurd (omega arith) }
