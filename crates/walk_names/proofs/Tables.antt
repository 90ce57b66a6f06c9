-- Laws of tables and the columns that hold them: at the start, with one entry more, and what an entry of the column says. By
-- recursion on the table or the column, once for any elements with an equality test.
-- Assumes nothing.
use mathlib.Core.Path.{◌≡◌, refl, sym, ap, ◌∙◌}
use mathlib.Core.Bool.{Bool, true, false, not}
use mathlib.Core.List.{List, [], ◌∷◌, ◌++◌}
use mathlib.Core.Option.{Option, none, some}
use Prim.Native.Nat.{ℕ, zero, suc, ◌<◌}
use native.Mathlib.Nat.{not-suc-le-zero}
use native.Mathlib.Decide.{ℕ_discrete}
use native.Mathlib.Omega.{arith}
use lib.Dec.{eqb}
use borrow.Author.Tests.{ne_eqb}
use lib.ListN.{length, length-append}
use Rattle.script_spec.specs.Base.{place, place_from, any, is_some}
use Rattle.script_spec.proofs.Laws.{is_true, never, never_true}
use Rattle.index.proofs.Firsts.{FirstEqual, Equality, any_place, place_equal, first_below, first_injective}
use Rattle.index.proofs.Empties.{empties_all, empties_same}
use Rattle.index.specs.Empties.{empties, one_if_empty}
use Rattle.walk_names.specs.Naming.{num, place_of, Table}

-- ---- places

pub place_of_num : (o : Option ℕ) → place_of (num o) ≡ o
unfolding num place_of
place_of_num none = refl
place_of_num (some n) = refl

num_none : (o : Option ℕ) → num o ≡ 0 → o ≡ none
unfolding num
num_none none h = refl
num_none (some n) h = absurd (omega arith)

num_is_some : (o : Option ℕ) → is_some o ≡ not (eqb (num o) 0)
unfolding num is_some
num_is_some none = refl
num_is_some (some n) = rw (ne_eqb (suc n) 0 (omega arith))

module _ {A : Type 0} (p : A → Bool) where
  -- an entry that does not pass
  place_other : (xs : List A) (x : A) → p x ≡ false → place p (xs ++ (x ∷ [])) ≡ place p xs
  unfolding place place_from
  place_other [] x e = rw e
  place_other (y ∷ xs) x e = ap (place_from (p y)) (place_other xs x e)

  -- the first entry that passes
  place_new : (xs : List A) (x : A) → p x ≡ true → place p xs ≡ none → place p (xs ++ (x ∷ [])) ≡ some (length xs)
  unfolding place place_from
  place_new [] x e h = rw e
  place_new (y ∷ xs) x e h = go (p y) (place p xs) h (λ k. place_new xs x e k)
    where
      go : (b : Bool) (o : Option ℕ) → place_from b o ≡ none → (o ≡ none → place p (xs ++ (x ∷ [])) ≡ some (length xs))
          → place_from b (place p (xs ++ (x ∷ []))) ≡ some (suc (length xs))
      go true o h k = never cc
      go false none h k = rw (k refl)
      go false (some n) h k = never cc

-- ---- free entries

-- a free entry that is taken
empties_less : (column column' : ℕ → ℕ) (i v k : ℕ) → i < k → column i ≡ 0 → column' i ≡ suc v
    → ((j : ℕ) → (j ≡ i → ⊥) → column' j ≡ column j) → suc (empties column' k) ≡ empties column k
unfolding empties one_if_empty
empties_less column column' i v zero l z s h = absurd (not-suc-le-zero l)
empties_less column column' i v (suc k) l z s h = go (ℕ_discrete k i) (λ m. empties_less column column' i v k m z s h)
  where
    go : Dec (k ≡ i) → (i < k → suc (empties column' k) ≡ empties column k) → suc (empties column' (suc k)) ≡ empties column (suc k)
    go (yes e) less = rw (e, z, s, empties_same column column' i (λ j m. h j (omega arith))) (omega arith)
    go (no n) less = rw (h k n) (omega (arith, less (omega arith)))

-- ---- tables

module _ {A : Type 0} {eq : A → A → Bool} {count : ℕ} {name : ℕ → A} {first : ℕ → ℕ} where
  -- the empty table
  pub table_start : FirstEqual eq count name first → (column : ℕ → ℕ) → ((i : ℕ) → i < count → column i ≡ 0) → Table eq count name first column []
  unfolding place num
  table_start F column h = record { place_is = λ n l. h (first n) (first_below F n l); taken = omega (arith, empties_all column count h) }

  -- a column that has the same entries for the records
  pub table_same : FirstEqual eq count name first → {column : ℕ → ℕ} {table : List A} (column' : ℕ → ℕ) → ((i : ℕ) → i < count → column' i ≡ column i)
      → Table eq count name first column table → Table eq count name first column' table
  table_same F {column} column' h t = record { place_is = λ n l. h (first n) (first_below F n l) ∙ t.place_is n l; taken = rw (empties_same column column' count h) t.taken }

  -- a record is in the table where its entry is not 0
  pub table_known : {column : ℕ → ℕ} {table : List A} → Table eq count name first column table
      → (n : ℕ) → n < count → any (eq (name n)) table ≡ not (eqb (column (first n)) 0)
  table_known {table = table} t n l = any_place (eq (name n)) table ∙ num_is_some (place (eq (name n)) table) ∙ ap (λ (m : ℕ). not (eqb m 0)) (sym (t.place_is n l))

  -- the place of a record from its entry
  pub table_place : {column : ℕ → ℕ} {table : List A} → Table eq count name first column table
      → (n : ℕ) → n < count → place (eq (name n)) table ≡ place_of (column (first n))
  table_place {table = table} t n l = sym (place_of_num (place (eq (name n)) table)) ∙ ap place_of (sym (t.place_is n l))

  -- a record that is not in the table is entered, and its entry is set
  module _ (E : Equality eq) (F : FirstEqual eq count name first) where
    pub table_enter : {column : ℕ → ℕ} {table : List A} (column' : ℕ → ℕ) (n : ℕ) → n < count
        → Table eq count name first column table → column (first n) ≡ 0 → column' (first n) ≡ suc (length table)
        → ((j : ℕ) → (j ≡ first n → ⊥) → column' j ≡ column j) → Table eq count name first column' (table ++ (name n ∷ []))
    unfolding num
    table_enter {column} {table} column' n l t z s h = record {
      place_is = λ m q. entry m q (ℕ_discrete (first m) (first n));
      taken =
          let less : suc (empties column' count) ≡ empties column count = empties_less column column' (first n) (length table) count (first_below F n l) z s h in
          simp length-append (omega (arith, t.taken));
    }
      where
        absent : place (eq (name n)) table ≡ none
        absent = num_none (place (eq (name n)) table) (sym (t.place_is n l) ∙ z)

        entry : (m : ℕ) → m < count → Dec (first m ≡ first n) → column' (first m) ≡ num (place (eq (name m)) (table ++ (name n ∷ [])))
        entry m q (yes e) =
            rw (e, place_equal E (name m) (name n) (first_injective F E m n q l e) (table ++ (name n ∷ [])))
            (s ∙ ap num (sym (place_new (eq (name n)) table (name n) (is_true (eq (name n) (name n)) (E.reflexive (name n))) absent)))
        entry m q (no e) = h (first m) e ∙ t.place_is m q ∙ ap num (sym (place_other (eq (name m)) table (name n) (never_true (eq (name m) (name n)) (λ g. e (F.equal m n g)))))
