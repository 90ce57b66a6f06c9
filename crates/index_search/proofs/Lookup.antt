-- The enum that has a name is the one that a table of texts has for it.
-- Assumes nothing.
use mathlib.Core.Path.{◌≡◌, refl, sym, ◌∙◌}
use Prim.Native.Nat.{ℕ, zero, suc, ◌<◌}
use native.Mathlib.Nat.{not-suc-le-zero, le_of_suc-le-suc}
use native.Mathlib.Omega.{arith}
use mathlib.Core.Bool.{Bool, true, false}
use mathlib.Core.List.{List, [], ◌∷◌}
use mathlib.Core.Option.{none, some}
use lib.ListN.{length, get_or}
use Rattle.script_spec.specs.Base.{Bytes, same, lookup}
use Rattle.script_spec.specs.File.{TermFile, enums}
use Rattle.script_spec.proofs.Laws.{same_eq, same_refl, is_true}
use Rattle.index.specs.Names.{enum_name}
use Rattle.index.specs.Meaning.{Rows}

-- ---- texts

pub equal_texts : (s t : Bytes) → t ≡ s → same s t ≡ true
equal_texts s t e = rw e (is_true (same s s) (same_refl s))

pub other_texts : (s t : Bytes) → (t ≡ s → ⊥) → same s t ≡ false
other_texts s t h = go (same s t) refl
  where
    go : (b : Bool) → same s t ≡ b → b ≡ false
    go true e = absurd (h (sym (same_eq s t (rw e tt))))
    go false e = refl

-- ---- a table

module _ (s : Bytes) where
  lookup_found : (xs : List (Bytes × List Bytes)) (i : ℕ) → i < length xs → ((j : ℕ) → j < i → same s (get_or xs j ([], [])).0 ≡ false) → same s (get_or xs i ([], [])).0 ≡ true
      → lookup s xs ≡ some (get_or xs i ([], [])).1
  unfolding lookup
  lookup_found [] i l n h = absurd (not-suc-le-zero l)
  lookup_found (x ∷ xs) zero l n h = rw (lookup, h)
  lookup_found (x ∷ xs) (suc i) l n h = rw (lookup, n zero (omega arith)) (lookup_found xs i (le_of_suc-le-suc l) (λ j m. n (suc j) (omega arith)) h)

  lookup_none : (xs : List (Bytes × List Bytes)) → ((j : ℕ) → j < length xs → same s (get_or xs j ([], [])).0 ≡ false) → lookup s xs ≡ none
  unfolding lookup
  lookup_none [] n = refl
  lookup_none (x ∷ xs) n = rw (lookup, n zero (omega arith)) (lookup_none xs (λ j m. n (suc j) (omega arith)))

-- ---- the enums

-- the enum of a name
pub lookup_named : {file : Bytes} {f : TermFile} {work : List ℕ} {k : ℕ} (name : Bytes) (n : ℕ) → Rows file f work k → n < length (enums f) → enum_name f n ≡ name
    → lookup name (enums f) ≡ some (get_or (enums f) n ([], [])).1
unfolding enum_name
lookup_named {f = f} name n I l e =
    lookup_found name (enums f) n l
    (λ j m. other_texts name _ (λ q. let z = I.names.only j n (omega arith) l (q ∙ sym e) in omega arith))
    (equal_texts name _ e)

-- a name that no enum has
pub lookup_unnamed : (f : TermFile) (name : Bytes) → ((n : ℕ) → n < length (enums f) → enum_name f n ≡ name → ⊥) → lookup name (enums f) ≡ none
unfolding enum_name
lookup_unnamed f name fresh = lookup_none name (enums f) (λ j l. other_texts name _ (fresh j l))
