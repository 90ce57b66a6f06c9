-- The search of a name: the enum that has it is the first of that name, and its members are those of the name.
-- Assumes nothing.
use mathlib.Core.Path.{◌≡◌, refl, sym, ◌∙◌}
use Prim.Native.Nat.{ℕ, zero, suc, ◌<◌}
use native.Mathlib.Nat.{not-suc-le-zero, le_of_suc-le-suc}
use borrow.Author.Tests.{ltb-true, ltb-false, lt-ltb, le-ltb}
use native.Mathlib.Omega.{arith}
use mathlib.Core.Bool.{Bool, true, false}
use mathlib.Core.List.{List, [], ◌∷◌}
use mathlib.Core.Option.{Option, none, some}
use Rattle.std.specs.Option.{unwrap_or}
use Rattle.std.specs.Prelude as rust
use lib.Dec.{ltb}
use lib.ListN.{length, get_or}
use Rattle.script_spec.specs.Base.{Bytes, same, place, place_from, firsts, lookup}
use Rattle.script_spec.specs.File.{TermFile, enums, members}
use Rattle.refusal.specs.Numbers.{option_of}
use Rattle.index.specs.First.{or_else}
use Rattle.index.specs.Names.{enum_name, enum_number}
use Rattle.index.specs.Meaning.{Rows, SizesOf}
use Rattle.index.specs.declared.Sizes.{Sizes}
use Rattle.index_search.specs.Named.{EnumRows, HitNamed, MissNamed}
use Rattle.index_search.proofs.Lookup.{equal_texts, other_texts}
use Rattle.index_search.specs.Enums.{enum_at, members_at, FindsEnum}

-- ---- a table of texts

module _ (s : Bytes) where
  place_found : (xs : List (Bytes × List Bytes)) (i : ℕ) → i < length xs → ((j : ℕ) → j < i → same s (get_or xs j ([], [])).0 ≡ false) → same s (get_or xs i ([], [])).0 ≡ true
      → place (same s) (firsts xs) ≡ some i
  unfolding place place_from firsts
  place_found [] i l n h = absurd (not-suc-le-zero l)
  place_found (x ∷ xs) zero l n h = rw h
  place_found (x ∷ xs) (suc i) l n h = rw (n zero (omega arith), place_found xs i (le_of_suc-le-suc l) (λ j m. n (suc j) (omega arith)) h)

  place_nowhere : (xs : List (Bytes × List Bytes)) → ((j : ℕ) → j < length xs → same s (get_or xs j ([], [])).0 ≡ false) → place (same s) (firsts xs) ≡ none
  unfolding place place_from firsts
  place_nowhere [] n = refl
  place_nowhere (x ∷ xs) n = rw (n zero (omega arith), place_nowhere xs (λ j m. n (suc j) (omega arith)))

-- the second of the pair with a number, if there is one
chosen : List (Bytes × List Bytes) → ℕ → Option (List Bytes)
chosen xs n = elim (ltb n (length xs)) [ true ↦ some (get_or xs n ([], [])).1 | false ↦ none ]

chosen_zero : (x : Bytes × List Bytes) (xs : List (Bytes × List Bytes)) → chosen (x ∷ xs) zero ≡ some x.1
unfolding chosen
chosen_zero x xs = rw (chosen, lt-ltb zero (suc (length xs)) (omega arith))

chosen_suc : (x : Bytes × List Bytes) (xs : List (Bytes × List Bytes)) (n : ℕ) → chosen (x ∷ xs) (suc n) ≡ chosen xs n
unfolding chosen
chosen_suc x xs n = go (ltb n (length xs)) refl
  where
    go : (b : Bool) → ltb n (length xs) ≡ b → chosen (x ∷ xs) (suc n) ≡ chosen xs n
    go true e = rw (chosen, e, lt-ltb (suc n) (suc (length xs)) (omega (arith, ltb-true n (length xs) e)))
    go false e = rw (chosen, e, le-ltb (suc n) (suc (length xs)) (omega (arith, ltb-false n (length xs) e)))

lookup_place : (s : Bytes) (xs : List (Bytes × List Bytes)) → lookup s xs ≡ chosen xs (or_else (length xs) (place (same s) (firsts xs)))
unfolding lookup place place_from firsts or_else chosen
lookup_place s [] = refl
lookup_place s (x ∷ xs) = go (same s x.0) refl (place (same s) (firsts xs)) refl (lookup_place s xs)
  where
    go : (b : Bool) → same s x.0 ≡ b → (o : Option ℕ) → place (same s) (firsts xs) ≡ o → lookup s xs ≡ chosen xs (or_else (length xs) (place (same s) (firsts xs)))
        → lookup s (x ∷ xs) ≡ chosen (x ∷ xs) (or_else (length (x ∷ xs)) (place (same s) (firsts (x ∷ xs))))
    go true e o h l = rw (lookup, e) (sym (chosen_zero x xs))
    go false e none h l = rw (lookup, e, h) ((rw h at l) ∙ sym (chosen_suc x xs (length xs)))
    go false e (some n) h l = rw (lookup, e, h) ((rw h at l) ∙ sym (chosen_suc x xs n))

-- ---- the enums

-- the rows of all records have those of the enums
pub enum_rows : {file : Bytes} {f : TermFile} {work : List ℕ} {k : ℕ} → Rows file f work k → EnumRows file f work k
enum_rows I = record { row = I.enum_row; names = I.names }

-- the members of a name are those of its enum
pub number_members : (f : TermFile) (name : Bytes) → members f name ≡ members_at f (enum_number f name)
unfolding members members_at enum_at enum_number or_else chosen
number_members f name = lookup_place name (enums f)

-- the number that is found, or how many enums there are
pub found_number : (r : rust.Option ℕ) (d : ℕ) {o : Option ℕ} → option_of r ≡ o → unwrap_or r d ≡ or_else d o
unfolding or_else
found_number rust.None d e = rw (← e)
found_number (rust.Some n) d e = rw (← e)

-- it is that of the enum with the name
pub finds_number : {file : Bytes} {work : List ℕ} {sizes : Sizes} {name : Bytes} {r : rust.Option ℕ} → FindsEnum file work sizes name r → (f : TermFile) → EnumRows file f work sizes.rows → SizesOf f sizes → unwrap_or r sizes.enums ≡ enum_number f name
unfolding enum_number
finds_number {r = r} F f I c = rw c.enums_are (found_number r (length (enums f)) (F.go f I c))

-- ---- an enum that has the name, and none

module _ {file : Bytes} {work : List ℕ} {sizes : Sizes} {f : TermFile} {name : Bytes} (I : EnumRows file f work sizes.rows) (c : SizesOf f sizes) where
  pub hit_place : {r : ℕ} → HitNamed f sizes.enums name r → some r ≡ place (same name) (firsts (enums f))
  unfolding enum_name
  hit_place {r} h =
      let e = c.enums_are in
      let inside : r < length (enums f) = omega (arith, h.below) in
      sym
      (place_found name (enums f) r inside
      (λ j m. other_texts name _ (λ q. let z = I.names.only j r (omega arith) inside (q ∙ sym h.equal) in omega arith))
      (equal_texts name _ h.equal))

  pub miss_place : MissNamed f sizes.enums name → ◌≡◌ {A = Option ℕ} none (place (same name) (firsts (enums f)))
  unfolding enum_name
  miss_place m =
      let e = c.enums_are in
      sym (place_nowhere name (enums f) (λ j l. other_texts name _ (λ q. m.none j (omega arith) q)))
