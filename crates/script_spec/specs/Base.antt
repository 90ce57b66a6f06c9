-- Byte strings, answers, and the small functions on lists and tests that the other definitions are made of.
-- Assumes nothing.
use Rattle.std.specs.Prelude.{◌≡◌, refl, ℕ, zero, suc, Bool, true, false, ◌&&◌, ◌||◌, eqb, leb, ltb}
use Rattle.std.proofs.Common.{sym}
use Prim.Native.Char.{code}
use Prim.Native.String.{String, [] as []ˢ, ◌∷◌ as ◌∷ˢ◌}
use mathlib.Core.List.{List, [], ◌∷◌, ◌++◌, cons≢nil, head-eq_of_cons-eq, tail-eq_of_cons-eq}
use Rattle.std.proofs.Math.Option.{Option, none, some}

-- a byte string, as the numbers of its bytes
abbrev pub Bytes : Type 0
Bytes = List ℕ

-- the bytes of an ASCII literal
unfoldable pub bytes : String → Bytes
bytes []ˢ = []
bytes (c ∷ˢ s) = code c ∷ bytes s

-- what a call answers: its result, or a refusal with its number, the record's place and the position in its text
pub data Answer (A : Type 0) : Type 0 where
  accepted : A → Answer A
  refused : ℕ → ℕ → ℕ → Answer A

-- what a decision says
abbrev pub is_yes : {A : Type 0} → Dec A → Bool
is_yes (yes a) = true
is_yes (no a) = false

-- ---- options

-- there is a value
unfoldable pub is_some : {A : Type 0} → Option A → Bool
is_some none = false
is_some (some a) = true

-- the test of an option's value; an option without one passes
unfoldable pub if_some : {A : Type 0} → (A → Bool) → Option A → Bool
if_some p none = true
if_some p (some a) = p a

-- a partial function of a value, if there is one
unfoldable pub and_then : {A B : Type 0} → Option A → (A → Option B) → Option B
and_then none k = none
and_then (some a) k = k a

-- ---- numbers and texts

-- from a least to a greatest number
unfoldable pub between : ℕ → ℕ → ℕ → Bool
between low high n = leb low n && leb n high

-- equal texts
unfoldable pub same : Bytes → Bytes → Bool
same [] [] = true
same [] (y ∷ ys) = false
same (x ∷ xs) [] = false
same (x ∷ xs) (y ∷ ys) = eqb x y && same xs ys

-- strictly before, by bytes
unfoldable pub before : Bytes → Bytes → Bool
before [] [] = false
before [] (y ∷ ys) = true
before (x ∷ xs) [] = false
before (x ∷ xs) (y ∷ ys) = ltb x y || (eqb x y && before xs ys)

-- strictly ascending by bytes
unfoldable pub ascending : List Bytes → Bool
ascending [] = true
ascending (x ∷ []) = true
ascending (x ∷ y ∷ r) = before x y && ascending (y ∷ r)

-- a byte at which SMT-LIB 2.6 ends a line
unfoldable pub ends_line : ℕ → Bool
ends_line b = eqb b 10 || eqb b 13

-- ---- lists

-- the place in a list of the head if it passes, and else one after the place in the tail
unfoldable pub place_from : Bool → Option ℕ → Option ℕ
place_from true later = some zero
place_from false none = none
place_from false (some n) = some (suc n)

module _ {A : Type 0} where
  -- no element
  unfoldable pub empty : List A → Bool
  empty [] = true
  empty (x ∷ xs) = false

  -- some element passes
  unfoldable pub any : (A → Bool) → List A → Bool
  any p [] = false
  any p (x ∷ xs) = p x || any p xs

  -- every element passes
  unfoldable pub all : (A → Bool) → List A → Bool
  all p [] = true
  all p (x ∷ xs) = p x && all p xs

  -- the parts with a separator between them
  unfoldable pub joined : List A → List (List A) → List A
  joined sep [] = []
  joined sep (x ∷ []) = x
  joined sep (x ∷ y ∷ r) = x ++ (sep ++ joined sep (y ∷ r))

  -- the place of the first element that passes
  unfoldable pub place : (A → Bool) → List A → Option ℕ
  place p [] = none
  place p (x ∷ xs) = place_from (p x) (place p xs)

  -- the first element that passes
  unfoldable pub first_of : (A → Bool) → List A → Option A
  first_of p [] = none
  first_of p (x ∷ xs) = elim (p x) [ true ↦ some x | false ↦ first_of p xs ]

  -- the element at a place
  unfoldable pub at : ℕ → List A → Option A
  at n [] = none
  at zero (x ∷ xs) = some x
  at (suc n) (x ∷ xs) = at n xs

  -- equality of lists is decided item by item (mathlib's decision does not compute outside its module)
  unfoldable pub list_dec : Discrete A → Discrete (List A)
  list_dec d [] [] = yes refl
  list_dec d [] (y ∷ ys) = no (λ e. cons≢nil (sym e))
  list_dec d (x ∷ xs) [] = no (λ e. cons≢nil e)
  list_dec d (x ∷ xs) (y ∷ ys) = both (d x y) (list_dec d xs ys)
    where
      both : Dec (x ≡ y) → Dec (xs ≡ ys) → Dec (◌≡◌ {A = List A} (x ∷ xs) (y ∷ ys))
      both (yes p) (yes q) = yes (λ i. p i ∷ q i)
      both (yes p) (no n) = no (λ e. n (tail-eq_of_cons-eq e))
      both (no n) q = no (λ e. n (head-eq_of_cons-eq e))

module _ {A B : Type 0} where
  -- what each element adds, in order
  unfoldable pub collect : (A → List B) → List A → List B
  collect f [] = []
  collect f (x ∷ xs) = f x ++ collect f xs

  -- the first parts of pairs
  unfoldable pub firsts : List (A × B) → List A
  firsts [] = []
  firsts (p ∷ ps) = p.0 ∷ firsts ps

  -- the second parts of pairs
  unfoldable pub seconds : List (A × B) → List B
  seconds [] = []
  seconds (p ∷ ps) = p.1 ∷ seconds ps

-- what a table of texts has for a text: the first entry of that text
unfoldable pub lookup : {A : Type 0} → Bytes → List (Bytes × A) → Option A
lookup s [] = none
lookup s (p ∷ ps) = elim (same s p.0) [ true ↦ some p.1 | false ↦ lookup s ps ]
