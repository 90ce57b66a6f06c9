-- A type by its letter and a number: its width, its code or its part.
-- Assumes nothing.
use mathlib.Core.Path.{◌≡◌, refl, sym, ap, ◌∙◌}
use Prim.Native.Nat.{ℕ}
use native.Mathlib.Omega.{arith}
use mathlib.Core.Bool.{Bool, true, false, true≢false}
use mathlib.Core.List.{List, [], ◌∷◌}
use lib.Dec.{eqb}
use lib.ListN.{length, get_or}
use Rattle.script_spec.specs.Tree.{TypeMark, Bool·, String·, Option·, Set·, BitVec·, Declared, entity, extension, record_of, IPAddr, Decimal, Datetime, Duration}
use Rattle.script_spec.proofs.Computes
use Rattle.index_compare.specs.Printed.{ext_type_code}
use Rattle.check_rules.specs.Marks.{datatype_bytes, type_bytes}
use Rattle.check_types.proofs.Letters.{letter_of, Sized}

-- the number of a type with these parts
unfoldable pub type_number : TypeMark → List ℕ → ℕ
type_number Bool· ns = 0
type_number String· ns = 0
type_number Option· ns = get_or ns 0 0
type_number Set· ns = get_or ns 0 0
type_number (BitVec· n) ns = n
type_number (Declared (entity a)) ns = 0
type_number (Declared (extension x)) ns = ext_type_code x
type_number (Declared (record_of names)) ns = 0

-- ---- a type by its letter and its number

-- the mark and the parts: S, O, C, V, X, else B
from_number : ℕ → ℕ → TypeMark × List ℕ
from_number l n =
    elim (eqb l 83) [
      | true ↦ (String·, [])
      | false ↦ elim (eqb l 79) [
        | true ↦ (Option·, n ∷ [])
        | false ↦ elim (eqb l 67) [
          | true ↦ (Set·, n ∷ [])
          | false ↦ elim (eqb l 86) [
            | true ↦ (BitVec· n, [])
            | false ↦ elim (eqb l 88) [ true ↦ (Declared (extension (get_or (IPAddr ∷ Decimal ∷ Datetime ∷ Duration ∷ []) n IPAddr)), []) | false ↦ (Bool·, []) ]
          ]
        ]
      ]
    ]

-- no parts, and one
pub none : (ns : List ℕ) → length ns ≡ 0 → [] ≡ ns
none [] h = refl
none (n ∷ ns) h = absurd (omega arith)

pub one : (ns : List ℕ) → length ns ≡ 1 → get_or ns 0 0 ∷ [] ≡ ns
one [] h = absurd (omega arith)
one (n ∷ []) h = refl
one (n ∷ m ∷ ns) h = absurd (omega arith)

known : (t : TypeMark) (ns : List ℕ) → Sized t (length ns) → (letter_of t ≡ 82 → ⊥) → (letter_of t ≡ 69 → ⊥) → from_number (letter_of t) (type_number t ns) ≡ (t, ns)
unfolding from_number type_number Sized type_bytes datatype_bytes ext_type_code Computes.base
known Bool· ns h r e = ap (λ (l : List ℕ). (Bool·, l)) (none ns h)
known String· ns h r e = ap (λ (l : List ℕ). (String·, l)) (none ns h)
known Option· ns h r e = ap (λ (l : List ℕ). (Option·, l)) (one ns h)
known Set· ns h r e = ap (λ (l : List ℕ). (Set·, l)) (one ns h)
known (BitVec· n) ns h r e = ap (λ (l : List ℕ). (BitVec· n, l)) (none ns h)
known (Declared (entity a)) ns h r e = absurd (e refl)
known (Declared (extension IPAddr)) ns h r e = ap (λ (l : List ℕ). (Declared (extension IPAddr), l)) (none ns h)
known (Declared (extension Decimal)) ns h r e = ap (λ (l : List ℕ). (Declared (extension Decimal), l)) (none ns h)
known (Declared (extension Datetime)) ns h r e = ap (λ (l : List ℕ). (Declared (extension Datetime), l)) (none ns h)
known (Declared (extension Duration)) ns h r e = ap (λ (l : List ℕ). (Declared (extension Duration), l)) (none ns h)
known (Declared (record_of names)) ns h r e = absurd (r refl)

-- types of one letter with the same number are the same
pub same_number : (t u : TypeMark) (ns ms : List ℕ) → Sized t (length ns) → Sized u (length ms) → letter_of t ≡ letter_of u → (letter_of u ≡ 82 → ⊥) → (letter_of u ≡ 69 → ⊥)
    → type_number t ns ≡ type_number u ms → (t ≡ u) × (ns ≡ ms)
same_number t u ns ms h h' l r e q =
    let same : ◌≡◌ {A = TypeMark × List ℕ} (t, ns) (u, ms) = sym (known t ns h (λ z. r (sym l ∙ z)) (λ z. e (sym l ∙ z))) ∙ (λ i. from_number (l i) (q i)) ∙ known u ms h' r e in
    (ap (λ (p : TypeMark × List ℕ). p.0) same, ap (λ (p : TypeMark × List ℕ). p.1) same)

-- whether types of a letter have no number: no width, no code and no part
unfoldable pub numberless : ℕ → Bool
numberless l = elim (eqb l 88) [ true ↦ false | false ↦ elim (eqb l 86) [ true ↦ false | false ↦ elim (eqb l 79) [ true ↦ false | false ↦ elim (eqb l 67) [ true ↦ false | false ↦ true ] ] ] ]

pub no_number : (t : TypeMark) (ns : List ℕ) → numberless (letter_of t) ≡ true → 0 ≡ type_number t ns
unfolding numberless type_number type_bytes datatype_bytes Computes.base
no_number Bool· ns e = refl
no_number String· ns e = refl
no_number Option· ns e = absurd (true≢false (sym e))
no_number Set· ns e = absurd (true≢false (sym e))
no_number (BitVec· n) ns e = absurd (true≢false (sym e))
no_number (Declared (entity a)) ns e = refl
no_number (Declared (extension y)) ns e = absurd (true≢false (sym e))
no_number (Declared (record_of names)) ns e = refl
