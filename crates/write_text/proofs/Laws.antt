-- Laws of single code points and bytes: how they are spelled, and which of them stand for themselves.
-- Assumes nothing.
use mathlib.Core.Path.{◌≡◌, refl}
use mathlib.Core.Bool.{Bool, true, false, ◌&&◌}
use mathlib.Core.List.{[], ◌∷◌, ◌++◌}
use mathlib.Core.Option.{none}
use Prim.Native.Nat.{ℕ, ◌≤◌}
use native.Mathlib.Omega.{arith}
use borrow.Author.Tests.{leb-true, eq-eqb, ne_eqb}
use lib.Dec.{eqb, leb}
use Rattle.script_spec.specs.Base.{Bytes, bytes, between, place, place_from}
use Rattle.script_spec.specs.Text.{hex, brace, escape, escape_by, debug_char}
use Rattle.script_spec.proofs.Laws.{and_false, and_true, never}
use Rattle.write_text.specs.Written.{shown}

-- ---- printable code points

and_second : (x y : Bool) → (x && y) ≡ true → y ≡ true
and_second true y h = h
and_second false y h = never cc

pub printable_small : (c : ℕ) → between 32 126 c ≡ true → c ≤ 126
unfolding between
printable_small c h = leb-true c 126 (and_second (leb 32 c) (leb c 126) h)

and_first : (x y : Bool) → (x && y) ≡ true → x ≡ true
and_first true y h = refl
and_first false y h = h

pub printable_large : (c : ℕ) → between 32 126 c ≡ true → 32 ≤ c
unfolding between
printable_large c h = leb-true 32 c (and_first (leb 32 c) (leb c 126) h)

pub shown_plain : (c : ℕ) → between 32 126 c ≡ true → ◌≡◌ {A = Bytes} (c ∷ []) (shown c)
unfolding shown
shown_plain c h = rw (h, shown)

-- a hexadecimal numeral in its braces
pub braced : (c : ℕ) {s : Bytes} → s ≡ hex c → 92 ∷ 117 ∷ 123 ∷ (s ++ (125 ∷ [])) ≡ brace c
unfolding brace bytes
braced c e = rw e refl

pub shown_brace : (c : ℕ) → between 32 126 c ≡ false → brace c ≡ shown c
unfolding shown
shown_brace c h = rw (h, shown)

-- ---- a string literal

pub escape_quote : (c : ℕ) → c ≡ 34 → ◌≡◌ {A = Bytes} (34 ∷ 34 ∷ []) (escape c)
unfolding escape escape_by
escape_quote c h = rw (eq-eqb c 34 h)

pub escape_backslash : (c : ℕ) → c ≡ 92 → brace c ≡ escape c
unfolding escape escape_by
escape_backslash c h =
    let n : c ≡ 34 → ⊥ = λ e. omega arith in
    rw (ne_eqb c 34 n, eq-eqb c 92 h, and_false)

escape_by_lem : (c : ℕ) (t : Bool) → between 32 126 c ≡ t → shown c ≡ escape_by false t c
unfolding shown escape_by
escape_by_lem c true e = rw (e, shown)
escape_by_lem c false e = rw (e, shown)

pub escape_shown : (c : ℕ) → (c ≡ 34 → ⊥) → (c ≡ 92 → ⊥) → shown c ≡ escape c
unfolding escape
escape_shown c h k = rw (ne_eqb c 34 h, ne_eqb c 92 k, and_true) (escape_by_lem c (between 32 126 c) refl)

-- ---- an id in a comment

-- the six code points that have a letter of their own
pub debug_letters :
    (◌≡◌ {A = Bytes} (92 ∷ 34 ∷ []) (debug_char 34))
    × (◌≡◌ {A = Bytes} (92 ∷ 92 ∷ []) (debug_char 92))
    × (◌≡◌ {A = Bytes} (92 ∷ 116 ∷ []) (debug_char 9))
    × (◌≡◌ {A = Bytes} (92 ∷ 114 ∷ []) (debug_char 13))
    × (◌≡◌ {A = Bytes} (92 ∷ 110 ∷ []) (debug_char 10))
    × (◌≡◌ {A = Bytes} (92 ∷ 48 ∷ []) (debug_char 0))
unfolding debug_char place place_from bytes
debug_letters = (refl, refl, refl, refl, refl, refl)

module _ (c : ℕ) (h1 : c ≡ 34 → ⊥) (h2 : c ≡ 92 → ⊥) (h3 : c ≡ 9 → ⊥) (h4 : c ≡ 13 → ⊥) (h5 : c ≡ 10 → ⊥) (h6 : c ≡ 0 → ⊥) where
  no_letter : place (eqb c) (34 ∷ 92 ∷ 9 ∷ 13 ∷ 10 ∷ 0 ∷ []) ≡ none
  unfolding place place_from
  no_letter = rw (ne_eqb c 34 h1, ne_eqb c 92 h2, ne_eqb c 9 h3, ne_eqb c 13 h4, ne_eqb c 10 h5, ne_eqb c 0 h6)

  pub debug_shown : shown c ≡ debug_char c
  unfolding debug_char shown
  debug_shown = rw (no_letter, debug_char)
