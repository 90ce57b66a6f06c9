-- A variable's id as `{:?}` prints it is printable ASCII, so that each byte of it is a code point and none becomes a space in a comment.
-- Assumes nothing.
use mathlib.Core.Path.{◌≡◌, refl, sym, ap, ◌∙◌, subst}
use mathlib.Core.Bool.{Bool, true, false}
use mathlib.Core.List.{List, [], ◌∷◌}
use mathlib.Core.Option.{Option, none, some}
use Prim.Native.Nat.{ℕ, suc, ◌+◌, ◌-◌, ◌≤◌, ◌<◌}
use native.Mathlib.Omega.{arith}
use lib.Dec.{T, eqb, ltb, lt→ltb, ltb→lt}
use lib.ListN.{length, take, get_or}
use lib.Seq.{take-nil}
use borrow.Author.Tests.{ltb-true, ltb-false, le-ltb, ne_eqb}
use Rattle.script_spec.specs.Base.{Bytes, bytes, between, all, collect, place, place_from}
use Rattle.script_spec.specs.Utf8.{code_points}
use Rattle.script_spec.specs.Text.{digit, hex, brace, is_control, space_if, blanked, begun, cut_after, one_line, debug_char, debug}
use Rattle.script_spec.proofs.Laws.{and_parts, and_both, is_true, all_append}
use Rattle.script_spec.proofs.Numerals.{all_below, all_below_each, hex_all}
use Rattle.script_spec.proofs.Cutting.{begun_ascii, cut_on, cut_off}
use Rattle.write_text.proofs.Laws.{printable_small, printable_large}

-- ---- printable bytes in a comment

-- a printable ASCII character
abbrev is_plain : ℕ → Bool
is_plain b = between 32 126 b

plain_same : (b : ℕ) → T (is_plain b) → space_if (is_control b) b ≡ b
unfolding is_control space_if
plain_same b h = let p = is_true (is_plain b) h in rw (le-ltb b 32 (printable_large b p), ne_eqb b 127 (λ e. omega (arith, printable_small b p)))

-- a text with n code points before it
plain_cut : (b : ℕ) (s : Bytes) (n : ℕ) → T (is_plain b) → n ≤ 200 → (n + 1 ≤ 200 → blanked (cut_after (n + 1) s) ≡ take (200 - (n + 1)) s)
    → (o : Bool) → ltb n 200 ≡ o → blanked (cut_after n (b ∷ s)) ≡ take (200 - n) (b ∷ s)
unfolding blanked
plain_cut b s n h l rest true e =
    let one : begun b ≡ 1 = sym (begun_ascii b (omega (arith, printable_small b (is_true (is_plain b) h)))) in
    let k : n + 1 ≤ 200 = omega (arith, ltb-true n 200 e) in
    let on : cut_after n (b ∷ s) ≡ b ∷ cut_after (n + 1) s = rw one at (cut_on n b s (rw one k)) in
    let left : 200 - n ≡ suc (200 - (n + 1)) = omega arith in
    rw (on, left) (ap (λ (c : ℕ). c ∷ blanked (cut_after (n + 1) s)) (plain_same b h) ∙ ap (λ (t : Bytes). b ∷ t) (rest k))
plain_cut b s n h l rest false e =
    let one : begun b ≡ 1 = sym (begun_ascii b (omega (arith, printable_small b (is_true (is_plain b) h)))) in
    let k : 200 ≤ n = ltb-false n 200 e in
    let left : 200 - n ≡ 0 = omega arith in
    rw (cut_off n b s (rw one (omega arith)), left)

plain_from : (s : Bytes) (n : ℕ) → T (all is_plain s) → n ≤ 200 → blanked (cut_after n s) ≡ take (200 - n) s
unfolding all blanked cut_after
plain_from [] n h l = sym (take-nil (200 - n))
plain_from (b ∷ s) n h l =
    let parts = and_parts (is_plain b) (all is_plain s) h in
    plain_cut b s n parts.0 l (plain_from s (n + 1) parts.1) (ltb n 200) refl

plain_line : (s : Bytes) → T (all is_plain s) → take 200 s ≡ one_line s
unfolding one_line
plain_line s h = sym (plain_from s 0 h (omega arith))

-- ---- a variable's id

-- a place in a list is below its length
inside : ℕ → Option ℕ → Bool
inside n none = true
inside n (some i) = ltb i n

from_inside : (b : Bool) (o : Option ℕ) (n : ℕ) → T (inside n o) → T (inside (suc n) (place_from b o))
unfolding place_from inside
from_inside true o n h = lt→ltb 0 (suc n) (omega arith)
from_inside false none n h = tt
from_inside false (some i) n h = lt→ltb (suc i) (suc n) (omega (arith, ltb→lt i n h))

place_inside : (p : ℕ → Bool) (l : List ℕ) → T (inside (length l) (place p l))
unfolding place inside
place_inside p [] = tt
place_inside p (x ∷ l) = from_inside (p x) (place p l) (length l) (place_inside p l)

-- a printable character, or an escape
shown_plain : (c : ℕ) (b : Bool) → between 32 126 c ≡ b → T (all is_plain (elim b as (λ x. Bytes) [ true ↦ c ∷ [] | false ↦ brace c ]))
unfolding all between brace digit all_below bytes
shown_plain c true e = and_both (is_plain c) true (subst T (sym e) tt) tt
shown_plain c false e = all_append is_plain (hex c) (125 ∷ []) (hex_all is_plain tt c) tt

-- a letter after a backslash
letter_plain : (i : ℕ) → i < 6 → T (is_plain (get_or (bytes "\"\\trn0") i 0))
unfolding all_below between bytes
letter_plain i h = all_below_each (λ j. is_plain (get_or (bytes "\"\\trn0") j 0)) 6 i tt h

char_plain : (c : ℕ) → T (all is_plain (debug_char c))
unfolding debug_char all between inside bytes
char_plain c = go (place (eqb c) (34 ∷ 92 ∷ 9 ∷ 13 ∷ 10 ∷ 0 ∷ [])) (place_inside (eqb c) (34 ∷ 92 ∷ 9 ∷ 13 ∷ 10 ∷ 0 ∷ []))
  where
    go : (o : Option ℕ) → T (inside 6 o)
        → T (all is_plain (elim o as (λ x. Bytes) [ some i ↦ 92 ∷ get_or (bytes "\"\\trn0") i 0 ∷ [] | none ↦ elim (between 32 126 c) [ true ↦ c ∷ [] | false ↦ brace c ] ]))
    go (some i) h = and_both (is_plain (get_or (bytes "\"\\trn0") i 0)) true (letter_plain i (ltb→lt i 6 h)) tt
    go none h = shown_plain c (between 32 126 c) refl

chars_plain : (cs : List ℕ) → T (all is_plain (collect debug_char cs))
unfolding collect all
chars_plain [] = tt
chars_plain (c ∷ cs) = all_append is_plain (debug_char c) (collect debug_char cs) (char_plain c) (chars_plain cs)

pub debug_line : (id : Bytes) → take 200 (debug id) ≡ one_line (debug id)
unfolding debug all between
debug_line id = plain_line (debug id) (all_append is_plain (collect debug_char (code_points id)) (34 ∷ []) (chars_plain (code_points id)) tt)
