-- Laws of patterns: the elements that bytes hold, and how a pattern is spelled by its elements.
-- Assumes nothing.
use mathlib.Core.Path.{◌≡◌, sym, ap, ◌∙◌}
use mathlib.Core.List.{List, [], ◌∷◌, ◌++◌, map, append-nil, append_assoc}
use Prim.Native.Nat.{ℕ, suc, ◌+◌, ◌-◌, ◌/◌, ◌≤◌, ◌<◌}
use native.Mathlib.Nat.{div-eq-sub-div, div-eq_of_lt}
use native.Mathlib.Numerals.{add-one}
use native.Mathlib.Omega.{arith}
use borrow.Author.Tests.{eq-eqb, ne_eqb}
use lib.ListN.{length, take, drop, length-drop}
use Rattle.script_spec.specs.Base.{Bytes, bytes, joined, collect}
use Rattle.script_spec.specs.Tree.{wildcard}
use Rattle.script_spec.specs.Fields.{low}
use Rattle.script_spec.specs.Text.{literal, escaped, escape}
use Rattle.script_spec.specs.Command.{headed, spaced}
use Rattle.script_spec.specs.Spelling.{pattern_element, element_by, pattern}
use Rattle.std.specs.Int.{w32, from_le_bytes}
use Rattle.read_field.specs.Words.{words, elements}
use Rattle.write_pattern.specs.Elements.{spaced_element, several}

-- ---- elements

-- a quotient by four
quarter_more : (n : ℕ) → 4 ≤ n → n / 4 ≡ suc ((n - 4) / 4)
quarter_more n h = let pos : 0 < 4 = omega arith in div-eq-sub-div pos h ∙ add-one ((n - 4) / 4)

quarter_none : (n : ℕ) → n < 4 → n / 4 ≡ 0
quarter_none n h = div-eq_of_lt h

-- four bytes and more
words_first : (n m : ℕ) (s : Bytes) → n ≡ suc m → words n s ≡ low (take 4 s) ∷ words m (drop 4 s)
unfolding words
words_first n m s h = rw h

elements_more : (s : Bytes) (c : ℕ) → 4 ≤ length s → c ≡ low (take 4 s) → elements s ≡ c ∷ elements (drop 4 s)
unfolding elements
elements_more s c h e =
    let m : length (drop 4 s) ≡ length s - 4 = length-drop 4 s in
    words_first (length s / 4) ((length s - 4) / 4) s (quarter_more (length s) h) ∙ (rw (m, e))

words_none : (n : ℕ) (s : Bytes) → n ≡ 0 → words n s ≡ []
unfolding words
words_none n s h = rw h

elements_none : (s : Bytes) → length s < 4 → elements s ≡ []
unfolding elements
elements_none s h = words_none (length s / 4) s (quarter_none (length s) h)

-- the word of the first four bytes
word_low : (s : Bytes) {n : ℕ} → 4 ≤ length s → n ≡ from_le_bytes w32 (take 4 s) → n ≡ low (take 4 s)
unfolding low
word_low [] h e = absurd (omega (arith, h))
word_low (a ∷ []) h e = absurd (omega (arith, h))
word_low (a ∷ b ∷ []) h e = absurd (omega (arith, h))
word_low (a ∷ b ∷ d ∷ []) h e = absurd (omega (arith, h))
word_low (a ∷ b ∷ d ∷ f ∷ s) h e = omega (arith, e)

-- what `next` finds: an element before those that are left, or none
pub next_first : (s : Bytes) {first rest : Bytes} {n : ℕ} → first ≡ take 4 s → rest ≡ drop 4 s → length rest + 4 ≡ length s → n ≡ from_le_bytes w32 first → elements s ≡ n ∷ elements rest
next_first s {n = n} e h l w =
    let long : 4 ≤ length s = omega arith in
    rw h (elements_more s n long (word_low s long (rw e at w)))

pub next_none : (s : Bytes) → length s < 4 → (elements s ≡ []) × (elements s ≡ [])
next_none s h = let e = elements_none s h in (e, e)

-- ---- spelling

pub element_wildcard : (c : ℕ) → c ≡ 4294967295 → bytes "(re.* re.allchar)" ≡ pattern_element c
unfolding pattern_element element_by headed spaced joined bytes wildcard
element_wildcard c h = rw (eq-eqb c 4294967295 h)

pub element_point : (c : ℕ) → (c ≡ 4294967295 → ⊥) → bytes "(str.to_re \"" ++ (escape c ++ bytes "\")") ≡ pattern_element c
unfolding pattern_element element_by headed spaced joined bytes wildcard literal escaped collect
element_point c h = rw (ne_eqb c 4294967295 h) (simp (append-nil, append_assoc))

joined_spaced : (c : ℕ) (cs : List ℕ) → joined (bytes " ") (map pattern_element (c ∷ cs)) ≡ pattern_element c ++ collect spaced_element cs
unfolding joined collect spaced_element bytes
joined_spaced c [] = sym (append-nil (pattern_element c))
joined_spaced c (d ∷ r) = ap (λ (t : Bytes). pattern_element c ++ (32 ∷ t)) (joined_spaced d r)

pub collect_next : (c : ℕ) (cs r : List ℕ) → cs ≡ c ∷ r → collect spaced_element cs ≡ (32 ∷ pattern_element c) ++ collect spaced_element r
unfolding collect spaced_element
collect_next c cs r h = rw h

pub collect_none : (cs : List ℕ) → cs ≡ [] → collect spaced_element cs ≡ []
unfolding collect
collect_none cs h = rw h

pub pattern_none : (cs : List ℕ) → cs ≡ [] → bytes "(str.to_re \"\")" ≡ pattern cs
unfolding pattern headed spaced joined bytes literal escaped collect
pattern_none cs h = rw h

pub pattern_one : (c : ℕ) (cs r : List ℕ) → cs ≡ c ∷ r → r ≡ [] → pattern_element c ≡ pattern cs
unfolding pattern
pattern_one c cs r h k = rw (h, k)

pub pattern_many : (c d : ℕ) (cs r q : List ℕ) → cs ≡ c ∷ r → r ≡ d ∷ q → several c (d ∷ q) ≡ pattern cs
unfolding pattern several headed spaced bytes
pattern_many c d cs r q h k =
    let e : pattern_element c ++ (collect spaced_element (d ∷ q) ++ bytes ")") ≡ joined (bytes " ") (map pattern_element (c ∷ d ∷ q)) ++ bytes ")"
    = sym (append_assoc (pattern_element c) (collect spaced_element (d ∷ q)) (bytes ")")) ∙ ap (λ (t : Bytes). t ++ bytes ")") (sym (joined_spaced c (d ∷ q))) in
    rw (h, k) (ap (λ (t : Bytes). bytes "(re.++ " ++ t) e)
