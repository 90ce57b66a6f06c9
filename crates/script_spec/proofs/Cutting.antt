-- A text is cut between code points: what is kept of a text that is UTF-8 is UTF-8, and has its first 200 code points. By recursion on
-- the bytes, as they are decoded.
-- Assumes nothing.
use Prim.Native.Nat.{ℕ, zero, suc, ◌+◌, ◌-◌, ◌*◌, ◌≤◌, ◌<◌}
use native.Mathlib.Omega.{arith}
use mathlib.Core.Path.{◌≡◌, refl, sym, ap, ◌∙◌, subst}
use mathlib.Core.Bool.{Bool, true, false, true≢false}
use mathlib.Core.List.{List, [], ◌∷◌}
use mathlib.Core.Option.{Option, none, some, map, get_or, none-ne-some}
use lib.Dec.{T, eqb, ltb, leb, leb→le, ltb→lt, eqb→eq}
use lib.ListN.{take}
use lib.Seq.{take-nil}
use borrow.Author.Tests.{lt-ltb, le-ltb, le-leb, lt-leb, ltb-true, ltb-false}
use Rattle.script_spec.specs.Base.{Bytes, between, is_some}
use Rattle.script_spec.specs.Utf8.{decode, code_points?, code_points, is_utf8}
use Rattle.script_spec.specs.Text.{begun, cut_after}
use Rattle.script_spec.proofs.Laws.{and_parts, never}

-- ---- bytes at which a code point begins

pub begun_ascii : (b : ℕ) → b < 128 → 1 ≡ begun b
unfolding begun between
begun_ascii b h = rw (lt-leb 128 b h, begun)

pub begun_inside : (b : ℕ) → 128 ≤ b → b ≤ 191 → 0 ≡ begun b
unfolding begun between
begun_inside b h k = rw (le-leb 128 b h, le-leb b 191 k, begun)

pub begun_first : (b : ℕ) → 191 < b → 1 ≡ begun b
unfolding begun between
begun_first b h = rw (lt-leb b 191 h, le-leb 128 b (omega arith), begun)

-- ---- a text byte by byte

pub cut_on : (n b : ℕ) (s : Bytes) → n + begun b ≤ 200 → cut_after n (b ∷ s) ≡ b ∷ cut_after (n + begun b) s
unfolding cut_after
cut_on n b s h = rw (le-ltb 200 (n + begun b) h, cut_after)

pub cut_off : (n b : ℕ) (s : Bytes) → 200 < n + begun b → cut_after n (b ∷ s) ≡ []
unfolding cut_after
cut_off n b s h = rw (lt-ltb 200 (n + begun b) h, cut_after)

-- ---- the code points that are kept

-- what is decoded, if anything, becomes its first k code points
record First (k : ℕ) (o o' : Option (List ℕ)) : Type 0 where
  are : (cs : List ℕ) → o ≡ some cs → o' ≡ some (take k cs)

First-if : (b : Bool) (k : ℕ) (x y x' y' : Option (List ℕ)) → (T b → First k x x') → First k y y'
    → First k (elim b as (λ z. Option (List ℕ)) [ true ↦ x | false ↦ y ]) (elim b as (λ z. Option (List ℕ)) [ true ↦ x' | false ↦ y' ])
First-if true k x y x' y' h l = h tt
First-if false k x y x' y' h l = l

First-none : (k : ℕ) (o : Option (List ℕ)) → First k none o
First-none k o = record { are = λ cs e. absurd (none-ne-some cs e) }

-- no code point of what is decoded
First-zero : (o : Option (List ℕ)) → First 0 o (decode zero 0 0 0 [])
unfolding decode
First-zero o = record { are = λ cs e. refl }

First-map : (c k l : ℕ) (o o' : Option (List ℕ)) → l ≡ suc k → First k o o' → First l (map (λ (cs : List ℕ). c ∷ cs) o) (map (λ (cs : List ℕ). c ∷ cs) o')
First-map c k l none o' e h = First-none l _
First-map c k l (some cs) o' e h = record {
  are = λ ds q.
      let taken : some (c ∷ take k cs) ≡ some (take l ds) = rw e (ap (map (take (suc k))) q) in
      ap (map (λ (rs : List ℕ). c ∷ rs)) (h.are cs refl) ∙ taken;
}

module _ (low high n : ℕ) (h : T (between low high n)) where
  above : low ≤ n
  unfolding between
  above = leb→le low n (and_parts (leb low n) (leb n high) h).0

  below : n ≤ high
  unfolding between
  below = leb→le n high (and_parts (leb low n) (leb n high) h).1

-- no code point begins with a byte from 128 to 191
Never-if : (b : Bool) (x y : Option (List ℕ)) → (T b → ⊥) → y ≡ none → ◌≡◌ {A = Option (List ℕ)} (elim b as (λ z. Option (List ℕ)) [ true ↦ x | false ↦ y ]) none
Never-if true x y h e = absurd (h tt)
Never-if false x y h e = e

inside_none : (a : ℕ) (r : Bytes) → 128 ≤ a → a ≤ 191 → decode zero 0 0 0 (a ∷ r) ≡ none
unfolding decode
inside_none a r h k =
    Never-if (ltb a 128) _ _ (λ t. omega (arith, ltb→lt a 128 t))
    (Never-if (between 194 223 a) _ _ (λ t. omega (arith, above 194 223 a t))
    (Never-if (eqb a 224) _ _ (λ t. omega (arith, eqb→eq a 224 t))
    (Never-if (eqb a 237) _ _ (λ t. omega (arith, eqb→eq a 237 t))
    (Never-if (between 225 239 a) _ _ (λ t. omega (arith, above 225 239 a t))
    (Never-if (eqb a 240) _ _ (λ t. omega (arith, eqb→eq a 240 t))
    (Never-if (between 241 243 a) _ _ (λ t. omega (arith, above 241 243 a t))
    (Never-if (eqb a 244) _ _ (λ t. omega (arith, eqb→eq a 244 t)) refl)))))))

-- another byte begins one
begun_not : (a : ℕ) → between 128 191 a ≡ false → begun a ≡ 1
unfolding begun
begun_not a e = rw (e, begun)

-- the code points of no bytes
nil_taken : (k : ℕ) (cs : List ℕ) → some [] ≡ some cs → cs ≡ take k cs
nil_taken k [] e = sym (take-nil k)
nil_taken k (c ∷ cs) e = never cc

-- how many of the code points to come are kept, where n were begun before: one of them is begun already where bytes of it are to come
left : ℕ → ℕ → ℕ
left zero n = 200 - n
left (suc more) n = 201 - n

-- the bytes to come of a code point are from 128 to 191
Inside : ℕ → ℕ → ℕ → Type 0
Inside zero low high = 0 ≤ 0
Inside (suc more) low high = (128 ≤ low) × (high ≤ 191)

-- what is kept of bytes as they are decoded, wherever a code point stands in them
abbrev Cut : Bytes → Type 0
Cut s = (more low high value n : ℕ) → n ≤ 200 → Inside more low high → First (left more n) (decode more low high value s) (decode more low high value (cut_after n s))

-- a byte after which bytes of its code point are to come, or none
module _ (a : ℕ) (r : Bytes) (rest : Cut r) (n : ℕ) where
  later : (more low high value : ℕ) → n + 1 ≤ 200 → 128 ≤ low → high ≤ 191 → First (200 - n) (decode (suc more) low high value r) (decode (suc more) low high value (cut_after (n + 1) r))
  unfolding left Inside
  later more low high value h l k =
      let e : 201 - (n + 1) ≡ 200 - n = omega arith in
      subst (λ (j : ℕ). First j (decode (suc more) low high value r) (decode (suc more) low high value (cut_after (n + 1) r))) e (rest (suc more) low high value (n + 1) h (l, k))

  first_kept : n + 1 ≤ 200 → First (200 - n) (decode zero 0 0 0 (a ∷ r)) (decode zero 0 0 0 (a ∷ cut_after (n + 1) r))
  unfolding decode left Inside
  first_kept h =
      First-if (ltb a 128) (200 - n) _ _ _ _ (λ t. First-map a (200 - (n + 1)) (200 - n) _ _ (omega arith) (rest zero 0 0 0 (n + 1) h (omega arith)))
      (First-if (between 194 223 a) (200 - n) _ _ _ _ (λ t. later 0 128 191 (a - 192) h (omega arith) (omega arith))
      (First-if (eqb a 224) (200 - n) _ _ _ _ (λ t. later 1 160 191 0 h (omega arith) (omega arith))
      (First-if (eqb a 237) (200 - n) _ _ _ _ (λ t. later 1 128 159 13 h (omega arith) (omega arith))
      (First-if (between 225 239 a) (200 - n) _ _ _ _ (λ t. later 1 128 191 (a - 224) h (omega arith) (omega arith))
      (First-if (eqb a 240) (200 - n) _ _ _ _ (λ t. later 2 144 191 0 h (omega arith) (omega arith))
      (First-if (between 241 243 a) (200 - n) _ _ _ _ (λ t. later 2 128 191 (a - 240) h (omega arith) (omega arith))
      (First-if (eqb a 244) (200 - n) _ _ _ _ (λ t. later 2 128 143 4 h (omega arith) (omega arith)) (First-none (200 - n) none))))))))

  first_by : begun a ≡ 1 → (o : Bool) → ltb n 200 ≡ o → First (200 - n) (decode zero 0 0 0 (a ∷ r)) (decode zero 0 0 0 (cut_after n (a ∷ r)))
  first_by one true e =
      let l : n + 1 ≤ 200 = omega (arith, ltb-true n 200 e) in
      let on : cut_after n (a ∷ r) ≡ a ∷ cut_after (n + 1) r = rw one at (cut_on n a r (rw one l)) in
      rw on (first_kept l)
  first_by one false e =
      let z : 200 - n ≡ 0 = omega (arith, ltb-false n 200 e) in
      rw (z, cut_off n a r (rw one (omega (arith, ltb-false n 200 e)))) (First-zero (decode zero 0 0 0 (a ∷ r)))

  first_cut : (o : Bool) → between 128 191 a ≡ o → First (200 - n) (decode zero 0 0 0 (a ∷ r)) (decode zero 0 0 0 (cut_after n (a ∷ r)))
  first_cut true e =
      let i : T (between 128 191 a) = subst T (sym e) tt in
      rw (inside_none a r (above 128 191 a i) (below 128 191 a i)) (First-none (200 - n) _)
  first_cut false e = first_by (begun_not a e) (ltb n 200) refl

  module _ (low high value : ℕ) (h : n ≤ 200) (l : 128 ≤ low) (k : high ≤ 191) where
    next_kept : (more : ℕ) → First (201 - n) (decode (suc more) low high value (a ∷ r)) (decode (suc more) low high value (a ∷ cut_after n r))
    unfolding decode left Inside
    next_kept zero = First-if (between low high a) (201 - n) _ none _ none (λ t. First-map (value * 64 + (a - 128)) (200 - n) (201 - n) _ _ (omega arith) (rest zero 0 0 0 n h (omega arith))) (First-none (201 - n) none)
    next_kept (suc more) = First-if (between low high a) (201 - n) _ none _ none (λ t. rest (suc more) 128 191 (value * 64 + (a - 128)) n h (omega arith, omega arith)) (First-none (201 - n) none)

    next_none : (more : ℕ) → between low high a ≡ false → decode (suc more) low high value (a ∷ r) ≡ none
    unfolding decode
    next_none more e = rw (e, decode)

    next_cut : (more : ℕ) (o : Bool) → between low high a ≡ o → First (201 - n) (decode (suc more) low high value (a ∷ r)) (decode (suc more) low high value (cut_after n (a ∷ r)))
    next_cut more true e =
        let i : T (between low high a) = subst T (sym e) tt in
        let none-begun : begun a ≡ 0 = sym (begun_inside a (omega (arith, above low high a i)) (omega (arith, below low high a i))) in
        let same : n + 0 ≡ n = omega arith in
        let on : cut_after n (a ∷ r) ≡ a ∷ cut_after n r = rw (none-begun, same) at (cut_on n a r (rw (none-begun, same) h)) in
        rw on (next_kept more)
    next_cut more false e = rw (next_none more e) (First-none (201 - n) _)

-- where no byte of a code point is to come, nothing is known of the next
decode_zero : (low high value : ℕ) (s : Bytes) → decode zero 0 0 0 s ≡ decode zero low high value s
unfolding decode
decode_zero low high value [] = refl
decode_zero low high value (a ∷ r) = refl

decode_cut : (s : Bytes) → Cut s
unfolding decode cut_after left Inside
decode_cut [] zero low high value n h k = record { are = λ cs e. e ∙ ap some (nil_taken (200 - n) cs e) }
decode_cut [] (suc more) low high value n h k = First-none (201 - n) none
decode_cut (a ∷ r) zero low high value n h k =
    subst (First (200 - n) (decode zero 0 0 0 (a ∷ r))) (decode_zero low high value (cut_after n (a ∷ r))) (first_cut a r (decode_cut r) n (between 128 191 a) refl)
decode_cut (a ∷ r) (suc more) low high value n h k = next_cut a r (decode_cut r) n low high value h k.0 k.1 more (between low high a) refl

-- what is kept of a text that is UTF-8 are its first 200 code points
pub cut_points : (s : Bytes) → is_utf8 s ≡ true → code_points? (cut_after 0 s) ≡ some (take 200 (code_points s))
unfolding is_utf8 is_some code_points code_points? left Inside
cut_points s h = go (decode 0 0 0 0 s) refl h
  where
    go : (o : Option (List ℕ)) → decode 0 0 0 0 s ≡ o → is_some o ≡ true → decode 0 0 0 0 (cut_after 0 s) ≡ some (take 200 (get_or o []))
    go none e q = absurd (true≢false (sym q))
    go (some cs) e q = (decode_cut s 0 0 0 0 0 (omega arith) (omega arith)).are cs e
