-- A product by its two halves. What is left to mix in: bytes four at a time and then one by one, and segments one by one.
-- Assumes nothing.
use Prim.Native.Nat.{ℕ, zero, suc, ◌+◌, ◌*◌, ◌/◌, ◌%◌, ◌≤◌, ◌<◌}
use mathlib.Core.Path.{◌≡◌, refl, sym, ap, ◌∙◌}
use mathlib.Core.List.{List, [], ◌∷◌}
use native.Mathlib.Omega.{arith}
use lib.Bits.{bit_xor}
use lib.ListN.{length, take, drop, get_or, length-drop, drop_of_length-le}
use lib.Seq.{drop-drop, get_or-drop}
use Rattle.std.specs.List.{slice_index}
use Rattle.std.specs.Simd.{first_chunks}
use denote.Bor.{Bor}
use denote.Enum.Declared.{tag_of}
use Rattle.script_spec.specs.Base.{Bytes}
use Rattle.index_compare.specs.Segment.{Segment}
use Rattle.index_compare.specs.Step.{told}
use Rattle.index_compare.specs.View.{kind_of, reference_number, bytes_of}
use Rattle.index_compare.specs.contracts.segments.Referent.{the_type}
use Rattle.index_compare.specs.declared.segments.Segment as met
use Rattle.index_compare.specs.declared.segments.Segment.TheVariants.{Plain, Reference}
use Rattle.index_compare.specs.declared.segments.Referent.{Referent}
use Rattle.index_compare.specs.declared.segments.Referent.TheVariants as referent
use Rattle.index.specs.Names.{folded, mixed, mixed_bytes}
use Rattle.index_search.specs.Hash.{mixed_segment, mixed_segments}

-- ---- numbers

-- the halves of a number of 128 bits
pub low_half : (low high : ℕ) {p : ℕ} → low < 18446744073709551616 → low + high * 18446744073709551616 ≡ p → p % 18446744073709551616 ≡ low
low_half low high small e = omega (arith, small, e)

pub high_half : (low high : ℕ) {p : ℕ} → low < 18446744073709551616 → low + high * 18446744073709551616 ≡ p → p / 18446744073709551616 ≡ high
high_half low high small e = omega (arith, small, e)

-- one folded onto the other
pub folded_halves : (low high p : ℕ) → low < 18446744073709551616 → low + high * 18446744073709551616 ≡ p + 0 → bit_xor low high ≡ folded p
unfolding folded
folded_halves low high p small e =
    let q : low + high * 18446744073709551616 ≡ p = omega (arith, e) in
    rw (low_half low high small q, high_half low high small q)

-- ---- bytes

-- the chunk at a place
chunk_at : (k : ℕ) (s : List ℕ) (i : ℕ) → i < k → get_or (first_chunks 4 k s) i [] ≡ take 4 (drop (4 * i) s)
chunk_at zero s i l = absurd (omega arith)
chunk_at (suc k) s zero l = refl
chunk_at (suc k) s (suc i) l =
    let e : 4 + 4 * i ≡ 4 * suc i = omega arith in
    chunk_at k (drop 4 s) i (omega arith) ∙ ap (λ (r : List ℕ). take 4 r) (drop-drop (4 * i) 4 s ∙ ap (λ (n : ℕ). drop n s) e)

-- the number of four bytes
abbrev pub weighed : List ℕ → ℕ
weighed w = slice_index w 0 + slice_index w 1 * 256 + slice_index w 2 * 65536 + slice_index w 3 * 16777216

module _ (key h : ℕ) {r : ℕ} where
  -- four bytes, and then others
  bytes_four : {n : ℕ} (s : List ℕ) → 4 ≤ length s → n ≡ weighed (take 4 s) → r ≡ mixed key h n → mixed_bytes key r (drop 4 s) ≡ mixed_bytes key h s
  unfolding mixed_bytes
  bytes_four [] l e q = absurd (omega arith)
  bytes_four (a ∷ []) l e q = absurd (omega arith)
  bytes_four (a ∷ b ∷ []) l e q = absurd (omega arith)
  bytes_four (a ∷ b ∷ c ∷ []) l e q = absurd (omega arith)
  bytes_four {n} (a ∷ b ∷ c ∷ d ∷ s) l e q =
      let sum : n ≡ a + 256 * (b + 256 * (c + 256 * d)) = omega (arith, e) in
      rw (q, sum)

  -- one byte, and then up to two others
  bytes_one : {n : ℕ} (s : List ℕ) → 1 ≤ length s → length s < 4 → n ≡ get_or s 0 0 → r ≡ mixed key h n → mixed_bytes key r (drop 1 s) ≡ mixed_bytes key h s
  unfolding mixed_bytes
  bytes_one [] m l e q = absurd (omega arith)
  bytes_one (b ∷ []) m l e q = rw (q, e)
  bytes_one (b ∷ c ∷ []) m l e q = rw (q, e)
  bytes_one (b ∷ c ∷ d ∷ []) m l e q = rw (q, e)
  bytes_one (b ∷ c ∷ d ∷ x ∷ s) m l e q = absurd (omega arith)

module _ (key h : ℕ) {r n : ℕ} (s : List ℕ) (i : ℕ) where
  -- the chunk at a place, and then what comes after it
  pub word_next : {ws : List (List ℕ)} → ws ≡ first_chunks 4 (length s / 4) s → length ws ≡ length s / 4 → i < length ws
      → n ≡ weighed (get_or ws i []) → r ≡ mixed key h n → mixed_bytes key r (drop (4 * (i + 1)) s) ≡ mixed_bytes key h (drop (4 * i) s)
  word_next {ws} front few l e q =
      let is : get_or ws i [] ≡ take 4 (drop (4 * i) s) = ap (λ (w : List (List ℕ)). get_or w i []) front ∙ chunk_at (length s / 4) s i (omega arith) in
      let on : 4 * i + 4 ≡ 4 * (i + 1) = omega arith in
      let fits : 4 ≤ length (drop (4 * i) s) = omega (arith, length-drop (4 * i) s) in
      rw (← on, ← drop-drop 4 (4 * i) s) (bytes_four key h (drop (4 * i) s) fits (rw is at e) q)

  -- the byte at a place of the last ones, and then those after it
  pub byte_next : i < length s → length s < 4 → n ≡ get_or s i 0 → r ≡ mixed key h n → mixed_bytes key r (drop (i + 1) s) ≡ mixed_bytes key h (drop i s)
  byte_next l few e q =
      let zero-on : i + 0 ≡ i = omega arith in
      let head : get_or (drop i s) 0 0 ≡ get_or s i 0 = get_or-drop i s 0 0 ∙ ap (λ (k : ℕ). get_or s k 0) zero-on in
      rw (← drop-drop 1 i s) (bytes_one key h (drop i s) (omega (arith, length-drop i s)) (omega (arith, length-drop i s)) (e ∙ sym head) q)

-- where no byte is left
pub bytes_over : (key h : ℕ) {r : ℕ} (s : List ℕ) (i : ℕ) → length s ≤ i → mixed_bytes key h (drop i s) ≡ r → h ≡ r
unfolding mixed_bytes
bytes_over key h s i l e = rw (drop_of_length-le s l) at e

-- ---- segments

module _ (key : ℕ) where
  -- the first segment, and those after it
  pub ahead_next : (y : ℕ) {r : ℕ} {x : Segment} {l m : List Segment} → l ≡ x ∷ m → r ≡ mixed_segments key y (x ∷ []) → mixed_segments key r m ≡ mixed_segments key y l
  unfolding mixed_segments
  ahead_next y e q = rw (e, q)

  pub ahead_none : (y : ℕ) {l : List Segment} → l ≡ [] → y ≡ mixed_segments key y l
  unfolding mixed_segments
  ahead_none y e = rw e

  -- one segment, and then others
  pub segments_then : (h : ℕ) {y r : ℕ} (x : Segment) (l : List Segment) → y ≡ mixed_segments key h (x ∷ []) → r ≡ mixed_segments key y l → r ≡ mixed_segments key h (x ∷ l)
  unfolding mixed_segments
  segments_then h x l e q = rw e at q

  -- the segment that was met
  module _ (h : ℕ) {x : met.Segment} where
    pub mixed_plain : {p : Bor Bytes} {y r : ℕ} → x ≡ Plain p → y ≡ mixed_segment key h 1 0 → r ≡ mixed_bytes key y p.now → r ≡ mixed_segments key h (told x ∷ [])
    unfolding mixed_segments kind_of reference_number bytes_of
    mixed_plain e q m = rw (e, m, q)

    pub mixed_reference : (to : Referent) {n r : ℕ} → x ≡ Reference to n → r ≡ mixed_segment key h (tag_of the_type to + 2) n → r ≡ mixed_segments key h (told x ∷ [])
    unfolding mixed_segments mixed_bytes kind_of reference_number bytes_of
    mixed_reference referent.Type e m = rw (e, m)
    mixed_reference referent.Fun e m = rw (e, m)
    mixed_reference referent.Term e m = rw (e, m)
