-- What a reader of a text or of a counted list of elements that gave a value has read.
-- Assumes nothing.
use Prim.Native.Nat.{ℕ, ◌+◌, ◌*◌}
use mathlib.Core.Path.{◌≡◌, refl, sym, ◌∙◌}
use mathlib.Core.List.{List, ◌++◌}
use lib.ListN.{length, take, drop}
use Rattle.script_spec.specs.Base.{Bytes}
use Rattle.script_spec.specs.Fields.{got, low, part, u32, text, times, list, element}
use Rattle.script_spec.proofs.Readers.{bind_inverse, tested_inverse, Took, part_inverse, took_first, u32_inverse, took_both, took_length}
use Rattle.read_field.specs.Words.{words}
use Rattle.read_field.proofs.Words.{elements_inverse}
use Rattle.index_compare.specs.Machine.{counted_size}

-- ---- texts

-- a text: its count and its bytes stand first, and the rest is left
pub record Texted (s a rest : Bytes) : Type 0 where
  pub size : low (take 4 s) ≡ length a
  pub count : length (take 4 s) ≡ 4
  pub took : Took (counted_size s) s (take 4 s ++ a) rest

pub text_inverse : (s : Bytes) {a rest : Bytes} → text s ≡ got a rest → Texted s a rest
unfolding text counted_size
text_inverse s e =
    let x = bind_inverse u32 _ s e in
    let w = u32_inverse s x.first in
    let t = part_inverse x.value x.mid (tested_inverse (part x.value) 6 _ x.mid x.after) in
    let four = took_first w in
    record { size = w.is ∙ sym (took_length t); count = took_length four; took = rw w.is (took_both four t) }

-- ---- lists of elements

-- the count of a list stands first
pub list_count : (s : Bytes) {p : List ℕ} {rest : Bytes} → list element s ≡ got p rest → Took 4 s (take 4 s) (drop 4 s)
unfolding list
list_count s e = record { fits = (u32_inverse s (bind_inverse u32 (λ n. times n element) s e).first).fits; is = refl; left = refl }

-- a counted list of elements
pub list_inverse : (s : Bytes) {p : List ℕ} {rest : Bytes} → list element s ≡ got p rest
    → Took (4 + 4 * low (take 4 s)) s (take 4 s ++ take (4 * low (take 4 s)) (drop 4 s)) rest × (words (low (take 4 s)) (drop 4 s) ≡ p)
unfolding list
list_inverse s e =
    let x = bind_inverse u32 (λ n. times n element) s e in
    let w = u32_inverse s x.first in
    let l = elements_inverse x.value x.mid x.after in
    let four = took_first w in
    rw (w.is, w.left) (took_both four l.took, l.value)
