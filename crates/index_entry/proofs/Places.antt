-- Laws of numbers, texts and lists at places: where bytes are missing, a number is 0.
-- Assumes nothing.
use mathlib.Core.Path.{◌≡◌, refl, sym, ap, ◌∙◌}
use mathlib.Core.List.{List, [], ◌∷◌}
use Prim.Native.Nat.{ℕ, zero, suc, ◌+◌}
use native.Mathlib.Omega.{arith}
use lib.ListN.{length, take, drop}
use lib.Seq.{drop-drop}
use borrow.Author.Tests.{lt-leb}
use Rattle.script_spec.specs.Base.{Bytes, firsts}
use Rattle.script_spec.specs.Fields.{u32}
use Rattle.script_spec.proofs.Readers.{u32_short}
use Rattle.read_field.specs.Reads.{value, refusal, as_read, Reads}
use Rattle.index.specs.Lists.{number_at, first_text, text_size, texts}
use Rattle.index_entry.specs.Places.{named_items, texts_in, rest_after_text, PastText}
use Rattle.index_entry.specs.Terms.{names_of, names_in}
use Rattle.index_entry.specs.declared.lists.Texts.{Texts}
use Rattle.index_entry.specs.declared.terms.Children.{Children}
use Rattle.index_entry.proofs.Inverse.{u32_inverse}

-- ---- numbers

pub number_read : (s : Bytes) (at : ℕ) {n to : ℕ} → Reads u32 s at (value n to) → n ≡ number_at s at
unfolding number_at as_read
number_read s at r = u32_inverse (drop at s) r.is (λ e d. sym e)

pub number_short : (s : Bytes) (at : ℕ) {m : ℕ} → Reads u32 s at (refusal m) → 0 ≡ number_at s at
unfolding number_at as_read
number_short s at {m} r = rw (number_at, lt-leb 4 (length (drop at s)) (u32_short (drop at s) m r.is))

-- ---- lists

pub text_is : (s t : Bytes) (at n start : ℕ) → n ≡ number_at s at → drop start s ≡ drop 4 (drop at s) → t ≡ take n (drop start s) → t ≡ first_text (drop at s)
unfolding first_text number_at
text_is s t at n start e a b = b ∙ (rw (a, e))

pub past_text : (s : Bytes) (at n start : ℕ) {end : ℕ} → n ≡ number_at s at → drop start s ≡ drop 4 (drop at s) → drop end s ≡ drop n (drop start s) → PastText s at end
unfolding text_size number_at
past_text s at n start {end} e a b =
    let size : n ≡ number_at (drop at s) 0 = e in
    record { rest = b ∙ (rw (a, size)) ∙ drop-drop (number_at (drop at s) 0) 4 (drop at s) }

pub after_text : {body : Bytes} {at : ℕ} (skip next : ℕ) {end : ℕ} → PastText body at end → drop next body ≡ drop skip (drop end body) → drop next body ≡ rest_after_text skip (drop at body)
unfolding rest_after_text
after_text skip next T e = e ∙ ap (λ (s : Bytes). drop skip s) T.rest

-- the names of items that have a reference too
pub texts_named : (n : ℕ) (s : Bytes) → firsts (named_items n s) ≡ texts 4 n s
unfolding firsts named_items texts
texts_named zero s = refl
texts_named (suc n) s = ap (λ (l : List Bytes). first_text s ∷ l) (texts_named n (drop 4 (drop (text_size s) s)))

-- so many texts are so many
pub length_texts : (skip n : ℕ) (s : Bytes) → length (texts skip n s) ≡ n
unfolding texts
length_texts skip zero s = refl
length_texts skip (suc n) s = ap suc (length_texts skip n (drop skip (drop (text_size s) s)))

-- ---- texts one after the other

pub no_texts : (t : Texts) → t.left ≡ 0 → texts_in t ≡ []
unfolding texts_in texts
no_texts t h = rw h refl

pub length_texts_in : (t : Texts) → length (texts_in t) ≡ t.left
unfolding texts_in
length_texts_in t = length_texts t.skip t.left (drop t.from t.body.now)

pub first_of_texts : (t : Texts) (next left : ℕ) {s : Bytes} → s ≡ first_text (drop t.from t.body.now) → drop next t.body.now ≡ rest_after_text t.skip (drop t.from t.body.now)
    → left + 1 ≡ t.left → texts_in t ≡ s ∷ texts_in (record { body = t.body; from = next; left = left; skip = t.skip })
unfolding texts_in texts rest_after_text
first_of_texts t next left {s} first on fewer =
    let more : t.left ≡ suc left = omega arith in
    ap (λ (n : ℕ). texts t.skip n (drop t.from t.body.now)) more
    ∙ (λ i. sym first i ∷ texts t.skip left (sym on i))

-- the names of children are texts
pub names_are : (c : Children) → texts_in (names_of c) ≡ names_in c
unfolding texts_in names_of names_in
names_are c = sym (texts_named c.left (drop c.from c.body.now))
