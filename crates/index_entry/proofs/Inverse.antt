-- What a reader that succeeded has read, for what follows from it: each field is what stands at its place.
-- Assumes nothing.
use mathlib.Core.Path.{◌≡◌, sym, ap, ◌∙◌}
use mathlib.Core.Option.{none, some, none-ne-some}
use mathlib.Core.Bool.{Bool, true}
use mathlib.Core.List.{List, [], ◌∷◌}
use Prim.Native.Nat.{ℕ, zero, suc}
use lib.Dec.{leb}
use lib.ListN.{length, take, drop, get_or}
use lib.Seq.{drop-drop}
use Rattle.script_spec.specs.Base.{Bytes, at}
use Rattle.script_spec.specs.Fields.{got, Reader, ◌>>=◌, pure, ensure, part, u32, text, times, ref, pair, coded}
use Rattle.script_spec.proofs.Readers as readers
use Rattle.script_spec.proofs.Readers.{got_value, got_rest, coded_inverse}
use Rattle.index.specs.Lists.{number_at, first_text, text_size}
use Rattle.index_entry.specs.Places.{named_items}

-- one field after the other
pub bind_inverse : {A B P : Type 0} (r : Reader A) (k : A → Reader B) (s : Bytes) {b : B} {rest : Bytes} → ◌>>=◌ r k s ≡ got b rest
    → ((a : A) (mid : Bytes) → r s ≡ got a mid → k a mid ≡ got b rest → P) → P
bind_inverse r k s h next = let x = readers.bind_inverse r k s h in next x.value x.mid x.first x.after

-- a test that was passed
pub ensure_inverse : {A P : Type 0} (n : ℕ) (t : Bool) (a : A) (s : Bytes) {b : A} {rest : Bytes} → ensure n t a s ≡ got b rest → (a ≡ b → s ≡ rest → P) → P
ensure_inverse n t a s {b} {rest} h next = let e = readers.ensure_inverse n t a s h in next (got_value a b s rest e) (got_rest a b s rest e)

-- k bytes
pub part_inverse : {P : Type 0} (k : ℕ) (s : Bytes) {p rest : Bytes} → part k s ≡ got p rest → (leb k (length s) ≡ true → take k s ≡ p → drop k s ≡ rest → P) → P
part_inverse k s h next = let t = readers.part_inverse k s h in next t.fits t.is t.left

-- a number of four bytes
pub u32_inverse : {P : Type 0} (s : Bytes) {n : ℕ} {rest : Bytes} → u32 s ≡ got n rest → (number_at s 0 ≡ n → drop 4 s ≡ rest → P) → P
unfolding number_at
u32_inverse s h next = let w = readers.u32_inverse s h in next (rw (number_at, w.fits) w.is) w.left

-- a number of four bytes with a test
pub tested_inverse : {P : Type 0} (c : ℕ) (test : ℕ → Bool) (s : Bytes) {n : ℕ} {rest : Bytes} → ◌>>=◌ u32 (λ n. ensure c (test n) n) s ≡ got n rest
    → (number_at s 0 ≡ n → drop 4 s ≡ rest → P) → P
tested_inverse c test s h next = u32_inverse s (readers.tested_inverse u32 c test s h) next

-- a text
pub text_inverse : {P : Type 0} (s : Bytes) {a rest : Bytes} → text s ≡ got a rest → (first_text s ≡ a → drop (text_size s) s ≡ rest → P) → P
unfolding text first_text text_size
text_inverse s h next =
    bind_inverse u32 _ s h (λ n mid e g. u32_inverse s e (λ v d.
    let t = readers.part_inverse n mid (readers.tested_inverse (part n) 6 _ mid g) in
    next (rw (v, d) t.is) (rw v (sym (drop-drop n 4 s) ∙ (rw d t.left)))))

-- texts, each with a reference
pub named_inverse : (count n : ℕ) (s : Bytes) {ps : List (Bytes × ℕ)} {rest : Bytes} → times n (pair text (ref count)) s ≡ got ps rest → named_items n s ≡ ps
unfolding times pair ref pure named_items
named_inverse count zero s {ps} {rest} h = got_value [] ps s rest h
named_inverse count (suc n) s {ps} {rest} h =
    bind_inverse (pair text (ref count)) _ s h (λ p mid e g.
    bind_inverse text _ s e (λ a left ea ga. text_inverse s ea (λ ta da.
    bind_inverse (ref count) _ left ga (λ m last em gm. tested_inverse 8 _ left em (λ tm dm.
    bind_inverse (times n (pair text (ref count))) _ mid g (λ qs end eq gq.
    let one : (first_text s, number_at (drop (text_size s) s) 0) ≡ p = (rw (ta, da, tm)) ∙ got_value (a, m) p last mid gm in
    let rest-is : drop 4 (drop (text_size s) s) ≡ mid = (rw da) ∙ dm ∙ got_rest (a, m) p last mid gm in
    let more : named_items n mid ≡ qs = named_inverse count n mid eq in
    (rw (one, rest-is, more)) ∙ got_value (p ∷ qs) ps end rest gq))))))

-- ---- codes

module _ {A : Type 0} (table : List (Reader A)) (s : Bytes) {a : A} {rest : Bytes} (h : coded table s ≡ got a rest) {i : ℕ} (e : i ≡ get_or s 0 0) where
  -- the reader that the table has for the code that stands first reads on
  pub coded_at : (r : Reader A) → at i table ≡ some r → r (drop 1 s) ≡ got a rest
  coded_at r has =
      let c = coded_inverse table s h in
      let code : i ≡ c.code = e ∙ ap (λ (s : Bytes). get_or s 0 0) c.is in
      let same : some r ≡ some c.reader = sym has ∙ ap (λ (n : ℕ). at n table) code ∙ c.has in
      let reader : r ≡ c.reader = cc in
      let on : drop 1 s ≡ c.mid = ap (drop 1) c.is in
      (λ i. reader i (on i)) ∙ c.reads

  -- and the table has one
  pub coded_none : at i table ≡ none → ⊥
  coded_none has =
      let c = coded_inverse table s h in
      let code : i ≡ c.code = e ∙ ap (λ (s : Bytes). get_or s 0 0) c.is in
      none-ne-some c.reader (sym has ∙ ap (λ (n : ℕ). at n table) code ∙ c.has)
