-- What a list's items are where the list was read: by cases on what the reader of an item gives.
-- Assumes nothing.
use mathlib.Core.Path.{◌≡◌, refl, ◌∙◌}
use Prim.Native.Nat.{ℕ, zero, suc}
use mathlib.Core.List.{List, [], ◌∷◌, map}
use Rattle.script_spec.specs.Base.{Bytes, firsts}
use Rattle.script_spec.specs.Fields.{got, bad, Reader, ◌>>=◌, pure, u32, ref, text, pair, times, list}
use Rattle.script_spec.proofs.Laws.{never}
use Rattle.script_spec.proofs.Readers.{bind_got, bind_inverse, pure_inverse, tested_inverse}
use Rattle.check_rules.specs.Tests.{named_text}

-- the items after the first
pub record Items {A : Type 0} (r : Reader A) (k : ℕ) (a : A) (left : Bytes) (xs : List A) (rest : Bytes) : Type 0 where
  pub tail : List A
  pub reads : times k r left ≡ got tail rest
  pub is : xs ≡ a ∷ tail

module _ {A : Type 0} (r : Reader A) (k : ℕ) (s : Bytes) (xs : List A) (rest : Bytes) where
  pub times_next : (a : A) (left : Bytes) → r s ≡ got a left → times (suc k) r s ≡ got xs rest → Items r k a left xs rest
  unfolding times ◌>>=◌ pure
  times_next a left q e =
      let b = bind_inverse r _ s e in
      let c = bind_inverse (times k r) _ b.mid b.after in
      record { tail = c.value; reads = cc (b.first, q, c.first, c.after); is = cc (b.first, q, c.after) }

  pub times_bad : (n : ℕ) → r s ≡ bad n → times (suc k) r s ≡ got xs rest → ⊥
  unfolding times
  times_bad n q e = let b = bind_inverse r _ s e in never (cc (b.first, q))

-- ---- other readers of the same items

module _ {A B : Type 0} (g : A → B) (r : Reader A) (q : Reader B) (alike : (s rest : Bytes) (a : A) → r s ≡ got a rest → q s ≡ got (g a) rest) where
  times_alike : (k : ℕ) (s rest : Bytes) (xs : List A) → times k r s ≡ got xs rest → times k q s ≡ got (map g xs) rest
  unfolding times ◌>>=◌ pure
  times_alike zero s rest xs e = let h = pure_inverse [] s e in rw (← h.0, h.1)
  times_alike (suc k) s rest xs e =
      let b = bind_inverse r _ s e in
      let c = bind_inverse (times k r) _ b.mid b.after in
      let p = pure_inverse (b.value ∷ c.value) c.mid c.after in
      bind_got q _ (alike s b.mid b.value b.first)
      ∙ bind_got (times k q) _ (times_alike k b.mid c.mid c.value c.first)
      ∙ (λ i. got (map g (p.0 i)) (p.1 i))

  list_alike : (s rest : Bytes) (xs : List A) → list r s ≡ got xs rest → list q s ≡ got (map g xs) rest
  unfolding list
  list_alike s rest xs e = let b = bind_inverse u32 _ s e in bind_got u32 _ b.first ∙ times_alike b.value b.mid rest xs b.after

map_same : {A : Type 0} (xs : List A) → map (λ x. x) xs ≡ xs
map_same [] = refl
map_same (x ∷ xs) = rw (map_same xs)

map_firsts : {A B : Type 0} (ps : List (A × B)) → map (λ p. p.0) ps ≡ firsts ps
unfolding firsts
map_firsts [] = refl
map_firsts (p ∷ ps) = rw (map_firsts ps)

module _ (count : ℕ) (s rest : Bytes) where
  -- references as numbers
  pub references_read : (rs : List ℕ) → list (ref count) s ≡ got rs rest → list u32 s ≡ got rs rest
  unfolding ref
  references_read rs e = rw map_same at (list_alike (λ n. n) (ref count) u32 (λ t u n h. tested_inverse u32 8 _ t h) s rest rs e)

  -- the text of a named reference
  name_is_read : (p : Bytes × ℕ) → pair text (ref count) s ≡ got p rest → named_text s ≡ got p.0 rest
  unfolding ref pair named_text pure
  name_is_read p e =
      let b = bind_inverse text _ s e in
      let c = bind_inverse (ref count) _ b.mid b.after in
      let h = pure_inverse (b.value, c.value) c.mid c.after in
      bind_got text _ b.first ∙ bind_got u32 _ (tested_inverse u32 8 _ b.mid c.first) ∙ (λ i. got (h.0 i).0 (h.1 i))

-- the texts of named references
pub names_read : (count : ℕ) (s rest : Bytes) (ps : List (Bytes × ℕ)) → list (pair text (ref count)) s ≡ got ps rest → list named_text s ≡ got (firsts ps) rest
names_read count s rest ps e = rw map_firsts at (list_alike (λ p. p.0) (pair text (ref count)) named_text (λ t u p h. name_is_read count t u p h) s rest ps e)
