-- Laws of bodies of up to three fields whose values are not kept: each field by its own reader.
-- Assumes nothing.
use mathlib.Core.Path.{◌≡◌, refl, sym, ◌∙◌}
use Prim.Native.Nat.{ℕ, zero, suc, ◌<◌}
use native.Mathlib.Omega.{arith}
use mathlib.Core.Bool.{Bool, true, false}
use mathlib.Core.List.{List, [], ◌∷◌, map}
use mathlib.Core.Option.{some}
use lib.Dec.{ltb}
use lib.ListN.{length, length-map}
use borrow.Author.Tests.{ltb-true, ltb-false}
use Rattle.script_spec.specs.Base.{Bytes, at}
use Rattle.script_spec.specs.Fields.{Read, got, bad, Reader, ◌>>=◌, pure, ensure, present, byte, coded}
use Rattle.read_field.specs.Reads.{skim, code, chosen}
use Rattle.read_field.proofs.Skims.{skim_bind, skim_map, skim_then}
use Rattle.read_field.proofs.Coded.{at_past, at_map}
use Rattle.read_record.specs.Fields.{three}

-- ---- readers that make the same of every body

module _ {A B : Type 0} (r q : Reader A) (h : (s : Bytes) → r s ≡ q s) where
  bind_alike : (k : A → Reader B) (s : Bytes) → ◌>>=◌ r k s ≡ ◌>>=◌ q k s
  unfolding ◌>>=◌
  bind_alike k s = rw (◌>>=◌, h s)

pub skim_alike : {A : Type 0} (r q : Reader A) → ((s : Bytes) → r s ≡ q s) → (s : Bytes) → skim r s ≡ skim q s
unfolding skim
skim_alike r q h s = bind_alike r q h _ s

-- nothing after a field
pub pure_after : (q : Reader (Unit {0})) (s : Bytes) → ◌>>=◌ q (λ u. pure tt) s ≡ q s
unfolding ◌>>=◌ pure
pure_after q s = go (q s)
  where
    go : (x : Read (Unit {0})) → ◌>>=◌ (λ _. x) (λ u. pure tt) s ≡ x
    go (got u rest) = refl
    go (bad n) = refl

pub three_one : (q : Reader (Unit {0})) (s : Bytes) → three q (pure tt) (pure tt) s ≡ q s
unfolding three ◌>>=◌ pure
three_one q s = pure_after q s

-- ---- bodies of up to three fields

-- a reader and its field: what the field makes of a body is what the reader makes of it, without the value
module _ {A : Type 0} (r : Reader A) (q : Reader (Unit {0})) (h : (s : Bytes) → skim r s ≡ q s) where
  then_alike : (p : Reader (Unit {0})) (s : Bytes) → ◌>>=◌ q (λ u. p) s ≡ ◌>>=◌ r (λ a. p) s
  then_alike p s = bind_alike q (skim r) (λ t. sym (h t)) (λ u. p) s ∙ skim_then r p s

  pub one_field : {B : Type 0} (f : A → B) (s : Bytes) → skim (◌>>=◌ r (λ a. pure (f a))) s ≡ three q (pure tt) (pure tt) s
  one_field f s = skim_map r f s ∙ h s ∙ sym (three_one q s)

  two_after : {B : Type 0} (f : A → B) (s : Bytes) → skim (◌>>=◌ r (λ a. pure (f a))) s ≡ ◌>>=◌ q (λ u. pure tt) s
  two_after f s = skim_map r f s ∙ h s ∙ sym (pure_after q s)

  -- a field before what is skimmed apart
  pub before : {B : Type 0} (k : A → Reader B) (p : Reader (Unit {0})) → ((a : A) (s : Bytes) → skim (k a) s ≡ p s) → (s : Bytes) → skim (◌>>=◌ r k) s ≡ ◌>>=◌ q (λ u. p) s
  before k p g s = skim_bind r k (λ a. p) g s ∙ sym (then_alike p s)

module _ {A B : Type 0} (r₁ : Reader A) (q₁ : Reader (Unit {0})) (h₁ : (s : Bytes) → skim r₁ s ≡ q₁ s)
    (r₂ : Reader B) (q₂ : Reader (Unit {0})) (h₂ : (s : Bytes) → skim r₂ s ≡ q₂ s) where
  pub two_fields : {C : Type 0} (f : A → B → C) (s : Bytes) → skim (◌>>=◌ r₁ (λ a. ◌>>=◌ r₂ (λ b. pure (f a b)))) s ≡ three q₁ q₂ (pure tt) s
  unfolding three
  two_fields f s = before r₁ q₁ h₁ _ _ (λ a t. two_after r₂ q₂ h₂ (f a) t) s

  pub three_fields : {C D : Type 0} (r₃ : Reader C) (q₃ : Reader (Unit {0})) → ((s : Bytes) → skim r₃ s ≡ q₃ s)
      → (f : A → B → C → D) (s : Bytes) → skim (◌>>=◌ r₁ (λ a. ◌>>=◌ r₂ (λ b. ◌>>=◌ r₃ (λ c. pure (f a b c))))) s ≡ three q₁ q₂ q₃ s
  unfolding three
  three_fields r₃ q₃ h₃ f s =
      before r₁ q₁ h₁ _ _ (λ a t. before r₂ q₂ h₂ _ q₃ (λ b u. skim_map r₃ (f a b) u ∙ h₃ u) t) s

-- ---- codes

-- a code that a table of values has
at_some : {A : Type 0} (xs : List A) (n : ℕ) → n < length xs → (x : A) × (at n xs ≡ some x)
unfolding at
at_some [] n h = absurd (omega arith)
at_some (x ∷ xs) zero h = (x, refl)
at_some (x ∷ xs) (suc n) h = at_some xs n (omega arith)

module _ {A : Type 0} (xs : List A) where
  skim_chosen : (n : ℕ) (b : Bool) → ltb n (length xs) ≡ b → (s : Bytes) → skim (chosen (map pure xs) n) s ≡ skim (ensure 7 b n) s
  unfolding skim chosen present ensure ◌>>=◌ pure
  skim_chosen n true e s = let p = at_some xs n (ltb-true n (length xs) e) in rw (at_map pure xs n p.0 p.1)
  skim_chosen n false e s = rw (at_past (map pure xs) n (rw length-map (ltb-false n (length xs) e)))

  -- a table of values is a code below its length
  pub skim_coded : (s : Bytes) → skim (coded (map pure xs)) s ≡ skim (code (length xs)) s
  unfolding coded code chosen
  skim_coded s =
      skim_bind byte _ (λ n. skim (ensure 7 (ltb n (length xs)) n)) (λ n t. skim_chosen n (ltb n (length xs)) refl t) s
      ∙ sym (skim_bind byte _ (λ n. skim (ensure 7 (ltb n (length xs)) n)) (λ n t. refl) s)
