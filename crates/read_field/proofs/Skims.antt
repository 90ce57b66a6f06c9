-- Laws of readers whose values are not kept: by cases on what the first field gives.
-- Assumes nothing.
use mathlib.Core.Path.{◌≡◌, refl, sym, ◌∙◌}
use Prim.Native.Nat.{ℕ, zero, suc}
use mathlib.Core.List.{[], ◌∷◌}
use Rattle.script_spec.specs.Base.{Bytes}
use Rattle.script_spec.specs.Fields.{Read, got, bad, Reader, ◌>>=◌, pure, u32, times, list, text, ref, pair, element}
use Rattle.read_field.specs.Reads.{skim, repeat}
use Rattle.read_field.specs.Items.{item_reader, list_reader}
use Rattle.read_field.specs.declared.list.Item.{Item}
use Rattle.read_field.specs.declared.list.Item.TheVariants as item

module _ {A B : Type 0} (r : Reader A) where
  -- what follows a field may be skimmed apart
  pub skim_bind : (k : A → Reader B) (q : A → Reader (Unit {0})) → ((a : A) (s : Bytes) → skim (k a) s ≡ q a s) → (s : Bytes) → skim (◌>>=◌ r k) s ≡ ◌>>=◌ r q s
  unfolding skim ◌>>=◌
  skim_bind k q h s = go (r s)
    where
      go : (x : Read A) → skim (◌>>=◌ (λ _. x) k) s ≡ ◌>>=◌ (λ _. x) q s
      go (got a rest) = h a rest
      go (bad n) = refl

  -- a value that is made of the field's
  pub skim_map : (f : A → B) (s : Bytes) → skim (◌>>=◌ r (λ a. pure (f a))) s ≡ skim r s
  unfolding skim ◌>>=◌ pure
  skim_map f s = go (r s)
    where
      go : (x : Read A) → skim (◌>>=◌ (λ _. x) (λ a. pure (f a))) s ≡ skim (λ _. x) s
      go (got a rest) = refl
      go (bad n) = refl

-- a refusal stays
pub skim_bad : {A : Type 0} (r : Reader A) (s : Bytes) (n : ℕ) → skim r s ≡ bad n → r s ≡ bad n
unfolding skim ◌>>=◌ pure
skim_bad {A} r s n = go (r s)
  where
    go : (x : Read A) → skim (λ _. x) s ≡ bad n → x ≡ bad n
    go (got a rest) h = cc
    go (bad m) h = let e : m ≡ n = cc in rw e

-- a field before readers that don't look at its value
pub skim_then : {A : Type 0} (r : Reader A) (q : Reader (Unit {0})) (s : Bytes) → ◌>>=◌ (skim r) (λ u. q) s ≡ ◌>>=◌ r (λ a. q) s
unfolding skim ◌>>=◌ pure
skim_then {A} r q s = go (r s)
  where
    go : (x : Read A) → ◌>>=◌ (skim (λ _. x)) (λ u. q) s ≡ ◌>>=◌ (λ _. x) (λ a. q) s
    go (got a rest) = refl
    go (bad n) = refl

pub skim_pure : {A : Type 0} (a : A) (s : Bytes) → skim (pure a) s ≡ pure tt s
unfolding skim ◌>>=◌ pure
skim_pure a s = refl

module _ {A : Type 0} (r : Reader A) where
  pub skim_times : (n : ℕ) (s : Bytes) → skim (times n r) s ≡ repeat n (skim r) s
  unfolding times repeat
  skim_times zero s = skim_pure [] s
  skim_times (suc n) s =
      skim_bind r _ (λ a. repeat n (skim r)) (λ a t. skim_map (times n r) (λ rest. a ∷ rest) t ∙ skim_times n t) s
      ∙ sym (skim_then r (repeat n (skim r)) s)

  skim_list : (s : Bytes) → skim (list r) s ≡ ◌>>=◌ u32 (λ n. repeat n (skim r)) s
  unfolding list
  skim_list s = skim_bind u32 _ (λ n. repeat n (skim r)) (λ n t. skim_times n t) s

-- a list of items, item by item
pub list_items : (k : Item) (s : Bytes) → list_reader k s ≡ ◌>>=◌ u32 (λ n. repeat n (item_reader k)) s
unfolding list_reader item_reader
list_items item.Text s = skim_list text s
list_items (item.Reference n) s = skim_list (ref n) s
list_items (item.Named n) s = skim_list (pair text (ref n)) s
list_items item.Element s = skim_list element s
