-- Laws of codes: the reader that a table has for a code, and tables of values.
-- Assumes nothing.
use mathlib.Core.Path.{◌≡◌, refl}
use Prim.Native.Nat.{ℕ, zero, suc, ◌≤◌}
use native.Mathlib.Omega.{arith}
use mathlib.Core.List.{List, [], ◌∷◌, map}
use mathlib.Core.Option.{Option, none, some, none-ne-some}
use lib.ListN.{length}
use Rattle.script_spec.specs.Base.{Bytes, at}
use Rattle.script_spec.specs.Fields.{Reader, ◌>>=◌, present}
use Rattle.read_field.specs.Reads.{Told, value, refusal, as_read, Within, Reads, chosen}
use Rattle.read_field.proofs.Laws.{reads_next}

-- past the end of a table there is nothing
pub at_past : {A : Type 0} (xs : List A) (n : ℕ) → length xs ≤ n → at n xs ≡ none
unfolding at
at_past [] n h = refl
at_past (x ∷ xs) zero h = absurd (omega arith)
at_past (x ∷ xs) (suc n) h = at_past xs n (omega arith)

pub at_map : {A B : Type 0} (f : A → B) (xs : List A) (n : ℕ) (x : A) → at n xs ≡ some x → at n (map f xs) ≡ some (f x)
unfolding at
at_map f [] n x h = absurd (none-ne-some x h)
at_map f (y ∷ xs) zero x h = let e : y ≡ x = cc in rw e
at_map f (y ∷ xs) (suc n) x h = at_map f xs n x h

module _ {A : Type 0} (table : List (Reader A)) {body : Bytes} {from : ℕ} where
  present_some : (o : Option (Reader A)) (r : Reader A) → o ≡ some r → Reads (present 7 o) body from (value r from)
  unfolding present as_read Within
  present_some o r e = record { is = rw (present, e); within = λ h. (omega arith, h) }

  -- a code that the table has
  pub reads_chosen : {n : ℕ} {r : Reader A} {t : Told A} (k : ℕ) → n ≡ k → at k table ≡ some r → Reads r body from t → Reads (chosen table n) body from t
  unfolding chosen
  reads_chosen {n} {r} k e f h = rw e (reads_next _ (present_some (at k table) r f) h)

  -- a code that it has not
  pub chosen_refused : (n : ℕ) → length table ≤ n → Reads (chosen table n) body from (refusal 7)
  unfolding chosen present as_read Within ◌>>=◌
  chosen_refused n h = record { is = rw (at_past table n h); within = λ w. tt }
