-- Laws of bit vectors, extension values and entity types as their bodies have them.
-- Assumes nothing.
use mathlib.Core.Path.{◌≡◌, refl, sym, ap, ◌∙◌}
use Prim.Native.Nat.{ℕ, zero, suc, ◌^◌, ◌<◌}
use native.Mathlib.Omega.{arith}
use native.Mathlib.Nat.{le_refl}
use mathlib.Core.Bool.{Bool, true, false, ◌&&◌}
use mathlib.Core.List.{List, [], ◌∷◌}
use mathlib.Core.Option.{some}
use lib.Dec.{eqb, ltb, leb}
use lib.Pointwise.{pointwise}
use Rattle.std.specs.Prelude.{nat_eq}
use lib.ListN.{length, take, drop}
use lib.Seq.{take-take}
use Rattle.script_spec.specs.Base.{Bytes, same, at}
use Rattle.script_spec.specs.Tree.{Value}
use Rattle.script_spec.specs.Fields.{got, bad, Reader, ◌>>=◌, pure, present, part, low, number, address, prefix}
use Rattle.script_spec.proofs.Readers.{bind_got}
use Rattle.std.specs.Prelude.{Result, Ok, Err}
use Rattle.refusal.specs.declared.Refusal.{Refusal}
use Rattle.read_field.specs.Reads.{as_read, skim, chosen}
use Rattle.read_field.specs.declared.Cursor.{Cursor}
use Rattle.read_field.specs.Takes.{TakesTo, RefusesAt, Takes}
use Rattle.read_field.proofs.Laws.{alike, next}
use Rattle.read_field.proofs.Skims.{skim_bind, skim_map}
use Rattle.read_record.specs.Fields.{values, addressed}
use Rattle.read_record.proofs.Bodies.{skim_alike}

-- ---- composition

-- a field whose value is kept, before one whose value is not
pub skims_next : {A B : Type 0} {r : Reader A} (k : A → Reader B) {c d : Cursor} {a : A} (x : Result (Unit {0} × Cursor) Refusal)
    → TakesTo r c d a → Takes (skim (k a)) d x → Takes (skim (◌>>=◌ r k)) c x
skims_next {r = r} k {c} x h l = alike (skim_bind r k (λ a. skim (k a)) (λ a s. refl)) c x (next (λ a. skim (k a)) x h l)

-- the reader that a table has for a code
module _ {A : Type 0} (table : List (Reader A)) {n : ℕ} (k : ℕ) {r : Reader A} where
  chosen_is : n ≡ k → at k table ≡ some r → (s : Bytes) → chosen table n s ≡ r s
  unfolding chosen present
  chosen_is e f s = let p : present 7 (at k table) s ≡ got r s = rw (present, f) in rw e (bind_got (present 7 (at k table)) (λ r. r) p)

  skims_chosen : (q : Reader (Unit {0})) (c : Cursor) (x : Result (Unit {0} × Cursor) Refusal)
      → n ≡ k → at k table ≡ some r → ((s : Bytes) → skim r s ≡ q s) → Takes q c x → Takes (skim (chosen table n)) c x
  skims_chosen q c x e f g h = alike (λ s. skim_alike (chosen table n) r (chosen_is e f) s ∙ g s) c x h

-- ---- bit vectors

-- so many bytes as were asked for
part_taken : (n : ℕ) {c d : Cursor} {bs : Bytes} → TakesTo (part n) c d bs → take n bs ≡ bs
unfolding part as_read
part_taken n {c} {d} {bs} t = go (leb n (length (drop c.at c.body.now))) refl
  where
    go : (b : Bool) → leb n (length (drop c.at c.body.now)) ≡ b → take n bs ≡ bs
    go true e =
        let p : part n (drop c.at c.body.now) ≡ got (take n (drop c.at c.body.now)) (drop n (drop c.at c.body.now)) = rw (part, e) in
        let g = t.reads.is in
        let q : take n (drop c.at c.body.now) ≡ bs = cc in
        rw (← q) (take-take n n (drop c.at c.body.now) (le_refl n))
    go false e =
        let p : part n (drop c.at c.body.now) ≡ bad 5 = rw (part, e) in
        let g = t.reads.is in
        cc

-- the test of a value
pub fits_part : (w : ℕ) {c d : Cursor} {s : Bytes} {v : ℕ} {r b : Bool} → TakesTo (part 16) c d s → v ≡ low (take 16 s) → r ≡ ltb v (2 ^ w) → r ≡ b → ltb (low s) (2 ^ w) ≡ b
fits_part w t h g e = ap (λ x. ltb x (2 ^ w)) (sym (h ∙ ap low (part_taken 16 t))) ∙ sym g ∙ e

-- ---- extension values

addressed_skim : (size bound : ℕ) (f : ℕ → ℕ → Value) (s : Bytes) → skim (◌>>=◌ (address size) (λ a. ◌>>=◌ (prefix bound) (λ p. pure (f a p)))) s ≡ addressed size bound s
unfolding addressed
addressed_skim size bound f s = skim_bind (address size) _ (λ a. skim (prefix bound)) (λ a t. skim_map (prefix bound) (f a) t) s

signed_skim : (f : ℕ → Value) (s : Bytes) → skim (◌>>=◌ (number 8) (λ n. pure (f n))) s ≡ skim (part 8) s
unfolding number
signed_skim f s = skim_map (number 8) f s ∙ skim_map (part 8) low s

module _ {n : ℕ} (c : Cursor) (x : Result (Unit {0} × Cursor) Refusal) where
  pub skims_v4 : n ≡ 0 → Takes (addressed 4 32) c x → Takes (skim (chosen values n)) c x
  unfolding values at
  skims_v4 e h = skims_chosen values 0 (addressed 4 32) c x e refl (addressed_skim 4 32 _) h

  pub skims_v6 : n ≡ 1 → Takes (addressed 16 128) c x → Takes (skim (chosen values n)) c x
  unfolding values at
  skims_v6 e h = skims_chosen values 1 (addressed 16 128) c x e refl (addressed_skim 16 128 _) h

skims_signed : (n : ℕ) (c : Cursor) (x : Result (Unit {0} × Cursor) Refusal) → (n ≡ 0 → ⊥) × (n ≡ 1 → ⊥) → n < 5 → Takes (skim (part 8)) c x → Takes (skim (chosen values n)) c x
unfolding values at
skims_signed zero c x l u h = absurd (l.0 refl)
skims_signed (suc zero) c x l u h = absurd (l.1 refl)
skims_signed (suc (suc zero)) c x l u h = skims_chosen values 2 (skim (part 8)) c x refl refl (signed_skim _) h
skims_signed (suc (suc (suc zero))) c x l u h = skims_chosen values 3 (skim (part 8)) c x refl refl (signed_skim _) h
skims_signed (suc (suc (suc (suc zero)))) c x l u h = skims_chosen values 4 (skim (part 8)) c x refl refl (signed_skim _) h
skims_signed (suc (suc (suc (suc (suc n))))) c x l u h = absurd (omega arith)

-- neither of the first two codes, and one of five
module _ (n : ℕ) {c : Cursor} (l : (n ≡ 0 → ⊥) × (n ≡ 1 → ⊥)) (u : n < 5) where
  pub signed_taken : {d : Cursor} → TakesTo (skim (part 8)) c d tt → TakesTo (skim (chosen values n)) c d tt
  signed_taken {d} h = skims_signed n c (Ok (tt, d)) l u h

  pub signed_refused : {e : Refusal} → RefusesAt (skim (part 8)) c e → RefusesAt (skim (chosen values n)) c e
  signed_refused {e} h = skims_signed n c (Err e) l u h

-- ---- entity types

-- bytes that are compared one by one
pub pointwise_same : (s t : Bytes) → pointwise nat_eq s t ≡ same s t
unfolding same
pointwise_same [] [] = refl
pointwise_same [] (b ∷ t) = refl
pointwise_same (a ∷ s) [] = refl
pointwise_same (a ∷ s) (b ∷ t) = ap (λ x. eqb a b && x) (pointwise_same s t)
