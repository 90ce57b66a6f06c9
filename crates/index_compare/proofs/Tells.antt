-- Two bodies whose segments agree, with other numbers for the references, are read as values that agree with these numbers: a
-- relation of pairs of readers that each field and each way of making a reader has.
-- Assumes nothing.
use Prim.Native.Nat.{ℕ}
use mathlib.Core.Path.{◌≡◌, ◌∙◌, subst}
use mathlib.Core.List.{List, ◌∷◌, map}
use lib.ListN.{take, drop}
use Rattle.script_spec.specs.Base.{Bytes}
use Rattle.script_spec.specs.Fields.{got, Reader, ◌>>=◌, pure, low}
use Rattle.script_spec.proofs.Readers.{bind_inverse, pure_inverse, Took, Numbered, took_first}
use Rattle.index_compare.specs.Segment.{Segment}
use Rattle.index_compare.specs.Machine.{Then, cut, reference}

-- ---- the segments of what was read

pub cut_took : {n : ℕ} {s p rest : Bytes} (wrap : Bytes → Segment) (next : Then) → Took n s p rest → cut n wrap next s ≡ wrap p ∷ next rest
unfolding cut
cut_took {n} {s} wrap next t =
    let h = t.fits in
    let first : cut n wrap next s ≡ wrap (take n s) ∷ next (drop n s) = rw (h, cut) in
    first ∙ (rw (t.is, t.left))

pub reference_read : {s rest : Bytes} {n : ℕ} (wrap : ℕ → Segment) (next : Then) → Numbered 4 s n rest → reference wrap next s ≡ wrap n ∷ next rest
unfolding reference
reference_read wrap next w = cut_took (λ p. wrap (low p)) next (took_first w) ∙ (rw w.is)

-- ---- readers

pub cons_parts : {A : Type 0} {x y : A} {l m : List A} → x ∷ l ≡ y ∷ m → (x ≡ y) × (l ≡ m)
cons_parts e = (cc, cc)

module _ (g : Segment → Segment) where
  -- a reader of a whole body, or of what is left of it, with its segments: where these agree the values are in R
  pub record Tells {A : Type 0} (R : A → A → Type 0) (r r' : Reader A) (last : Then) : Type 0 where
    pub go : (s s' rest rest' : Bytes) (a a' : A) → r s ≡ got a rest → r' s' ≡ got a' rest' → map g (last s) ≡ map g (last s') → R a a'

  -- a reader of a field: where the segments agree so do those that follow
  pub record FieldTells {A : Type 0} (R : A → A → Type 0) (r r' : Reader A) (field : Then → Then) : Type 0 where
    pub go : (next : Then) (s s' rest rest' : Bytes) (a a' : A) → r s ≡ got a rest → r' s' ≡ got a' rest'
        → map g (field next s) ≡ map g (field next s') → R a a' × (map g (next rest) ≡ map g (next rest'))

  module _ {A B : Type 0} {R : A → A → Type 0} {Q : B → B → Type 0} {r r' : Reader A} {k k' : A → Reader B} where
    pub tells_bind : {field : Then → Then} {last : Then} → FieldTells R r r' field → ((a a' : A) → R a a' → Tells Q (k a) (k' a') last)
        → Tells Q (◌>>=◌ r k) (◌>>=◌ r' k') (field last)
    tells_bind {field} {last} F H =
        record {
          go = λ s s' rest rest' b b' e e' q.
              let x = bind_inverse r k s e in
              let x' = bind_inverse r' k' s' e' in
              let told = F.go last s s' x.mid x'.mid x.value x'.value x.first x'.first q in
              (H x.value x'.value told.0).go x.mid x'.mid rest rest' b b' x.after x'.after told.1;
        }

    pub field_bind : {field later : Then → Then} → FieldTells R r r' field → ((a a' : A) → R a a' → FieldTells Q (k a) (k' a') later)
        → FieldTells Q (◌>>=◌ r k) (◌>>=◌ r' k') (λ next. field (later next))
    field_bind {field} {later} F H =
        record {
          go = λ next s s' rest rest' b b' e e' q.
              let x = bind_inverse r k s e in
              let x' = bind_inverse r' k' s' e' in
              let told = F.go (later next) s s' x.mid x'.mid x.value x'.value x.first x'.first q in
              (H x.value x'.value told.0).go next x.mid x'.mid rest rest' b b' x.after x'.after told.1;
        }

  module _ {A : Type 0} {R : A → A → Type 0} where
    pub tells_pure : {last : Then} (a a' : A) → R a a' → Tells R (pure a) (pure a') last
    tells_pure a a' h =
        record {
          go = λ s s' rest rest' b b' e e' q.
              subst (R b) (pure_inverse a' s' e').0 (subst (λ x. R x a') (pure_inverse a s e).0 h);
        }

    pub field_pure : (a a' : A) → R a a' → FieldTells R (pure a) (pure a') (λ next. next)
    field_pure a a' h =
        record {
          go = λ next s s' rest rest' b b' e e' q.
              let x = pure_inverse a s e in
              let x' = pure_inverse a' s' e' in
              (subst (R b) x'.0 (subst (λ y. R y a') x.0 h), rw (x.1, x'.1) at q);
        }

  -- the value of a reader, made into another
  pub tells_then : {A B : Type 0} {R : A → A → Type 0} {Q : B → B → Type 0} {r r' : Reader A} {last : Then} (f f' : A → B) → Tells R r r' last
      → ((a a' : A) → R a a' → Q (f a) (f' a')) → Tells Q (◌>>=◌ r (λ a. pure (f a))) (◌>>=◌ r' (λ a. pure (f' a))) last
  tells_then {A} {B} {R} {Q} {r} {r'} f f' F H =
      record {
        go = λ s s' rest rest' b b' e e' q.
            let x = bind_inverse r (λ a. pure (f a)) s e in
            let x' = bind_inverse r' (λ a. pure (f' a)) s' e' in
            let told = F.go s s' x.mid x'.mid x.value x'.value x.first x'.first q in
            let h = H x.value x'.value told in
            subst (Q b) (pure_inverse (f' x'.value) x'.mid x'.after).0
            (subst (λ y. Q y (f' x'.value)) (pure_inverse (f x.value) x.mid x.after).0 h);
      }

  pub field_then_is : {A B : Type 0} {R : A → A → Type 0} {Q : B → B → Type 0} {r r' : Reader A} {field : Then → Then} (f f' : A → B) → FieldTells R r r' field
      → ((a a' : A) → R a a' → Q (f a) (f' a')) → FieldTells Q (◌>>=◌ r (λ a. pure (f a))) (◌>>=◌ r' (λ a. pure (f' a))) field
  field_then_is f f' F H = field_bind F (λ a a' h. field_pure (f a) (f' a') (H a a' h))
