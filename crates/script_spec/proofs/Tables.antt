-- What a table of texts has for a text: what holds of each entry holds of the one that is found. By recursion on the table.
-- Assumes nothing.
use mathlib.Core.Path.{◌≡◌, refl, sym, subst}
use mathlib.Core.Bool.{Bool, true, false}
use mathlib.Core.List.{List, [], ◌∷◌}
use mathlib.Core.Option.{Option, some, none-ne-some}
use Rattle.script_spec.specs.Base.{Bytes, same, lookup}
use Rattle.script_spec.specs.Faithful.{Every, every, also}
use Rattle.script_spec.proofs.Laws.{same_eq}

pub lookup_entry : {A : Type 0} (P : Bytes → A → Type 0) (s : Bytes) (ps : List (Bytes × A)) {a : A} → Every (λ (p : Bytes × A). P p.0 p.1) ps → lookup s ps ≡ some a → P s a
unfolding lookup
lookup_entry P s [] {a} every e = absurd (none-ne-some a e)
lookup_entry {A} P s (p ∷ ps) {a} (also h hs) e = from (same s p.0) refl e (λ k. lookup_entry P s ps hs k)
  where
    from : (b : Bool) → same s p.0 ≡ b → elim b as (λ y. Option A) [ true ↦ some p.1 | false ↦ lookup s ps ] ≡ some a → (lookup s ps ≡ some a → P s a) → P s a
    from true q k later = let w : p.1 ≡ a = cc in subst (λ (m : Bytes). P m a) (sym (same_eq s p.0 (rw q tt))) (rw w at h)
    from false q k later = later k

-- whatever the text
pub lookup_every : {A : Type 0} (P : A → Type 0) (s : Bytes) (ps : List (Bytes × A)) {a : A} → Every (λ (p : Bytes × A). P p.1) ps → lookup s ps ≡ some a → P a
lookup_every P s ps h e = lookup_entry (λ m a. P a) s ps h e
