-- The search of a text in a list of a body: the first text that is the same. By what is left of the list.
-- Assumes nothing.
use Prim.Native.Nat.{ℕ}
use mathlib.Core.Path.{◌≡◌, refl, sym, ap, ◌∙◌}
use mathlib.Core.Bool.{Bool, true, false, cond}
use lib.Dec.{ltb}
use lib.ListN.{length}
use Rattle.std.specs.Prelude as std
use Rattle.std.specs.Prelude.{Some, None}
use Rattle.std.specs.List.{position_or_len}
use Rattle.script_spec.specs.Base.{Bytes, same}
use Rattle.script_spec.proofs.Laws.{same_eq, same_refl, is_true}
use Rattle.refusal.specs.Numbers.{option_of}
use Rattle.refusal.proofs.Options.{place_position}
use Rattle.index_entry.specs.Places.{texts_in}
use Rattle.index_entry.specs.declared.lists.Texts.{Texts}
use Rattle.walk_queries.specs.Found.{FindsText}

-- a decision of equality is the test
pub decided : (r : Bool) (a b : Bytes) → (r ≡ true → a ≡ b) × (a ≡ b → r ≡ true) → r ≡ same a b
decided true a b d = sym (is_true (same a b) (rw (d.0 refl) (same_refl b)))
decided false a b d = go (same a b) refl
  where
    go : (t : Bool) → same a b ≡ t → false ≡ t
    go true e = d.1 (same_eq a b (rw e tt))
    go false e = refl

-- what `position` answers of texts
pub text_found : (among : Texts) (name : Bytes) {r : std.Option ℕ} → r ≡ cond (ltb (position_or_len (same name) (texts_in among)) (length (texts_in among))) (Some (position_or_len (same name) (texts_in among))) None
    → FindsText among name r
text_found among name e = record {
  is = sym (place_position (same name) (texts_in among)) ∙ ap option_of (sym e);
}
