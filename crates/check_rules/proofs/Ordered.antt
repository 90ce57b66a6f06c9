-- Texts that ascend: the text of an item, and what two texts after one another decide.
-- Assumes nothing.
use mathlib.Core.Path.{◌≡◌, refl}
use Prim.Native.Nat.{ℕ}
use mathlib.Core.Bool.{Bool, true, false, not}
use borrow.Author.Tests.{ne_eqb}
use lib.Dec.{eqb}
use mathlib.Core.List.{List, [], ◌∷◌}
use Rattle.script_spec.specs.Base.{Bytes, before, ascending}
use Rattle.script_spec.specs.Fields.{text, u32}
use Rattle.std.specs.Prelude.{Result}
use Rattle.refusal.specs.declared.Refusal.{Refusal}
use Rattle.read_field.specs.declared.Cursor.{Cursor}
use Rattle.read_field.specs.Takes.{TakesTo, RefusesAt, Takes}
use Rattle.read_field.proofs.Laws.{takes_pure, takes_next, refuses_next, refuses_stop}
use Rattle.check_rules.specs.Tests.{named_text, item_text, ascending_after}

-- ---- the text of an item

pub item_alone : (c : Cursor) (x : Result (Bytes × Cursor) Refusal) → Takes text c x → Takes (item_text false) c x
unfolding item_text
item_alone c x h = h

-- a text with a reference after it; by a parameter that is not 0
named_is : (n : ℕ) → (n ≡ 0 → ⊥) → item_text (not (eqb n 0)) ≡ named_text
unfolding item_text
named_is n named = rw (ne_eqb n 0 named)

module _ {c d : Cursor} (n : ℕ) (named : n ≡ 0 → ⊥) where
  pub item_named : {t : Bytes} {m : ℕ} {e : Cursor} → TakesTo text c d t → TakesTo u32 d e m → TakesTo (item_text (not (eqb n 0))) c e t
  unfolding named_text
  item_named h l = rw (named_is n named) (takes_next _ h (takes_next _ l (takes_pure _)))

  pub item_cut : {t : Bytes} {x : Refusal} → TakesTo text c d t → RefusesAt u32 d x → RefusesAt (item_text (not (eqb n 0))) c x
  unfolding named_text
  item_cut h l = rw (named_is n named) (refuses_next _ h (refuses_stop _ l))

-- a text that is not there
pub item_bad : {c : Cursor} {x : Refusal} (named : Bool) → RefusesAt text c x → RefusesAt (item_text named) c x
unfolding item_text named_text
item_bad false h = h
item_bad true h = refuses_stop _ h

-- ---- two texts

module _ (p q : Bytes) {r : Bool} (h : r ≡ before p q) where
  pub after_next : r ≡ true → (ts : List Bytes) → ascending_after p (q ∷ ts) ≡ ascending_after q ts
  unfolding ascending_after ascending
  after_next l ts = rw (← h, l)

  pub after_stop : r ≡ false → (ts : List Bytes) → ascending_after p (q ∷ ts) ≡ false
  unfolding ascending_after ascending
  after_stop l ts = rw (← h, l)

pub after_none : (p : Bytes) → true ≡ ascending_after p []
unfolding ascending_after ascending
after_none p = refl

pub ascending_none : true ≡ ascending []
unfolding ascending
ascending_none = refl

pub ascending_first : (t : Bytes) (ts : List Bytes) → ascending (t ∷ ts) ≡ ascending_after t ts
unfolding ascending_after
ascending_first t ts = refl
