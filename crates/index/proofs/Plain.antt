-- Entries that are no sets: their canonical entries have their first equal numbers as they stand. By cases.
-- Assumes nothing.
use Prim.Native.Nat.{ℕ}
use mathlib.Core.Path.{◌≡◌, refl, sym, ap, ◌∙◌}
use mathlib.Core.Bool.{Bool, false}
use Rattle.script_spec.specs.Tree.{is_set, TermMark, Var, BoolLit, BitVecLit, StringLit, Entity, ExtLit, None, Some, Set, Record, App}
use Rattle.script_spec.specs.Fields.{Entry, type, enum, func, term, input}
use Rattle.script_spec.specs.File.{TermFile}
use Rattle.index.specs.First.{first_type, first_fun, first_term, renumbered, in_order, settled, canonical, NoSet}
use Rattle.index.proofs.Renamed.{set_renamed}

-- whether an entry is a set
set_entry : Entry → Bool
set_entry (type m rs) = false
set_entry (enum n ms) = false
set_entry (func id a r) = false
set_entry (term m rs) = is_set m
set_entry (input n) = false

set_renumbered : (t u v : ℕ → ℕ) (x : Entry) → set_entry (renumbered t u v x) ≡ set_entry x
unfolding set_entry renumbered
set_renumbered t u v (type m rs) = refl
set_renumbered t u v (enum n ms) = refl
set_renumbered t u v (func id a r) = refl
set_renumbered t u v (term m rs) = set_renamed t u m
set_renumbered t u v (input n) = refl

set_settled : (x : Entry) → set_entry (settled x) ≡ set_entry x
unfolding set_entry settled
set_settled (type m rs) = refl
set_settled (enum n ms) = refl
set_settled (func id a r) = refl
set_settled (term m rs) = refl
set_settled (input n) = refl

settled_same : (x : Entry) → set_entry x ≡ false → settled x ≡ x
unfolding set_entry settled in_order
settled_same (type m rs) h = refl
settled_same (enum n ms) h = refl
settled_same (func id a r) h = refl
settled_same (term m rs) h = rw h refl
settled_same (input n) h = refl

no_mark : (m : TermMark ℕ ℕ) → ((t : ℕ) → m ≡ Set t → ⊥) → is_set m ≡ false
unfolding is_set
no_mark (Var id n) h = refl
no_mark (BoolLit b) h = refl
no_mark (BitVecLit n v) h = refl
no_mark (StringLit s) h = refl
no_mark (Entity n id) h = refl
no_mark (ExtLit v) h = refl
no_mark (None n) h = refl
no_mark Some h = refl
no_mark (Set n) h = absurd (h n refl)
no_mark (Record names) h = refl
no_mark (App n op) h = refl

no_entry : (x : Entry) → NoSet x → set_entry x ≡ false
unfolding set_entry
no_entry (type m rs) h = refl
no_entry (enum n ms) h = refl
no_entry (func id a r) h = refl
no_entry (term m rs) h = no_mark m (λ t e. h.no t rs (ap (λ (k : TermMark ℕ ℕ). term k rs) e))
no_entry (input n) h = refl

-- an entry with the first equal numbers as they stand
abbrev pub firsts : TermFile → Entry → Entry
firsts f x = renumbered (first_type f) (first_fun f) (first_term f) x

module _ (f : TermFile) where
  set_canonical : (x : Entry) → set_entry (canonical f x) ≡ set_entry x
  unfolding canonical
  set_canonical x = set_settled (firsts f x) ∙ set_renumbered (first_type f) (first_fun f) (first_term f) x

  by_kind : (x : Entry) → set_entry x ≡ false → canonical f x ≡ firsts f x
  unfolding canonical
  by_kind x h = settled_same (firsts f x) (set_renumbered (first_type f) (first_fun f) (first_term f) x ∙ h)

  pub canonical_plain : (x : Entry) → NoSet x → canonical f x ≡ firsts f x
  canonical_plain x n = by_kind x (no_entry x n)

  -- an entry with the same canonical entry is no set either
  pub same_plain : (x y : Entry) → NoSet x → canonical f x ≡ canonical f y → firsts f x ≡ firsts f y
  same_plain x y n e =
      let other : set_entry y ≡ false = sym (set_canonical y) ∙ ap set_entry (sym e) ∙ set_canonical x ∙ no_entry x n in
      sym (canonical_plain x n) ∙ e ∙ by_kind y other
