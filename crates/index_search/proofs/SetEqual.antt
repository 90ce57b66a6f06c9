-- A set is equal to another whose elements are noted exactly where it has as many elements, each of which has a note: its elements differ, so that
-- those of the other are among them too.
-- Assumes nothing.
use Prim.Native.Nat.{ℕ, zero, suc, ◌<◌}
use native.Mathlib.Omega.{arith}
use mathlib.Core.Path.{◌≡◌, refl, sym, ap, ◌∙◌, subst}
use mathlib.Core.Bool.{true}
use mathlib.Core.List.{List, [], ◌∷◌, map, Memᴰ}
use lib.ListN.{length, length-map, get_or}
use Rattle.script_spec.specs.Base.{Bytes}
use Rattle.script_spec.specs.Tree.{is_set, Var, BoolLit, BitVecLit, StringLit, Entity, ExtLit, None, Some, Set, Record, App}
use Rattle.script_spec.specs.Fields.{Entry, type, enum, func, term, input}
use Rattle.script_spec.specs.File.{TermFile, terms, earlier}
use Rattle.script_spec.proofs.Laws.{never}
use Rattle.index.specs.Cells.{placed, cell, type_first, term_first, type_depth, note}
use Rattle.index.specs.First.{first_type, first_term, All, Below, InRange, renamed, renumbered, in_order, settled, canonical, ascended}
use Rattle.index.specs.Rules.{different, differs}
use Rattle.index.specs.Meaning.{Rows}
use Rattle.index.proofs.Ascended.{ascended_mem, mem_ascended, ascended_same}
use Rattle.index.proofs.Cells.{shared}
use Rattle.index.proofs.Firsts.{first_terms, first_below}
use Rattle.index_compare.proofs.Canonical.{index_firsts, renumbered_firsts}
use Rattle.check_rules.specs.Repeats.{noted, Noted}
use Rattle.check_rules.proofs.Noting.{noted_other, noted_from, has_note}
use Rattle.check_rules.proofs.Sets.{IsSet}
use Rattle.index_search.specs.Sets.{NotedSet}
use Rattle.index_search.specs.Found.{At}
use Rattle.index_search.proofs.Members.{Within, mem_at, at_mem, all_within, ascended_size}
use Rattle.index_search.proofs.Numbers.{NoNotes}
use Rattle.index_search.proofs.SetLaws.{set_parts}

-- ---- sets among entries

-- what is canonical like a set is a set
canonical_set : (f : TermFile) (y : Entry) {t : ℕ} {ns : List ℕ} → canonical f y ≡ term (Set t) ns → IsSet y
unfolding canonical settled renumbered renamed
canonical_set f (type m rs) e = never cc
canonical_set f (enum n ms) e = never cc
canonical_set f (func id a r) e = never cc
canonical_set f (term (Var id n) rs) e = never cc
canonical_set f (term (BoolLit b) rs) e = never cc
canonical_set f (term (BitVecLit n v) rs) e = never cc
canonical_set f (term (StringLit s) rs) e = never cc
canonical_set f (term (Entity n id) rs) e = never cc
canonical_set f (term (ExtLit v) rs) e = never cc
canonical_set f (term (None n) rs) e = never cc
canonical_set f (term Some rs) e = never cc
canonical_set f (term (Set n) rs) e = record { type = n; elements = rs; is = refl }
canonical_set f (term (Record names) rs) e = never cc
canonical_set f (term (App n op) rs) e = never cc
canonical_set f (input n) e = never cc

-- a number that is below, by its place
pub below_at : (count : ℕ) (rs : List ℕ) → Below count rs → (i : ℕ) → i < length rs → get_or rs i 0 < count
unfolding Below All
below_at count [] b i l = absurd (omega arith)
below_at count (r ∷ rs) b zero l = b.0
below_at count (r ∷ rs) b (suc i) l = below_at count rs b.1 i (omega arith)

module _ (f : TermFile) (t : ℕ) (rs : List ℕ) where
  pub canonical_is : canonical f (term (Set t) rs) ≡ term (Set (first_type f t)) (ascended (map (first_term f) rs))
  unfolding canonical settled renumbered renamed in_order is_set
  canonical_is = refl

  pub set_differs : differs f (term (Set t) rs) ≡ true → different (map (first_term f) rs) ≡ true
  unfolding differs is_set
  set_differs d = d

  pub members_below : InRange (earlier f) (term (Set t) rs) → (i : ℕ) → i < length rs → get_or rs i 0 < length (terms f)
  unfolding InRange earlier
  members_below h i l = below_at (length (terms f)) rs h.1 i l

  pub numbers_below : InRange (earlier f) (term (Set t) rs) → (i : ℕ) → i < length rs → first_term f (get_or rs i 0) < length (terms f)
  numbers_below h i l = first_below (first_terms f) (get_or rs i 0) (members_below h i l)

-- the first equal numbers of a set are those that the memory has
pub set_firsts : {file : Bytes} {f : TermFile} {work : List ℕ} {k : ℕ} → Rows file f work k → (t : ℕ) (rs : List ℕ) → InRange (earlier f) (term (Set t) rs) → (cell work k type_first t ≡ first_type f t) × (map (cell work k term_first) rs ≡ map (first_term f) rs)
unfolding renumbered renamed
set_firsts I t rs h = set_parts (renumbered_firsts (index_firsts I) (term (Set t) rs) h)

-- ---- the notes

-- the elements of a set are noted, in a memory with no notes
module _ {file : Bytes} {f : TermFile} {work : List ℕ} {k : ℕ} (I : Rows file f work k) (free : NoNotes f work k) (t : ℕ) (rs : List ℕ) (h : InRange (earlier f) (term (Set t) rs)) (d : different (map (first_term f) rs) ≡ true)
    {work₁ : List ℕ} {φ : ℕ → ℕ} (N : Noted work work₁ k φ (length rs)) (φ_is : (i : ℕ) → i < length rs → φ i ≡ first_term f (get_or rs i 0)) where
  -- columns that the notes do not touch
  pub column_kept : (column j : ℕ) → (note ≡ column → ⊥) → (type_depth ≡ column → ⊥) → cell work₁ k column j ≡ cell work k column j
  unfolding shared placed
  column_kept column j a b = ap (λ (w : List ℕ). cell w k column j) N.is ∙ noted_other work k φ (length rs) column j a b

  module _ (t' : ℕ) (rs' : List ℕ) (h' : InRange (earlier f) (term (Set t') rs')) where
    -- the number of an element
    element_first : (i : ℕ) → i < length rs' → cell work₁ k term_first (get_or rs' i 0) ≡ first_term f (get_or rs' i 0)
    element_first i l = column_kept term_first (get_or rs' i 0) (λ e. omega arith) (λ e. omega arith) ∙ (I.term_row (get_or rs' i 0) (members_below f t' rs' h' i l)).first

    -- elements that have a note are among those that were noted
    noted_within : ((i : ℕ) → i < length rs' → cell work₁ k note (cell work₁ k term_first (get_or rs' i 0)) ≡ 0 → ⊥) → Within (map (first_term f) rs') (map (first_term f) rs)
    noted_within has m j =
        let at = mem_at (first_term f) rs' j in
        let empty : cell work k note m ≡ 0 = free m (subst (λ (n : ℕ). n < length (terms f)) (sym at.2) (numbers_below f t' rs' h' at.0 at.1)) in
        let A = noted_from work k φ (length rs) m empty (λ z. has at.0 at.1 (ap (cell work₁ k note) (element_first at.0 at.1 ∙ sym at.2) ∙ ap (λ (w : List ℕ). cell w k note m) N.is ∙ z)) in
        subst (λ (n : ℕ). Memᴰ n (map (first_term f) rs)) (sym (φ_is A.index A.below) ∙ A.is) (at_mem (first_term f) rs A.index A.below)

    -- and those that are have one
    within_noted : Within (map (first_term f) rs') (map (first_term f) rs) → (i : ℕ) → i < length rs' → cell work₁ k note (cell work₁ k term_first (get_or rs' i 0)) ≡ 0 → ⊥
    within_noted w i l z =
        let at = mem_at (first_term f) rs (w (first_term f (get_or rs' i 0)) (at_mem (first_term f) rs' i l)) in
        let same : φ at.0 ≡ cell work₁ k term_first (get_or rs' i 0) = φ_is at.0 at.1 ∙ sym at.2 ∙ sym (element_first i l) in
        has_note work k φ (N.fits (omega (arith, at.1))) at.0 (length rs) at.1 N.below (ap (cell (noted work k φ (length rs)) k note) same ∙ ap (λ (w : List ℕ). cell w k note (cell work₁ k term_first (get_or rs' i 0))) (sym N.is) ∙ z)

    module _ (d' : different (map (first_term f) rs') ≡ true) where
      -- the same canonical entry, where the numbers of the types are the same
      within_equal : first_type f t' ≡ first_type f t → length rs' ≡ length rs → Within (map (first_term f) rs') (map (first_term f) rs) → canonical f (term (Set t') rs') ≡ canonical f (term (Set t) rs)
      within_equal q size w =
          let sizes : length (map (first_term f) rs') ≡ length (map (first_term f) rs) = length-map rs' (first_term f) ∙ size ∙ sym (length-map rs (first_term f)) in
          canonical_is f t' rs' ∙ (λ i. term (Set (q i)) (ascended_same (map (first_term f) rs') (map (first_term f) rs) w (all_within (map (first_term f) rs') (map (first_term f) rs) d' sizes w) i)) ∙ sym (canonical_is f t rs)

      equal_size : ascended (map (first_term f) rs') ≡ ascended (map (first_term f) rs) → length rs' ≡ length rs
      equal_size e =
          sym (length-map rs' (first_term f)) ∙ sym (ascended_size (map (first_term f) rs') d') ∙ ap length e ∙ ascended_size (map (first_term f) rs) d ∙ length-map rs (first_term f)

    equal_within : ascended (map (first_term f) rs') ≡ ascended (map (first_term f) rs) → Within (map (first_term f) rs') (map (first_term f) rs)
    equal_within e m j = mem_ascended (map (first_term f) rs) m (subst (λ (l : List ℕ). Memᴰ m l) e (ascended_mem (map (first_term f) rs') m j))

  module _ {o : ℕ} {y : Entry} (Y : At file f o y) where
    in_range_as : (t' : ℕ) (rs' : List ℕ) → y ≡ term (Set t') rs' → InRange (earlier f) (term (Set t') rs')
    in_range_as t' rs' e = subst (InRange (earlier f)) e Y.in_range

    differ_as : (t' : ℕ) (rs' : List ℕ) → y ≡ term (Set t') rs' → different (map (first_term f) rs') ≡ true
    differ_as t' rs' e = set_differs f t' rs' (ap (differs f) (sym e) ∙ Y.differ)

    pub noted_equal : NotedSet work₁ k (cell work k type_first t) (length rs) y → canonical f y ≡ canonical f (term (Set t) rs)
    noted_equal S =
        let ms = S.members in
        let h' = in_range_as S.of ms S.is in
        let same : first_type f S.of ≡ first_type f t = sym (set_firsts I S.of ms h').0 ∙ sym (column_kept type_first S.of (λ e. omega arith) (λ e. omega arith)) ∙ S.type_is ∙ (set_firsts I t rs h).0 in
        ap (canonical f) S.is ∙ within_equal S.of ms h' (differ_as S.of ms S.is) same S.size (noted_within S.of ms h' (λ i l. S.noted i (omega (arith, S.size))))

    pub equal_noted : canonical f y ≡ canonical f (term (Set t) rs) → NotedSet work₁ k (cell work k type_first t) (length rs) y
    equal_noted e =
        let S = canonical_set f y (e ∙ canonical_is f t rs) in
        let ms = S.elements in
        let h' = in_range_as S.type ms S.is in
        let p = set_parts (sym (canonical_is f S.type ms) ∙ ap (canonical f) (sym S.is) ∙ e ∙ canonical_is f t rs) in
        let size = equal_size S.type ms h' (differ_as S.type ms S.is) p.1 in
        record {
          of = S.type;
          members = ms;
          is = S.is;
          type_is = column_kept type_first S.type (λ e. omega arith) (λ e. omega arith) ∙ (set_firsts I S.type ms h').0 ∙ p.0 ∙ sym (set_firsts I t rs h).0;
          size = size;
          noted = λ i l. within_noted S.type ms h' (equal_within S.type ms h' p.1) i (omega (arith, size));
        }
