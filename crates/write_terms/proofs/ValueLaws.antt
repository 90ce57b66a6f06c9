-- Options, sets and records, piece by piece.
-- Assumes nothing.
use mathlib.Core.Path.{◌≡◌, refl, sym, ap, ◌∙◌}
use mathlib.Core.List.{List, [], ◌∷◌, ◌++◌, append_assoc}
use Prim.Native.Nat.{ℕ}
use lib.ListN.{length}
use Rattle.script_spec.specs.Base.{Bytes, bytes, joined}
use Rattle.script_spec.specs.File.{TermFile}
use Rattle.script_spec.specs.Command.{headed, spaced}
use Rattle.script_spec.specs.Spelling.{sort, as_sort, set_value, record_value}
use Rattle.script_spec.specs.Walk.{State, names}
use Rattle.write_bytes.specs.declared.writer.Writer.{Writer}
use Rattle.write_bytes.specs.Writers.{Writes}
use Rattle.index.specs.Cells.{cell, term_type}
use Rattle.index.specs.declared.Records.{Records}
use Rattle.index_entry.specs.Terms.{children_in}
use Rattle.index_entry.specs.declared.terms.Compound.{Compound}
use Rattle.index_entry.proofs.ChildLaws.{no_children, length_children}
use Rattle.write_types.specs.Sorts.{SpellsSort}
use Rattle.write_atoms.specs.Atoms.{SpellsAtom}
use Rattle.walk_names.proofs.Spelling.{written, spells_as, knowing, ◌next◌}
use Rattle.write_terms.specs.Arguments.{atoms, spaced_before, SpellsArguments}
use Rattle.write_terms.specs.Values.{sort_at, SpellsTermSort, SpellsConstant, SpellsSome, SpellsSet, SpellsRecord}
use Rattle.write_terms.proofs.ArgumentLaws.{headed_closed, headed_last, atoms_some}

-- ---- the sort of a term

pub term_sort : {records : Records} {n t : ℕ} {v w : Writer} → t ≡ cell records.work.now records.sizes.rows term_type n → SpellsSort records t v w → SpellsTermSort records n v w
unfolding sort_at
term_sort {n = n} e P =
    spells_as (λ f S I N l. ap (sort (names S)) ((rw e) ∙ (I.rows.term_row n l).type_is)) (knowing (λ f I l. rw e (I.rows.term_row n l).type_below) P)

as_pieces : (constant ty : Bytes) → bytes "(as " ++ (constant ++ (bytes " " ++ (ty ++ bytes ")"))) ≡ as_sort constant ty
unfolding as_sort headed spaced joined bytes
as_pieces constant ty = simp append_assoc

pub spells_constant : {records : Records} {n : ℕ} {constant : Bytes} {v v₁ v₂ v₃ v₄ w : Writer} → Writes v v₁ (bytes "(as ") → Writes v₁ v₂ constant → Writes v₂ v₃ (bytes " ")
    → SpellsTermSort records n v₃ v₄ → Writes v₄ w (bytes ")") → SpellsConstant records n constant v w
spells_constant A B C P D = spells_as (λ f S I N l. as_pieces _ _) (written A next written B next written C next P next written D)

-- ---- options

some_pieces : (s : Bytes) → bytes "(some " ++ (s ++ bytes ")") ≡ headed (bytes "some") (s ∷ [])
unfolding headed spaced joined bytes
some_pieces s = refl

pub spells_some : {records : Records} {m : ℕ} {v x y w : Writer} → Writes v x (bytes "(some ") → SpellsAtom records m x y → Writes y w (bytes ")") → SpellsSome records m v w
spells_some A P B = spells_as (λ f S I N l. some_pieces _) (written A next P next written B)

-- ---- sets and records

set_some : (f : TermFile) (S : State) (ty : Bytes) (ns : List ℕ) → (length ns ≡ 0 → ⊥)
    → bytes "(set.insert" ++ (spaced_before (atoms f S ns) ++ (bytes " " ++ (as_sort (bytes "set.empty") ty ++ bytes ")"))) ≡ set_value ty (atoms f S ns)
unfolding atoms set_value bytes
set_some f S ty [] h = absurd (h refl)
set_some f S ty (n ∷ ns) h = headed_last (bytes "set.insert") (as_sort (bytes "set.empty") ty) _

record_full : (f : TermFile) (S : State) (ty : Bytes) (ns : List ℕ) → (length ns ≡ 0 → ⊥) → headed ty (atoms f S ns) ≡ record_value ty (atoms f S ns)
unfolding atoms record_value
record_full f S ty [] h = absurd (h refl)
record_full f S ty (n ∷ ns) h = refl

record_some : (f : TermFile) (S : State) (ty : Bytes) (ns : List ℕ) → (length ns ≡ 0 → ⊥) → bytes "(" ++ (ty ++ (spaced_before (atoms f S ns) ++ bytes ")")) ≡ record_value ty (atoms f S ns)
record_some f S ty ns h = ap (λ (s : Bytes). bytes "(" ++ (ty ++ s)) (atoms_some f S ns h) ∙ headed_closed ty (atoms f S ns) ∙ record_full f S ty ns h

module _ {records : Records} {c : Compound} {v : Writer} where
  pub set_none : {w : Writer} → c.children.left ≡ 0 → SpellsConstant records c.number (bytes "set.empty") v w → SpellsSet records c v w
  unfolding atoms set_value
  set_none e P = let none : children_in c.children ≡ [] = no_children c.children e in spells_as (λ f S I N k. rw none) (knowing (λ f I k. k.inside) P)

  pub spells_set : {v₁ v₂ v₃ v₄ w : Writer} → (c.children.left ≡ 0 → ⊥) → Writes v v₁ (bytes "(set.insert") → SpellsArguments records c.children v₁ v₂ → Writes v₂ v₃ (bytes " ")
      → SpellsConstant records c.number (bytes "set.empty") v₃ v₄ → Writes v₄ w (bytes ")") → SpellsSet records c v w
  spells_set h A P B C D =
      spells_as (λ f S I N k. set_some f S (sort_at f S c.number) (children_in c.children) (λ e. h (sym (length_children c.children) ∙ e)))
      (written A next knowing (λ f I k. k.below) P next written B next knowing (λ f I k. k.inside) C next written D)

  pub record_none : {w : Writer} → c.children.left ≡ 0 → SpellsTermSort records c.number v w → SpellsRecord records c v w
  unfolding atoms record_value
  record_none e P = let none : children_in c.children ≡ [] = no_children c.children e in spells_as (λ f S I N k. rw none) (knowing (λ f I k. k.inside) P)

  pub spells_record : {v₁ v₂ v₃ w : Writer} → (c.children.left ≡ 0 → ⊥) → Writes v v₁ (bytes "(") → SpellsTermSort records c.number v₁ v₂ → SpellsArguments records c.children v₂ v₃
      → Writes v₃ w (bytes ")") → SpellsRecord records c v w
  spells_record h A C P B =
      spells_as (λ f S I N k. record_some f S (sort_at f S c.number) (children_in c.children) (λ e. h (sym (length_children c.children) ∙ e)))
      (written A next knowing (λ f I k. k.inside) C next knowing (λ f I k. k.below) P next written B)
