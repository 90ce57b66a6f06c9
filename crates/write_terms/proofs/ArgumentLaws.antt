-- The children of a term, one after the other: what writes those that are left writes all, after those that were written.
-- Assumes nothing.
use mathlib.Core.Path.{◌≡◌, refl, sym, ap, ◌∙◌}
use mathlib.Core.Bool.{Bool, true}
use mathlib.Core.List.{List, [], ◌∷◌, ◌++◌, append_assoc, append-nil}
use Prim.Native.Nat.{ℕ}
use lib.Dec.{ltb}
use lib.ListN.{length}
use Rattle.script_spec.specs.Base.{Bytes, bytes, joined, collect}
use Rattle.script_spec.specs.File.{TermFile}
use Rattle.script_spec.specs.Command.{headed, spaced}
use Rattle.script_spec.specs.Walk.{State}
use Rattle.write_bytes.specs.declared.writer.Writer.{Writer}
use Rattle.write_bytes.specs.Writing.{ceiling}
use Rattle.write_bytes.specs.Writers.{Writes}
use Rattle.index.specs.First.{All, Below}
use Rattle.index.specs.declared.Records.{Records}
use Rattle.index_entry.specs.Terms.{children_in}
use Rattle.index_entry.specs.declared.terms.Children.{Children}
use Rattle.index_entry.proofs.ChildLaws.{no_children, length_children}
use Rattle.walk_names.specs.Spells.{Spells}
use Rattle.write_atoms.specs.Atoms.{SpellsAtom}
use Rattle.walk_names.proofs.Spelling.{written, spells_as, unwritten, stopped, knowing, ◌next◌}
use Rattle.write_terms.specs.Arguments.{atoms, spaced_before, closed_list, HasTerms, SpellsArguments, SpellsClosed}

-- the terms with these numbers are written, each after a space
abbrev pub SpellsList : Records → List ℕ → Writer → Writer → Type 0
SpellsList records ns = Spells records (HasTerms ns) (λ f S. spaced_before (atoms f S ns))

-- what writes the terms that are left, from here on, writes all
pub record Left (records : Records) (ns : List ℕ) (u : Writer) (ms : List ℕ) (v : Writer) : Type 0 where
  pub go : (w : Writer) → SpellsList records ms v w → SpellsList records ns u w

module _ {records : Records} {ns : List ℕ} {u : Writer} where
  pub left_start : Left records ns u ns u
  left_start = record { go = λ w P. P }

  pub left_on : {v x y : Writer} {n : ℕ} {ms : List ℕ} → Left records ns u (n ∷ ms) v → Writes v x (bytes " ") → SpellsAtom records n x y → Left records ns u ms y
  unfolding Below All spaced_before atoms collect
  left_on L A P = record {
    go = λ w Q. L.go w (spells_as (λ f S I N b. sym (append_assoc (bytes " ") _ _)) (written A next knowing (λ f I b. b.0) P next knowing (λ f I b. b.1) Q));
  }

  pub left_past : {v : Writer} {p : Bool} {ms : List ℕ} → Left records ns u ms v → p ≡ ltb (ceiling v.limit) v.at → p ≡ true → SpellsList records ns u v
  left_past L e h = L.go _ (stopped e h)

  pub left_end : {v : Writer} → Left records ns u [] v → SpellsList records ns u v
  unfolding spaced_before atoms collect
  left_end L = L.go _ (unwritten (λ f S I N b. refl))

-- ---- the end

-- texts after spaces
led_spaced : (x : Bytes) (xs : List Bytes) → spaced_before (x ∷ xs) ≡ bytes " " ++ spaced (x ∷ xs)
unfolding spaced_before collect spaced joined bytes
led_spaced x [] = append-nil (32 ∷ x)
led_spaced x (y ∷ xs) = ap (λ (s : Bytes). 32 ∷ (x ++ s)) (led_spaced y xs)

closed_cons : (x : Bytes) (xs : List Bytes) → spaced_before (x ∷ xs) ++ bytes ")" ≡ closed_list (x ∷ xs)
unfolding closed_list
closed_cons x xs = ap (λ (s : Bytes). s ++ bytes ")") (led_spaced x xs) ∙ append_assoc (bytes " ") (spaced (x ∷ xs)) (bytes ")")

-- where there are children
pub atoms_some : (f : TermFile) (S : State) (ns : List ℕ) → (length ns ≡ 0 → ⊥) → spaced_before (atoms f S ns) ++ bytes ")" ≡ closed_list (atoms f S ns)
unfolding atoms
atoms_some f S [] h = absurd (h refl)
atoms_some f S (n ∷ ns) h = closed_cons _ _

-- a term's head before what stands after it
pub headed_closed : (head : Bytes) (xs : List Bytes) → bytes "(" ++ (head ++ closed_list xs) ≡ headed head xs
unfolding headed closed_list bytes
headed_closed head xs = refl

-- an argument after the others
led_last : (y : Bytes) (xs : List Bytes) → spaced_before xs ++ (32 ∷ (y ++ (41 ∷ []))) ≡ 32 ∷ (spaced (xs ++ (y ∷ [])) ++ (41 ∷ []))
unfolding spaced_before collect spaced joined bytes
led_last y [] = refl
led_last y (x ∷ []) = simp append_assoc
led_last y (x ∷ x' ∷ xs) =
    append_assoc (32 ∷ x) (spaced_before (x' ∷ xs)) (32 ∷ (y ++ (41 ∷ []))) ∙ ap (λ (s : Bytes). 32 ∷ (x ++ s)) (led_last y (x' ∷ xs))
    ∙ ap (λ (s : Bytes). 32 ∷ s) (sym (append_assoc x (32 ∷ spaced (x' ∷ (xs ++ (y ∷ [])))) (41 ∷ [])))

pub headed_last : (head y : Bytes) (xs : List Bytes) → bytes "(" ++ (head ++ (spaced_before xs ++ (bytes " " ++ (y ++ bytes ")")))) ≡ headed head (xs ++ (y ∷ []))
unfolding headed bytes
headed_last head y xs = ap (λ (s : Bytes). 40 ∷ (head ++ s)) (led_last y xs)

module _ {records : Records} (c : Children) {v : Writer} where
  pub closed_none : {w : Writer} → c.left ≡ 0 → Writes v w (bytes " )") → SpellsClosed records c v w
  unfolding atoms closed_list spaced joined bytes
  closed_none e A = let none : children_in c ≡ [] = no_children c e in spells_as (λ f S I N b. rw none) (written A)

  pub closed_some : {x w : Writer} → (c.left ≡ 0 → ⊥) → SpellsArguments records c v x → Writes x w (bytes ")") → SpellsClosed records c v w
  closed_some h P A = spells_as (λ f S I N b. atoms_some f S (children_in c) (λ e. h (sym (length_children c) ∙ e))) (P next written A)
