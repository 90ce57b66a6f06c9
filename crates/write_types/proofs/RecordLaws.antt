-- The parts of a record type, one after the other: what is left, after what was written, makes the whole.
-- Assumes nothing.
use mathlib.Core.Path.{◌≡◌, refl, sym, ◌∙◌}
use mathlib.Core.List.{List, [], ◌∷◌, ◌++◌, append_assoc, append-nil}
use Prim.Native.Nat.{ℕ, suc, ◌+◌, ◌<◌}
use native.Mathlib.Numerals.{add-one}
use native.Mathlib.Omega.{arith}
use mathlib.Core.Option.{Option}
use lib.Dec.{ltb}
use lib.ListN.{length}
use Rattle.script_spec.specs.Base.{Bytes, bytes, joined}
use Rattle.index.specs.First.{All, Below}
use Rattle.script_spec.specs.File.{TermFile, types}
use Rattle.script_spec.specs.Command.{headed, spaced, line, spelled, datatype_body, constructor_list, declare_datatype}
use Rattle.script_spec.specs.Spelling.{Names, attribute_name, numbered_from, record_constructor}
use Rattle.script_spec.specs.Walk.{State, names}
use Rattle.refusal.specs.Numbers.{option_of}
use Rattle.write_bytes.specs.Writers.{Writes}
use Rattle.write_bytes.specs.declared.writer.Writer.{Writer}
use Rattle.index.specs.declared.Records.{Records}
use Rattle.write_bytes.specs.Writing.{ceiling}
use Rattle.write_bytes.proofs.Loop.{Along, along_start, along_step, along_end, along_past}
use Rattle.walk_names.specs.Naming.{IndexOf, NumbersOf}
use Rattle.walk_names.specs.Script.{Continues}
use Rattle.walk_names.proofs.Advancing.{continues_refl, ◌further◌}
use Rattle.walk_names.proofs.Spelling.{written, spells_as, ◌next◌}
use Rattle.index_entry.specs.declared.terms.Children.{Children}
use mathlib.Core.Bool.{Bool, true}
use Rattle.index_entry.specs.Terms.{children_in}
use Rattle.index_entry.proofs.ChildLaws.{no_children, length_children}
use Rattle.write_types.specs.Sorts.{SpellsSort}
use Rattle.write_types.specs.Records.{part_text, parts_text, parts_of, named_of, record_name, part_sorts, arguments_text, PartsIn, SpellsPart, SpellsParts, SpellsSpaced, SpellsRecordType}
use Rattle.write_types.specs.declared.records.RecordType.{RecordType}

-- a part, piece by piece
part_pieces : (name s : Bytes) (i : ℕ) → (bytes " (" ++ attribute_name name i) ++ (bytes " " ++ (s ++ bytes ")")) ≡ bytes " " ++ headed (attribute_name name i) (s ∷ [])
unfolding headed attribute_name spaced joined bytes
part_pieces name s i = simp append_assoc

pub spells_part : {records : Records} (name : Option ℕ) {p : ℕ} (i : ℕ) {v v₁ v₂ v₃ w : Writer} → Writes v v₁ (bytes " (" ++ attribute_name (record_name name) i) → Writes v₁ v₂ (bytes " ") → SpellsSort records p v₂ v₃
    → Writes v₃ w (bytes ")") → SpellsPart records name i p v w
unfolding part_text
spells_part name i A B P C = spells_as (λ f S I N l. part_pieces _ _ i) (written A next written B next P next written C)

-- ---- the parts one after the other

-- the parts c are left of a record type, from the i-th on
pub record PartsLeft (records : Records) (ty : RecordType) (v w : Writer) (i : ℕ) (c : Children) : Type 0 where
  pub same : Continues v w
  pub sum : i + length (children_in c) ≡ ty.attributes.left
  pub go : (f : TermFile) (S : State) → IndexOf f records → NumbersOf f records S → PartsIn ty f
      → Along v w (parts_text (names S) f (named_of ty) i (children_in c)) (parts_text (names S) f (named_of ty) 0 (parts_of ty)) × Below (length (types f)) (children_in c)

module _ {records : Records} {ty : RecordType} {v : Writer} where
  pub parts_start : PartsLeft records ty v v 0 ty.attributes
  parts_start = record { same = continues_refl; sum = omega (arith, length_children ty.attributes); go = λ f S I N b. (along_start, b) }

  module _ {w : Writer} {i : ℕ} {c : Children} (L : PartsLeft records ty v w i c) where
    pub parts_on : {p : ℕ} (d : Children) {x : Writer} → children_in c ≡ p ∷ children_in d → SpellsPart records (option_of ty.name) i p w x → PartsLeft records ty v x (i + 1) d
    unfolding parts_text Below All
    parts_on {p} d e A = record {
      same = L.same further A.same;
      sum = let s : i + suc (length (children_in d)) ≡ ty.attributes.left = rw e at L.sum in omega arith;
      go = λ f S I N b.
          let left = rw e at (L.go f S I N b) in
          (along_step left.0 (rw (add-one i)) (A.go f S I N left.1.0), left.1.1);
    }

    -- the numbers of the parts that are left fit
    pub parts_fit : ty.attributes.left < 4294967296 → i + length (children_in c) < 18446744073709551616
    parts_fit fits = rw L.sum (omega arith)

    pub parts_past : {b : Bool} → b ≡ ltb (ceiling w.limit) w.at → b ≡ true → SpellsParts records ty v w
    parts_past e h = record { same = L.same; go = λ f S I N b. along_past (L.go f S I N b).0 e h }

    pub parts_end : children_in c ≡ [] → SpellsParts records ty v w
    unfolding parts_text
    parts_end e = record { same = L.same; go = λ f S I N b. along_end (L.go f S I N b).0 (rw e) }

-- ---- the declaration

-- parts after spaces
spaced_from : (ν : Names) (f : TermFile) (name : Bytes) (i p : ℕ) (ps : List ℕ)
    → parts_text ν f name i (p ∷ ps) ≡ bytes " " ++ spaced (numbered_from i (λ i part. headed (attribute_name name i) (part ∷ [])) (part_sorts ν f (p ∷ ps)))
unfolding parts_text part_text part_sorts numbered_from spaced joined bytes
spaced_from ν f name i p [] = simp append-nil
spaced_from ν f name i p (q ∷ ps) = rw (spaced_from ν f name (suc i) q ps)

parts_spaced : (ν : Names) (f : TermFile) (name : Bytes) (ps : List ℕ) → (length ps ≡ 0 → ⊥) → parts_text ν f name 0 ps ≡ arguments_text ν f name ps
unfolding arguments_text
parts_spaced ν f name [] h = absurd (h refl)
parts_spaced ν f name (p ∷ ps) h = spaced_from ν f name 0 p ps

record_line : (ν : Names) (f : TermFile) (name : Bytes) (ps : List ℕ)
    → bytes "(declare-datatype " ++ (name ++ (bytes " (\n  (" ++ (name ++ (arguments_text ν f name ps ++ bytes ")))\n")))) ≡ line (declare_datatype name [] (record_constructor name (part_sorts ν f ps) ∷ []))
unfolding line spelled headed datatype_body constructor_list spaced joined record_constructor arguments_text bytes
record_line ν f name ps = simp append_assoc

module _ {records : Records} (ty : RecordType) where
  pub spaced_none : {v w : Writer} → ty.attributes.left ≡ 0 → Writes v w (bytes " ") → SpellsSpaced records ty v w
  unfolding arguments_text part_sorts numbered_from spaced joined bytes
  spaced_none e A = spells_as (λ f S I N b. rw (no_children ty.attributes e)) (written A)

  pub spaced_some : {v w : Writer} → (ty.attributes.left ≡ 0 → ⊥) → SpellsParts records ty v w → SpellsSpaced records ty v w
  spaced_some h P = spells_as (λ f S I N b. parts_spaced (names S) f (named_of ty) (parts_of ty) (λ e. h (sym (length_children ty.attributes) ∙ e))) P

  pub spells_record : {v v₁ v₂ v₃ v₄ v₅ w : Writer} → Writes v v₁ (bytes "(declare-datatype ") → Writes v₁ v₂ (named_of ty) → Writes v₂ v₃ (bytes " (\n  (") → Writes v₃ v₄ (named_of ty)
      → SpellsSpaced records ty v₄ v₅ → Writes v₅ w (bytes ")))\n") → SpellsRecordType records ty v w
  spells_record A N B M P C = spells_as (λ f S I J b. record_line (names S) f (named_of ty) (parts_of ty)) (written A next written N next written B next written M next P next written C)
