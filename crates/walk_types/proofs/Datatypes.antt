-- Whether a type is a datatype, by the second byte of its mark.
-- Assumes nothing.
use Prim.Native.Nat.{ℕ}
use mathlib.Core.Path.{◌≡◌, refl, ap, ◌∙◌}
use mathlib.Core.Bool.{Bool}
use mathlib.Core.List.{List}
use mathlib.Core.Option.{some}
use lib.ListN.{get_or}
use Rattle.script_spec.specs.Base.{Bytes, bytes, is_some}
use Rattle.script_spec.specs.Tree as tree
use Rattle.script_spec.specs.Tree.{Ty, TypeMark, datatype, datatype_mark}
use Rattle.script_spec.specs.Fields.{type}
use Rattle.index.specs.Cells.{cell, type_offset}
use Rattle.index.specs.Standing.{mark_at, body_at, entry_at}
use Rattle.index.specs.declared.Records.{Records}
use Rattle.check_rules.specs.Marks.{datatype_bytes, type_bytes, mark_of}
use Rattle.check_rules.proofs.Marks.{entry_mark}
use Rattle.index_entry.proofs.Rows.{type_stands}
use Rattle.walk_types.specs.Types.{declared_letter, IsDatatype}

-- the second byte of a type's mark tells it
letter_tells : (m : TypeMark) → declared_letter (get_or (type_bytes m) 1 0) ≡ is_some (datatype_mark m)
unfolding declared_letter type_bytes datatype_bytes datatype_mark is_some bytes
letter_tells tree.Bool· = refl
letter_tells tree.String· = refl
letter_tells (tree.BitVec· n) = refl
letter_tells tree.Option· = refl
letter_tells tree.Set· = refl
letter_tells (tree.Declared (tree.entity n)) = refl
letter_tells (tree.Declared (tree.extension x)) = refl
letter_tells (tree.Declared (tree.record_of ns)) = refl

-- the mark of a record that is a type
letter_is : (file : Bytes) (o : ℕ) {m : TypeMark} {rs : List ℕ} → entry_at file o ≡ some (type m rs) → get_or (mark_at file o) 1 0 ≡ get_or (type_bytes m) 1 0
unfolding entry_at mark_of
letter_is file o g = ap (λ (s : Bytes). get_or s 1 0) (entry_mark (mark_at file o) (body_at file o) g)

pub tells_datatype : {records : Records} {t o l : ℕ} {r : Bool} → o ≡ cell records.work.now records.sizes.rows type_offset t → l ≡ get_or (mark_at records.file.now o) 1 0 → r ≡ declared_letter l
    → IsDatatype records t r
unfolding datatype
tells_datatype {records} {o = o} place i e = record {
  go = λ f I l.
      type_stands (I.rows.type_row _ l).stands (λ m rs reads below tree.
      let here : entry_at records.file.now o ≡ some (type m rs) = rw place reads in
      e ∙ ap declared_letter (i ∙ letter_is records.file.now o here) ∙ letter_tells m ∙ ap (λ (u : Ty). is_some (datatype u)) tree);
}
