-- What a record may refer to by the offsets of the types is what it may refer to after the records: the mark of a type says
-- whether it is an entity type.
-- Assumes nothing.
use mathlib.Core.Path.{◌≡◌, refl, ap, ◌∙◌}
use Prim.Native.Nat.{ℕ, ◌+◌, ◌<◌}
use native.Mathlib.Omega.{arith}
use native.Mathlib.Decide.{dec_lt}
use mathlib.Core.Bool.{Bool, true, false}
use mathlib.Core.List.{List, [], ◌∷◌, map}
use borrow.Author.Tests.{lt-ltb, le-ltb}
use lib.Dec.{eqb, eqb→eq}
use lib.ListN.{length, take, drop, get_or, get_or-eq_default}
use lib.Seq.{get_or-drop}
use Rattle.script_spec.specs.Base.{Bytes, bytes, is_some, same}
use Rattle.script_spec.specs.Tree.{Ty, TypeMark, Bool·, String·, Option·, Set·, BitVec·, Declared, entity, extension, record_of, Forest, node, nil, entity_name, forest}
use Rattle.script_spec.specs.Fields.{Entry, is_typed, untyped}
use Rattle.script_spec.specs.Fields as fields
use Rattle.script_spec.specs.File.{TermFile, type, types, funs, terms, type_at, named, earlier}
use Rattle.script_spec.proofs.Computes
use Rattle.script_spec.proofs.Laws.{never}
use Rattle.index.specs.Cells.{cell, type_offset, type_offsets}
use Rattle.index.specs.Standing.{mark_at, body_at, entry_at}
use Rattle.index.specs.Meaning.{Rows}
use Rattle.index.proofs.Cells.{length_offsets, offsets_at}
use Rattle.index.proofs.Rows.{types_fit}
use Rattle.read_record.specs.Bodies.{is_entity_at, earlier_with}
use Rattle.check_rules.specs.Marks.{datatype_bytes, type_bytes, mark_of}
use Rattle.check_rules.proofs.Marks.{entry_mark}
use Rattle.check_types.proofs.Same.{type_value}

-- the mark of an entity type, and no other type's, is TE
type_mark : (m : TypeMark) (ts : Forest TypeMark) → same (type_bytes m) (bytes "TE") ≡ is_some (entity_name (node m ts))
unfolding type_bytes datatype_bytes Computes.base Computes.tree
type_mark Bool· ts = refl
type_mark String· ts = refl
type_mark Option· ts = refl
type_mark Set· ts = refl
type_mark (BitVec· n) ts = refl
type_mark (Declared (entity n)) ts = refl
type_mark (Declared (extension x)) ts = refl
type_mark (Declared (record_of names)) ts = refl

entity_mark : (f : TermFile) (x : Entry) (t : Ty) → named f x ≡ type t → same (mark_of x) (bytes "TE") ≡ is_some (entity_name t)
unfolding mark_of named
entity_mark f (fields.type m rs) t e = type_mark m (forest (map (type_at f) rs)) ∙ ap (λ (u : Ty). is_some (entity_name u)) (type_value e)
entity_mark f (fields.enum n ms) t e = never cc
entity_mark f (fields.func id a r) t e = never cc
entity_mark f (fields.term m rs) t e = never cc
entity_mark f (fields.input n) t e = never cc

-- a mark that begins with `T` repeats none
untyped_entity : (a : ℕ) → eqb (untyped a) 84 ≡ eqb a 84
unfolding untyped is_typed
untyped_entity a = from (eqb a 89) refl
  where
    from : (b : Bool) → eqb a 89 ≡ b → eqb (elim b [ true ↦ 88 | false ↦ a ]) 84 ≡ eqb a 84
    from false q = refl
    from true q = rw (eqb→eq a 89 (rw q tt)) refl

entity_bytes : (s : Bytes) → same (take 2 s) (bytes "TE") ≡ same (untyped (get_or s 0 0) ∷ get_or s 1 0 ∷ []) (bytes "TE")
unfolding same bytes
entity_bytes [] = rw (untyped_entity 0) refl
entity_bytes (a ∷ []) = rw (untyped_entity a) refl
entity_bytes (a ∷ b ∷ s) = rw (untyped_entity a) refl

-- the mark of an entity type is the first two bytes of its record
entity_here : (file : Bytes) (o : ℕ) → same (take 2 (drop o file)) (bytes "TE") ≡ same (mark_at file o) (bytes "TE")
unfolding mark_at
entity_here file o = let z : o + 0 ≡ o = omega arith in entity_bytes (drop o file) ∙ (rw (get_or-drop o file 0 0, get_or-drop o file 1 0, z))

module _ {file : Bytes} {f : TermFile} {work : List ℕ} {k : ℕ} (I : Rows file f work k) where
  entity_at : (n : ℕ) → Dec (n < length (types f)) → is_entity_at file (type_offsets work (length (types f))) n ≡ is_some (entity_name (type_at f n))
  unfolding is_entity_at entry_at type_at Computes.base Computes.tree
  entity_at n (yes h) =
      let s = (I.type_row n h).stands in
      let size : length (type_offsets work (length (types f))) ≡ length (types f) = length_offsets work k (length (types f)) I.fits (types_fit I) in
      rw (size, lt-ltb n (length (types f)) h, offsets_at work k (length (types f)) I.fits (types_fit I) n h)
      (entity_here file (cell work k type_offset n)
      ∙ ap (λ (m : Bytes). same m (bytes "TE")) (entry_mark (mark_at file (cell work k type_offset n)) (body_at file (cell work k type_offset n)) s.reads) ∙ entity_mark f s.entry (type_at f n) s.names)
  entity_at n (no h) =
      let size : length (type_offsets work (length (types f))) ≡ length (types f) = length_offsets work k (length (types f)) I.fits (types_fit I) in
      rw (size, le-ltb n (length (types f)) (omega arith), get_or-eq_default (types f) (node Bool· nil) {n = n} (omega arith))

  pub after_earlier : earlier_with (length (types f)) (length (funs f)) (length (terms f)) file (type_offsets work (length (types f))) ≡ earlier f
  unfolding earlier_with earlier
  after_earlier = λ i. record { types = length (types f); funs = length (funs f); terms = length (terms f); is_entity = λ n. entity_at n (dec_lt n (length (types f))) i }
