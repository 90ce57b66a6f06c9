-- The lines of a type from its entry: of a record type, of an enum, of an entity type, and of a datatype by its mark.
-- Assumes nothing.
use mathlib.Core.Path.{◌≡◌, refl, sym, ap, ◌∙◌}
use mathlib.Core.List.{List, []}
use mathlib.Core.Option.{Option, none, some}
use Prim.Native.Nat.{ℕ, ◌≤◌, ◌<◌}
use native.Mathlib.Omega.{arith}
use lib.ListN.{length, drop}
use borrow.Author.Tests.{lt-ltb, le-ltb}
use Rattle.script_spec.specs.Base.{Bytes, bytes, joined}
use Rattle.script_spec.specs.File.{TermFile, enums}
use Rattle.script_spec.specs.Command.{◌⊹◌, line, comment, declare_datatype}
use Rattle.script_spec.specs.Spelling.{entity_comment, entity_constructors}
use Rattle.write_bytes.specs.Writers.{Writes}
use Rattle.write_bytes.specs.declared.writer.Writer.{Writer}
use Rattle.write_bytes.proofs.Laws.{◌then◌, says}
use Rattle.index.specs.declared.Records.{Records}
use Rattle.walk_names.proofs.Advancing.{◌further◌, continues}
use Rattle.walk_names.specs.Naming.{IndexOf}
use Rattle.walk_names.proofs.Spelling.{written, spells_as, knowing, ◌next◌}
use Rattle.index.specs.Cells.{cell, enum_offset}
use Rattle.index_entry.proofs.Places.{length_texts}
use Rattle.index_entry.specs.Symbols.{EnumAt}
use Rattle.index_entry.specs.Places.{texts_in}
use Rattle.index_entry.specs.Terms.{names_in}
use Rattle.index_entry.specs.declared.lists.Texts.{Texts}
use Rattle.index_search.specs.Enums.{enum_at, members_at}
use Rattle.index_search.proofs.EnumLaws.{number_members}
use Rattle.write_types.specs.Records.{SpellsRecordType}
use Rattle.write_types.specs.Members.{entity_symbol, SpellsEnum}
use Rattle.write_types.specs.Lines.{entity_lines, record_lines, SpellsRecordLines, SpellsEnumLines, SpellsEntityLines}
use Rattle.write_types.specs.declared.records.RecordType.{RecordType}

-- an entity type that is no enum
pub plain_lines : {u v w : Writer} (text : Bytes) (name : Option ℕ) → Writes u v (line (comment text)) → Writes v w (line (declare_datatype (entity_symbol name) [] (entity_constructors (entity_symbol name) none)))
    → Writes u w (entity_lines text name none)
unfolding entity_lines entity_comment
plain_lines text name C D = C then D

module _ {records : Records} where
  pub record_lines_are : (ty : RecordType) {u v w : Writer} → Writes u v (line (comment (bytes "{" ⊹ joined (bytes ", ") (names_in ty.attributes) ⊹ bytes "}")))
      → SpellsRecordType records ty v w → SpellsRecordLines records ty u w
  unfolding record_lines
  record_lines_are ty C D = written C next D

  pub enum_lines : (text : Bytes) {name : Option ℕ} {i o : ℕ} {e : Texts} {u v w : Writer} → o ≡ cell records.work.now records.sizes.rows enum_offset i → EnumAt records.file.now o e
      → Writes u v (line (comment (entity_comment text (some (texts_in e))))) → SpellsEnum name e.left v w → SpellsEnumLines records text name i u w
  unfolding entity_lines enum_at texts_in
  enum_lines text {i = i} {e = e} o-is E C D = record {
    same = continues C further D.same;
    go = λ f S I N l.
        let said = E.go (enum_at f i).0 (enum_at f i).1 (rw o-is (I.rows.enum_row i l).stands) in
        let ms = said.members_are in
        let size : length (enum_at f i).1 ≡ e.left = ap length (sym ms) ∙ length_texts e.skip e.left (drop e.from e.body.now) in
        says (ap (λ (l : List Bytes). line (comment (entity_comment text (some l)))) ms) C then D.go (enum_at f i).1 size;
  }

-- ---- an entity type

module _ {records : Records} (name : Option ℕ) {i : ℕ} {v w : Writer} (text : Bytes) where
  -- one that is an enum
  pub entity_enum : i < records.sizes.enums → SpellsEnumLines records text name i v w → SpellsEntityLines records text name i v w
  unfolding members_at
  entity_enum l L =
      spells_as (λ f S I N k. ap (entity_lines text name) (sym (number_members f text ∙ ap (members_at f) (sym k) ∙ rw (members_at, lt-ltb i (length (enums f)) (inside f I)) refl)))
      (knowing (λ f I k. inside f I) L)
    where
      inside : (f : TermFile) → IndexOf f records → i < length (enums f)
      inside f I = omega (arith, l, I.sizes_are.enums_are)

  -- one that is not
  pub entity_plain : records.sizes.enums ≤ i → Writes v w (entity_lines text name none) → SpellsEntityLines records text name i v w
  unfolding members_at
  entity_plain l W =
      spells_as (λ f S I N k. ap (entity_lines text name) (sym (number_members f text ∙ ap (members_at f) (sym k) ∙ rw (members_at, le-ltb i (length (enums f)) (omega (arith, l, I.sizes_are.enums_are))) refl)))
      (written W)
