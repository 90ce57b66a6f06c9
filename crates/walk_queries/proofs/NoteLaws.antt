-- The enum of an entity type, noted where another type has its list: an entity type has no attributes.
-- Assumes nothing.
use Prim.Native.Nat.{ℕ, ◌+◌, ◌<◌}
use native.Mathlib.Omega.{arith}
use mathlib.Core.Path.{◌≡◌, refl, ◌∙◌, subst}
use mathlib.Core.List.{List}
use mathlib.Core.Option.{some}
use lib.ListN.{length}
use denote.Ref.{Bor}
use Rattle.std.specs.Prelude as std
use Rattle.std.specs.Option.{unwrap_or}
use Rattle.script_spec.specs.Base.{Bytes}
use Rattle.script_spec.specs.Tree.{entity_name}
use Rattle.script_spec.specs.File.{TermFile, types, type_at}
use Rattle.index.specs.Cells.{cell, store, type_offset, enum_offset, type_list, key}
use Rattle.index.specs.Meaning.{used_entries, SizesOf}
use Rattle.index.specs.declared.Sizes.{Sizes}
use Rattle.index.specs.declared.Records.{Records}
use Rattle.index.specs.declared.RecordsMut.{RecordsMut}
use Rattle.index.proofs.Names.{key_same, names_same}
use Rattle.index_entry.specs.Types.{TypeAt}
use Rattle.index_entry.specs.declared.types.TypeEntry.{TypeEntry}
use Rattle.index_entry.specs.declared.types.TypeEntry.TheVariants as entry
use Rattle.index_search.specs.Named.{EnumRows}
use Rattle.index_search.specs.Enums.{FindsEnum}
use Rattle.index_search.proofs.EnumLaws.{finds_number}
use Rattle.walk_queries.specs.Made.{Listing, KnownRecords, NotesSole}
use Rattle.walk_queries.proofs.EntityLaws.{no_attributes, entity_named}
use Rattle.walk_queries.proofs.TypeNotes.{entity_noted}
use Rattle.walk_queries.proofs.ListLaws.{type_noted}

-- what is found of the records as they are read
pub found_of : (m : RecordsMut) (v : Records) {name : Bytes} {r : std.Option ℕ} → (v.file.now ≡ m.file.now) × (v.work.now ≡ m.work.now) × (v.sizes ≡ m.sizes) → FindsEnum v.file.now v.work.now v.sizes name r
    → FindsEnum m.file.now m.work.now m.sizes name r
found_of m v {name} {r} V F = rw (← V.0, ← V.1, ← V.2) F

module _ {file : Bytes} {f : TermFile} (sizes : Sizes) {work₀ : List ℕ} (K : KnownRecords file f sizes.rows sizes.terms work₀) where
  -- the rows of the enums and their slots, while lists are made
  enums_listed : {ty en next : ℕ} {work : List ℕ} → Listing file f sizes.rows work₀ ty en next work → EnumRows file f work sizes.rows
  unfolding used_entries
  enums_listed L =
      record {
        row = λ n l. record { stands = rw (L.same enum_offset n l) (K.index.enum_row n l).stands };
        names = names_same (record { same = λ i h. L.slots i }) (key_same _ _ _ (L.same key 0 (omega arith)) (L.same key 1 (omega arith))) K.index.names refl;
      }

  -- the enum of the next type
  pub type_named : {t next e : ℕ} {r : TypeEntry} {name : Bor Bytes} {o : std.Option ℕ} {work work' : List ℕ} → SizesOf f sizes → t < length (types f) → Listing file f sizes.rows work₀ t 0 next work
      → TypeAt file (cell work sizes.rows type_offset t) r → r ≡ entry.Entity name → FindsEnum file work sizes name.now o → e ≡ unwrap_or o sizes.enums → work' ≡ store work sizes.rows type_list t e
      → Listing file f sizes.rows work₀ (t + 1) 0 next work'
  unfolding used_entries
  type_named {t} {e = e} {r} {name = text} S l L T is F found place =
      let named : entity_name (type_at f t) ≡ some text.now = entity_named (subst (λ (o : ℕ). TypeAt file o r) (L.same type_offset t l) T) is f K.index l in
      type_noted K e l (omega arith) place L (λ base c names h. no_attributes (type_at f t) named h) (entity_noted named (found ∙ finds_number F f (enums_listed L) S))

-- what is noted of another type, by the records as they are read
pub noted_of : (m : RecordsMut) (v : Records) {r : TypeEntry} {e : ℕ} → (v.file.now ≡ m.file.now) × (v.work.now ≡ m.work.now) × (v.sizes ≡ m.sizes) → NotesSole v.file.now v.sizes r v.work.now e
    → NotesSole m.file.now m.sizes r m.work.now e
noted_of m v V N = rw (← V.0, ← V.1, ← V.2) N
