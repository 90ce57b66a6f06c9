-- The name of an entity type, by the record that was read again; and that it has no attributes.
-- Assumes nothing.
use Prim.Native.Nat.{ℕ, ◌<◌}
use mathlib.Core.Path.{◌≡◌, refl, ap, ◌∙◌}
use mathlib.Core.List.{List}
use mathlib.Core.Option.{Option, none, some, none-ne-some}
use lib.ListN.{length}
use denote.Ref.{Bor}
use Rattle.script_spec.specs.Base.{Bytes, and_then}
use Rattle.script_spec.specs.Tree.{Ty, Datatype, entity, extension, record_of, datatype, name_of_entity, entity_name, attributes_of, attributes}
use Rattle.script_spec.specs.File.{TermFile, types, type_at}
use Rattle.index.specs.Cells.{cell, type_offset}
use Rattle.index.specs.Meaning.{Rows}
use Rattle.index_entry.specs.Types.{TypeAt}
use Rattle.index_entry.specs.declared.types.TypeEntry.{TypeEntry}
use Rattle.index_entry.specs.declared.types.TypeEntry.TheVariants as entry
use Rattle.walk_queries.proofs.Attributes.{datatype_said, datatype_here}

no_entity : (r : TypeEntry) → ((name : Bor Bytes) → r ≡ entry.Entity name → ⊥) → and_then (datatype_said r) name_of_entity ≡ none
unfolding datatype_said and_then name_of_entity
no_entity entry.Bool h = refl
no_entity entry.String h = refl
no_entity (entry.BitVec n) h = refl
no_entity (entry.Option n) h = refl
no_entity (entry.Set n) h = refl
no_entity (entry.Entity name) h = absurd (h name refl)
no_entity (entry.Ext x) h = refl
no_entity (entry.Record c) h = refl
no_entity entry.Unreadable h = refl

module _ {file : Bytes} {work : List ℕ} {k t : ℕ} {r : TypeEntry} (T : TypeAt file (cell work k type_offset t) r) where
  pub entity_unnamed : ((name : Bor Bytes) → r ≡ entry.Entity name → ⊥) → (f : TermFile) → Rows file f work k → t < length (types f) → entity_name (type_at f t) ≡ none
  unfolding entity_name
  entity_unnamed h f I l = ap (λ (d : Option Datatype). and_then d name_of_entity) (datatype_here T f I l) ∙ no_entity r h

  pub entity_named : {name : Bor Bytes} → r ≡ entry.Entity name → (f : TermFile) → Rows file f work k → t < length (types f) → entity_name (type_at f t) ≡ some name.now
  unfolding entity_name and_then datatype_said name_of_entity
  entity_named e f I l = ap (λ (d : Option Datatype). and_then d name_of_entity) (datatype_here T f I l ∙ ap datatype_said e)

-- an entity type has no attributes
pub no_attributes : {A : Type 0} (ty : Ty) {name : Bytes} {names : List Bytes} → entity_name ty ≡ some name → attributes ty ≡ some names → A
unfolding entity_name attributes and_then name_of_entity attributes_of
no_attributes {A} ty {name} {names} = go (datatype ty)
  where
    go : (d : Option Datatype) → and_then d name_of_entity ≡ some name → and_then d attributes_of ≡ some names → A
    go none h g = absurd (none-ne-some _ h)
    go (some (entity n)) h g = absurd (none-ne-some _ g)
    go (some (extension x)) h g = absurd (none-ne-some _ h)
    go (some (record_of ns)) h g = absurd (none-ne-some _ h)
