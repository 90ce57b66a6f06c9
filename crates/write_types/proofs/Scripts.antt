-- The lines of an entity, extension or record type are the script of its comment and its declaration.
-- Assumes nothing.
use mathlib.Core.Path.{◌≡◌}
use mathlib.Core.List.{List, [], ◌∷◌, ◌++◌, map, append-nil}
use mathlib.Core.Option.{Option}
use Prim.Native.Nat.{ℕ}
use Rattle.script_spec.specs.Base.{Bytes, place, collect}
use Rattle.script_spec.specs.Tree.{Ty, ExtType, Enums, Datatype, entity, extension, record_of, Declared, node, nil, forest, children, eq_ty, datatype, datatype_mark}
use Rattle.script_spec.specs.File.{TermFile, type_at}
use Rattle.script_spec.specs.Command.{line, script, declare_datatype}
use Rattle.script_spec.specs.Spelling.{sort, sort_from, datatype_sort, ext_name, ext_constructors, constructors, type_comment, type_declaration}
use Rattle.script_spec.specs.Walk.{State, letter, names, type_name}
use Rattle.script_spec.proofs.Lists.{trees_forest}
use Rattle.write_types.specs.Records.{record_name, part_sorts}
use Rattle.write_types.specs.Members.{entity_symbol}
use Rattle.write_types.specs.Lines.{entity_lines, record_lines}

-- what declares a type that is a datatype
unfoldable pub declaring : Enums → State → Datatype → Ty → Bytes
declaring e S d ty = script (type_comment e d ++ (type_declaration e (names S) d ty ∷ []))

module _ (e : Enums) (S : State) (name : Option ℕ) where
  pub entity_script : (text : Bytes) → name ≡ place (eq_ty (node (Declared (entity text)) nil)) S.types
      → entity_lines text name (e text) ≡ declaring e S (entity text) (node (Declared (entity text)) nil)
  unfolding declaring entity_lines entity_symbol script collect type_comment type_declaration constructors sort sort_from datatype_sort names type_name datatype datatype_mark letter
  entity_script text h = rw h (simp append-nil)

  pub record_script : (f : TermFile) (attributes : List Bytes) (ps : List ℕ) → name ≡ place (eq_ty (node (Declared (record_of attributes)) (forest (map (type_at f) ps)))) S.types
      → record_lines (names S) f (record_name name) attributes ps ≡ declaring e S (record_of attributes) (node (Declared (record_of attributes)) (forest (map (type_at f) ps)))
  unfolding declaring record_lines record_name part_sorts script collect type_comment type_declaration constructors sort sort_from datatype_sort names type_name datatype datatype_mark letter children
  record_script f attributes ps h = rw h (simp (trees_forest, append-nil))

  pub ext_script : (x : ExtType) → line (declare_datatype (ext_name x) [] (ext_constructors x)) ≡ declaring e S (extension x) (node (Declared (extension x)) nil)
  unfolding declaring script collect type_comment type_declaration constructors sort sort_from datatype_sort
  ext_script x = simp append-nil
