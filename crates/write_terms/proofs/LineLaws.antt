-- The lines of terms, piece by piece.
-- Assumes nothing.
use mathlib.Core.Path.{◌≡◌, refl, sym, ap, ◌∙◌}
use mathlib.Core.Bool.{true}
use mathlib.Core.List.{[], ◌∷◌, ◌++◌, append_assoc, append-nil}
use Prim.Native.Nat.{ℕ}
use lib.ListN.{take}
use denote.Bor.{Bor}
use Rattle.script_spec.specs.Base.{Bytes, bytes, joined, collect}
use Rattle.script_spec.specs.Utf8.{is_utf8}
use Rattle.script_spec.specs.Tree.{Ty, Forest, Mark, node, forest, Var}
use Rattle.script_spec.specs.File.{TermFile, term_at, named_mark}
use Rattle.script_spec.specs.Text.{debug}
use Rattle.script_spec.specs.Command.{Command, headed, listed, spaced, spelled as told, line, script, comment, declare_const, define_fun}
use Rattle.script_spec.proofs.Laws.{never}
use Rattle.smtlib_script.proofs.Lines.{line_comment, line_assert}
use Rattle.write_bytes.specs.declared.writer.Writer.{Writer}
use Rattle.write_bytes.specs.Writers.{Writes}
use Rattle.read_utf8.proofs.Laws.{utf8_points}
use Rattle.index.specs.Cells.{cell, term_offset}
use Rattle.index.specs.declared.Records.{Records}
use Rattle.index_entry.specs.Terms.{term_said, TermAt}
use Rattle.index_entry.specs.declared.terms.TermEntry.{TermEntry}
use Rattle.index_entry.specs.declared.terms.TermEntry.TheVariants as entry
use Rattle.write_atoms.specs.Parts.{term_name_of}
use Rattle.write_atoms.specs.Records.{TermSound}
use Rattle.write_atoms.specs.Atoms.{SpellsAtom}
use Rattle.walk_names.proofs.Spelling.{written, spells_as, knowing, ◌next◌}
use Rattle.write_atoms.proofs.Rows.{EntryIs, term_here, entry_is}
use Rattle.write_atoms.proofs.Numbered.{name_is}
use Rattle.walk_names.proofs.Advancing.{continues_refl}
use Rattle.write_terms.specs.Values.{sort_at, SpellsTermSort}
use Rattle.write_terms.specs.Lines.{definition_head, printed, id_line, SpellsHead, SpellsAssertion, SpellsConst, SpellsVariable}
use Rattle.write_terms.proofs.DebugLaws.{debug_line}

-- the head of a definition, its body and its end
pub definition_pieces : (n t b : Bytes) → definition_head n t ++ (b ++ bytes ")\n") ≡ line (define_fun n [] t b)
unfolding definition_head line told headed listed spaced joined bytes
definition_pieces n t b = simp append_assoc

const_pieces : (n t : Bytes) → bytes "(declare-const " ++ (n ++ (bytes " " ++ (t ++ bytes ")\n"))) ≡ line (declare_const n t)
unfolding line told headed spaced joined bytes
const_pieces n t = simp append_assoc

-- a script of two commands
two_lines : (c d : Command) → line c ++ line d ≡ script (c ∷ d ∷ [])
unfolding script collect
two_lines c d = ap (λ (r : Bytes). line c ++ r) (sym (append-nil (line d)))

-- an id, which is UTF-8
printed_is : (id : Bytes) → is_utf8 id ≡ true → printed id ≡ debug id
unfolding printed debug
printed_is id u = rw (utf8_points id u)

-- the id of a variable in a comment
id_is : (id : Bytes) → is_utf8 id ≡ true → id_line id ≡ line (comment (debug id))
unfolding id_line
id_is id u = ap (λ (s : Bytes). bytes "; " ++ (s ++ bytes "\n")) (ap (take 200) (printed_is id u) ∙ debug_line id) ∙ line_comment (debug id)

module _ {records : Records} {n : ℕ} {v : Writer} where
  pub spells_head : {v₁ v₂ v₃ v₄ w : Writer} → Writes v v₁ (bytes "(define-fun ") → Writes v₁ v₂ (term_name_of records n) → Writes v₂ v₃ (bytes " () ") → SpellsTermSort records n v₃ v₄
      → Writes v₄ w (bytes " ") → SpellsHead records n v w
  unfolding sort_at definition_head
  spells_head A M B P C = written A next spells_as (λ f S I N l. name_is records I N l) (written M) next written B next P next written C

  pub spells_assertion : {x y w : Writer} → Writes v x (bytes "(assert ") → SpellsAtom records n x y → Writes y w (bytes ")\n") → SpellsAssertion records n v w
  spells_assertion A P B = spells_as (λ f S I N l. line_assert _) (written A next P next written B)

  pub spells_const : {v₁ v₂ v₃ v₄ w : Writer} → Writes v v₁ (bytes "(declare-const ") → Writes v₁ v₂ (term_name_of records n) → Writes v₂ v₃ (bytes " ") → SpellsTermSort records n v₃ v₄
      → Writes v₄ w (bytes ")\n") → SpellsConst records n v w
  unfolding sort_at
  spells_const A M B P C = spells_as (λ f S I N l. const_pieces _ _) (written A next spells_as (λ f S I N l. name_is records I N l) (written M) next written B next P next written C)

-- a term that is no variable
no_variable : (f : TermFile) (n : ℕ) (id : Bytes) (ty : Ty) (ts : Forest Mark) (r : TermEntry) → ((s : Bor Bytes) (t : ℕ) → r ≡ entry.Var s t → ⊥) → EntryIs f n (term_said r) → term_at f n ≡ node (Var id ty) ts → ◌≡◌ {A = ℕ} 0 1
unfolding term_said named_mark
no_variable f n id ty ts (entry.Var p t) h i e = absurd (h p t refl)
no_variable f n id ty ts (entry.BoolLit b) h i e = let z = i.tree ∙ e in cc
no_variable f n id ty ts (entry.BitVecLit w v) h i e = let z = i.tree ∙ e in cc
no_variable f n id ty ts (entry.StringLit p) h i e = let z = i.tree ∙ e in cc
no_variable f n id ty ts (entry.Entity t p) h i e = let z = i.tree ∙ e in cc
no_variable f n id ty ts (entry.ExtLit v) h i e = let z = i.tree ∙ e in cc
no_variable f n id ty ts (entry.None t) h i e = let z = i.tree ∙ e in cc
no_variable f n id ty ts (entry.Some m) h i e = let z = i.tree ∙ e in cc
no_variable f n id ty ts (entry.Set t c) h i e = let z = i.tree ∙ e in cc
no_variable f n id ty ts (entry.Record c) h i e = let z = i.tree ∙ e in cc
no_variable f n id ty ts (entry.App t o c) h i e = let z = i.tree ∙ e in cc
no_variable f n id ty ts entry.Unreadable h i e = absurd i

module _ {records : Records} {n : ℕ} {v : Writer} {r : TermEntry} (T : TermAt records.file.now (cell records.work.now records.sizes.rows term_offset n) r) where
  -- a variable, whose id is that of its entry
  pub variable_named : {id : Bor Bytes} {t : ℕ} {x w : Writer} → r ≡ entry.Var id t → Writes v x (id_line id.now) → SpellsConst records n x w → SpellsVariable records n v w
  unfolding term_said named_mark forest TermSound
  variable_named {id} e A P s =
      spells_as (λ f S I N k. two_lines (comment (debug s)) _)
      (spells_as (λ f S I N k.
      let is = entry_is records T (ap term_said e) f I k.inside in
      let tree = is.tree ∙ k.tree in
      let same : id.now ≡ s = cc in
      id_is id.now is.sound ∙ ap (λ (i : Bytes). line (comment (debug i))) same) (written A) next knowing (λ f I k. k.inside) P)

  -- any other term
  pub variable_never : ((s : Bor Bytes) (t : ℕ) → r ≡ entry.Var s t → ⊥) → SpellsVariable records n v v
  variable_never h s = record { same = continues_refl; go = λ f S I N k. never (no_variable f n s k.type k.children r h (term_here records T f I k.inside) k.tree) }
