-- The comment and the declaration of a function from its entry.
-- Assumes nothing.
use mathlib.Core.Path.{◌≡◌, sym, ap, ◌∙◌}
use mathlib.Core.Option.{Option}
use mathlib.Core.List.{[], ◌∷◌, ◌++◌, append_assoc}
use Prim.Native.Nat.{ℕ, ◌<◌}
use lib.ListN.{length}
use Rattle.script_spec.specs.Base.{Bytes, bytes, joined}
use Rattle.script_spec.specs.Tree.{Fun, uuf}
use Rattle.script_spec.specs.File.{TermFile, types, funs, type_at, fun_at}
use Rattle.script_spec.specs.Command.{line, spelled, headed, listed, spaced, comment, declare_fun}
use Rattle.script_spec.specs.Spelling.{sort, fun_declaration}
use Rattle.script_spec.specs.Walk.{names, numbered}
use Rattle.write_bytes.specs.Writers.{Writes}
use Rattle.write_bytes.specs.declared.writer.Writer.{Writer}
use Rattle.write_bytes.proofs.Laws.{says}
use Rattle.index.specs.Cells.{cell, fun_offset, fun_first}
use Rattle.index.specs.Standing.{body_at}
use Rattle.index.specs.Lists.{first_text}
use Rattle.index.specs.Meaning.{counted}
use Rattle.index.specs.declared.Records.{Records}
use Rattle.walk_names.specs.Naming.{fun_names, name_at, place_of, IndexOf}
use Rattle.walk_names.proofs.Advancing.{continues}
use Rattle.walk_names.proofs.Names.{name_fun}
use Rattle.walk_names.proofs.Spelling.{written, spells_as, ◌next◌, knowing}
use Rattle.index_entry.specs.Symbols.{FunAt}
use Rattle.index_entry.specs.declared.symbols.Fun as entry
use Rattle.index_entry.proofs.Rows.{fun_stands}
use Rattle.index_entry.proofs.SymbolEntries.{fun_id}
use Rattle.write_types.specs.Sorts.{SpellsSort}
use Rattle.write_types.specs.Functions.{id_of, SpellsFunId, SpellsFun}

-- the line of a declaration, piece by piece
fun_line : (n a b : Bytes) → bytes "(declare-fun " ++ (n ++ (bytes " (" ++ (a ++ (bytes ") " ++ (b ++ bytes ")\n"))))) ≡ line (declare_fun n (a ∷ []) b)
unfolding line spelled headed listed spaced joined bytes
fun_line n a b = simp append_assoc

-- the comment of a function: its id is the text that its body begins with
pub spells_id : {records : Records} {g o : ℕ} {s body : Bytes} {v w : Writer} → s ≡ first_text body → body ≡ body_at records.file.now o → o ≡ cell records.work.now records.sizes.rows fun_offset g
    → Writes v w (line (comment s)) → SpellsFunId records g v w
unfolding id_of
spells_id {records} {g} {s = s} h b o A = record {
  same = continues A;
  go = λ f I l.
      fun_stands (I.rows.fun_row g l).stands (λ id a b' reads in-a in_b names.
      let same : s ≡ id_of (fun_at f g) = h ∙ ap first_text (b ∙ ap (body_at records.file.now) o) ∙ fun_id records.file.now _ reads ∙ ap id_of names in
      says (ap (λ (t : Bytes). line (comment t)) same) A);
}

module _ (records : Records) {g : ℕ} {e : entry.Fun} (F : FunAt records.file.now (cell records.work.now records.sizes.rows fun_offset g) e) where
  -- what the entry says of the function
  fun_here : {P : Type 0} (f : TermFile) → IndexOf f records → g < length (funs f)
      → ((id : Bytes) → uuf id (type_at f e.argument) (type_at f e.result) ≡ fun_at f g → e.argument < length (types f) → e.result < length (types f) → P) → P
  unfolding counted
  fun_here f I l on =
      fun_stands (I.rows.fun_row g l).stands (λ id a b reads in-a in_b names.
      let said = F.go id a b reads in
      on id (rw (said.argument_is, said.result_is) names) (rw said.argument_is in-a) (rw said.result_is in_b))

  pub spells_fun : {name : Option ℕ} {v v₁ v₂ v₃ v₄ v₅ v₆ w : Writer} → name ≡ place_of (name_at records.work.now records.sizes.rows fun_first fun_names g)
      → Writes v v₁ (bytes "(declare-fun ") → Writes v₁ v₂ (numbered (bytes "f") name) → Writes v₂ v₃ (bytes " (") → SpellsSort records e.argument v₃ v₄ → Writes v₄ v₅ (bytes ") ")
      → SpellsSort records e.result v₅ v₆ → Writes v₆ w (bytes ")\n") → SpellsFun records g v w
  unfolding fun_declaration
  spells_fun {name} i A N B P C Q D =
      spells_as (λ f S I M l.
      fun_here f I l (λ id tree there here.
      let ν = names S in
      let given : numbered (bytes "f") name ≡ ν.func (uuf id (type_at f e.argument) (type_at f e.result)) = (rw i) ∙ sym (name_fun I.rows g M l) ∙ ap ν.func (sym tree) in
      fun_line _ _ _ ∙ ap (λ (n : Bytes). line (declare_fun n (sort ν (type_at f e.argument) ∷ []) (sort ν (type_at f e.result)))) given ∙ ap (λ (h : Fun). line (fun_declaration ν h)) tree))
      (written A next written N next written B next knowing (λ f I l. fun_here f I l (λ id tree there here. there)) P next written C
      next knowing (λ f I l. fun_here f I l (λ id tree there here. here)) Q next written D)
