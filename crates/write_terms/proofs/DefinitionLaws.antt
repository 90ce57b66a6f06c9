-- A term in full by its body, and its definition as a line: its head, the term in full, and its end.
-- Assumes nothing.
use Prim.Native.Nat.{ℕ}
use mathlib.Core.Path.{◌≡◌, sym, subst}
use Rattle.script_spec.specs.Base.{bytes}
use Rattle.script_spec.specs.File.{TermFile}
use Rattle.write_bytes.specs.declared.writer.Writer.{Writer}
use Rattle.write_bytes.specs.Writers.{Writes}
use Rattle.index.specs.declared.Records.{Records}
use Rattle.walk_names.proofs.Spelling.{written, spells_as, knowing, ◌next◌}
use Rattle.write_terms.specs.Lines.{SpellsHead}
use Rattle.write_terms.specs.Definitions.{BodyIs, SpellsBodyOf, SpellsDefinition}
use Rattle.write_terms.specs.declared.definitions.Body.{Body}
use Rattle.write_terms.proofs.LineLaws.{definition_pieces}

module _ {records : Records} {n : ℕ} {v w : Writer} where
  -- a body is written by the variant that it is
  pub body_as : {b r : Body} → b ≡ r → SpellsBodyOf records n (BodyIs n r) v w → SpellsBodyOf records n (BodyIs n b) v w
  body_as e P = subst (λ (b : Body). SpellsBodyOf records n (BodyIs n b) v w) (sym e) P

  -- a definition is written by its pieces
  pub defined : {is : TermFile → Type 0} {x y : Writer} → SpellsHead records n v x → SpellsBodyOf records n is x y → Writes y w (bytes ")\n") → SpellsDefinition records n is v w
  defined head body end = spells_as (λ f S I N k. definition_pieces _ _ _) (knowing (λ f I k. k.inside) head next body next written end)
