-- What writing a function's comment and declaration promises.
-- Assumes nothing.
use Rattle.std.specs.Prelude.{ℕ}
use Rattle.script_spec.specs.Base.{Bytes}
use Rattle.script_spec.specs.Tree.{Fun, uuf}
use Rattle.script_spec.specs.File.{TermFile, fun_at}
use Rattle.script_spec.specs.Command.{line, comment}
use Rattle.script_spec.specs.Spelling.{fun_declaration}
use Rattle.script_spec.specs.Walk.{names}
use Rattle.write_bytes.specs.Writers.{Writes}
use Rattle.write_bytes.specs.declared.writer.Writer.{Writer}
use Rattle.index.specs.declared.Records.{Records}
use Rattle.walk_names.specs.Naming.{IndexOf}
use Rattle.walk_names.specs.Script.{Continues}
use Rattle.walk_names.specs.Spells.{Spells, HasFun}

-- the id of a function
unfoldable pub id_of : Fun → Bytes
id_of (uuf id a r) = id

-- the comment of the function with number g is written as a line, whatever file was accepted
pub record SpellsFunId (records : Records) (g : ℕ) (v w : Writer) : Type 0 where
  pub same : Continues v w
  pub go : (f : TermFile) → IndexOf f records → HasFun g f → Writes v w (line (comment (id_of (fun_at f g))))

-- its declaration is written as a line
abbrev pub SpellsFun : Records → ℕ → Writer → Writer → Type 0
SpellsFun records g = Spells records (HasFun g) (λ f S. line (fun_declaration (names S) (fun_at f g)))
