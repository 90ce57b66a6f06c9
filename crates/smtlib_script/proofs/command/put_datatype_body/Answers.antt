-- `smtlib_script::command::put_datatype_body` meets its contract, by the parameters.
-- Assumes nothing.
use mathlib.Core.Path.{sym, ◌∙◌}
use Rattle.script_spec.specs.Base.{bytes}
use Rattle.write_bytes.proofs.Laws.{◌then◌, says}
use Rattle.smtlib_script.proofs.Lines.{body_plain, body_parametric}
use Rattle.smtlib_script.proofs.command.put_datatype_body.Goals as goal

pub returns-then-is_blank : goal.returns-then-is_blank
returns-then-is_blank c = says (body_plain _ _ (sym c.is_blank.ensures ∙ c.if-is_blank.true)) c.put_constructors.ensures

pub returns : goal.returns
unfolding bytes
returns c =
    says (body_parametric _ _ (sym c.is_blank.ensures ∙ c.if-is_blank.false))
    (c.put.ensures then c.put_list.ensures then c.put_byte.ensures then c.put_constructors-2.ensures then c.put_byte-2.ensures)
