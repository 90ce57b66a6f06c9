-- `smtlib_script::command::Command::write` meets its contract: a text that is not UTF-8, or the line by a writer of the buffer.
-- Assumes nothing.
use mathlib.Core.Path.{sym, ◌∙◌}
use Rattle.std.proofs.Common.{rules}
use Rattle.refusal.specs.Numbers.{number}
use Rattle.write_bytes.specs.Writing.{answer}
use Rattle.write_bytes.proofs.Laws.{leaves_refused}
use Rattle.write_text.proofs.CommentLaws.{reached}
use Rattle.smtlib_script.proofs.Laws.{refuses, writes}
use Rattle.smtlib_script.proofs.command.Command.write.Goals as goal

pub returns-then-not-is_utf8 : goal.returns-then-not-is_utf8
unfolding answer number
returns-then-not-is_utf8 c = refuses c.is_utf8.ensures c.if-not-is_utf8.true (leaves_refused _ _ 6 c.clear.ensures)

pub returns : goal.returns
returns c =
    let s = c.new-script.ensures in
    writes c.is_utf8.ensures c.if-not-is_utf8.false s.holds s.limit s.at c.put.ensures c.finish.ensures (reached (sym (c.finish.ensures.same ∙ c.put.ensures.same ∙ s.same)) (λ a. grind rules))
