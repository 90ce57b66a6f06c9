-- `encoder::written` meets its contract: the script after a walk from its start.
-- Assumes nothing.
use mathlib.Core.Path.{refl, sym, ◌∙◌}
use Rattle.std.proofs.Common.{rules}
use Rattle.check_file.proofs.Filling.{reached}
use Rattle.encoder.proofs.CloseLaws.{script_given}
use Rattle.encoder.proofs.written.Goals as goal

pub returns : goal.returns
returns c =
    let w = c.new.ensures in
    let W = c.write_script.ensures in
    record { go = λ given F. script_given given W F refl refl refl refl refl w.limit w.at w.holds (reached (sym W.script_lent) (λ a. reached (sym (W.same ∙ w.same)) (λ b. grind rules))) }
