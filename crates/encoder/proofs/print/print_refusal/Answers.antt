-- `encoder::print::print_refusal` meets its contract: the line is ended.
-- Assumes nothing.
use mathlib.Core.Path.{sym, ◌∙◌}
use native.Mathlib.Omega.{arith}
use Rattle.std.proofs.Common.{rules}
use Rattle.check_file.proofs.Filling.{reached}
use Rattle.encoder.proofs.PrintLaws.{refusal_printed}
use Rattle.encoder.proofs.print.print_refusal.Goals as goal

pub returns : goal.returns
returns c =
    let w = c.new-w.ensures in
    let same = sym (c.finish.ensures.same ∙ c.put_refusal.ensures.same ∙ w.same) in
    refusal_printed _ (omega arith) (omega arith) w.holds w.limit w.at c.put_refusal.ensures c.finish.ensures (reached same (λ e. search rules))
