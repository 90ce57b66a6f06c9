-- `encoder::print::print` meets its contract: a long file, a script, a refusal.
-- Assumes nothing.
use Rattle.refusal.specs.Numbers.{number}
use Rattle.encoder.proofs.PrintLaws.{prints_long, prints_script, prints_refused}
use Rattle.encoder.proofs.print.print.Goals as goal

pub returns-then-file-gt-LONGEST : goal.returns-then-file-gt-LONGEST
unfolding number
returns-then-file-gt-LONGEST c = prints_long _ _ _ c.if-file-gt-LONGEST.true c.clear_words.ensures c.print_refusal.ensures c.unwrap_or.ensures

pub returns-in-Ok : goal.returns-in-Ok
returns-in-Ok c = prints_script _ _ _ c.if-file-gt-LONGEST.false c.encode.auto.script c.encode.ensures c.in-Ok.is

pub returns-in-Err : goal.returns-in-Err
returns-in-Err c = prints_refused _ _ _ c.if-file-gt-LONGEST.false c.encode.auto.script c.encode.ensures c.in-Err.is c.print_refusal-in-Err.ensures c.unwrap_or-in-Err.ensures
