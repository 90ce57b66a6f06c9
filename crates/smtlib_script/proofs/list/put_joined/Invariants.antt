-- `smtlib_script::list::put_joined` meets its contract: before a turn, the texts before the one reached are written.
-- Assumes nothing.
use mathlib.Core.List.{map}
use lib.ListN.{drop}
use Rattle.write_bytes.proofs.Loop.{Along}
use Rattle.smtlib_script.proofs.Lists.{separated}
use Rattle.smtlib_script.proofs.list.put_joined.Given as goal

abbrev pub invariant-loop-text : goal.invariant-loop-text
invariant-loop-text l = Along l.initial.w l.w (separated l.separator (drop l.text-index (map (λ x. x.now) l.rest))) (separated l.separator (map (λ x. x.now) l.rest))
