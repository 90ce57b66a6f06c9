-- `smtlib_script::list::put_spaced_arguments` meets its contract: before a turn, the arguments before those that are left are written.
-- Assumes nothing.
use Rattle.script_spec.specs.Base.{bytes}
use Rattle.write_bytes.proofs.Loop.{Along}
use Rattle.smtlib_script.proofs.Lists.{separated, lent_arguments}
use Rattle.smtlib_script.proofs.list.put_spaced_arguments.Given as goal

abbrev pub invariant-loop-name : goal.invariant-loop-name
invariant-loop-name l =
    let start = l.initial.name-iterator in
    Along l.initial.w l.w (separated (bytes " ") (lent_arguments l.name-iterator.a.rest.now l.name-iterator.b.rest.now)) (separated (bytes " ") (lent_arguments start.a.rest.now start.b.rest.now))
