-- Each code by its arm; the last arm has the code that is left.
-- Assumes nothing.
use Prim.Native.Nat.{zero-le}
use Rattle.script_spec.specs.Base.{at}
use Rattle.read_operator.specs.Operators.{ext_ops, ext_of}
use Rattle.read_operator.proofs.Laws.{past_last}
use Rattle.read_operator.proofs.ext_of.Goals as goal

pub returns-in-0 : goal.returns-in-0
unfolding ext_ops ext_of at
returns-in-0 c = record { is = rw c.in-0.is }

pub returns-in-1 : goal.returns-in-1
unfolding ext_ops ext_of at
returns-in-1 c = record { is = rw c.in-1.is }

pub returns-in-2 : goal.returns-in-2
unfolding ext_ops ext_of at
returns-in-2 c = record { is = rw c.in-2.is }

pub returns-in-3 : goal.returns-in-3
unfolding ext_ops ext_of at
returns-in-3 c = record { is = rw c.in-3.is }

pub returns-in-4 : goal.returns-in-4
unfolding ext_ops ext_of at
returns-in-4 c = record { is = rw c.in-4.is }

pub returns-in-5 : goal.returns-in-5
unfolding ext_ops ext_of at
returns-in-5 c = record { is = rw c.in-5.is }

pub returns-in-6 : goal.returns-in-6
unfolding ext_ops ext_of at
returns-in-6 c = record { is = rw c.in-6.is }

pub returns-in-7 : goal.returns-in-7
unfolding ext_ops ext_of at
returns-in-7 c = record { is = rw c.in-7.is }

pub returns-in-8 : goal.returns-in-8
unfolding ext_ops ext_of at
returns-in-8 c = record { is = rw c.in-8.is }

pub returns-in_default : goal.returns-in_default
unfolding ext_ops ext_of at
returns-in_default c = record { is = rw (past_last 0 9 _ zero-le c.requires search) }
