-- What the references that are left decide, all of them decide.
-- Assumes nothing.
use Prim.Native.Nat.{◌-◌}
use Rattle.script_spec.specs.Fields.{u32}
use Rattle.check_rules.specs.Tests.{any_first}
use Rattle.check_rules.proofs.Decided.{Going}
use Rattle.check_rules.proofs.distinct.any_first.Given as goal

abbrev pub invariant-loop : goal.invariant-loop
invariant-loop l = Going u32 (any_first l.records.work.now l.records.sizes.rows l.first) l.rest l.count (any_first l.records.work.now l.records.sizes.rows l.first) l.c (l.count - l.counter)
