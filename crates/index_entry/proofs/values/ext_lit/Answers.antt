-- `index_entry::values::ext_lit` meets its contract: each code by its arm.
-- Assumes nothing.
use mathlib.Core.Path.{refl, ◌∙◌}
use native.Mathlib.Omega.{arith}
use Rattle.script_spec.specs.Base.{at}
use Rattle.script_spec.specs.Tree.{DecimalV, DatetimeV, DurationV}
use Rattle.read_record.specs.Fields.{values}
use Rattle.index_entry.specs.Terms.{value_of}
use Rattle.index_entry.proofs.ValueEntries.{value_v4, value_v6, value_bits, value_unknown}
use Rattle.index_entry.proofs.values.ext_lit.Goals as goal

pub returns-in-0-clause-is : goal.returns-in-0-clause-is
returns-in-0-clause-is c = value_v4 c.byte_at.ensures c.prefix_at.result c.in-0.is (c.from.ensures ∙ c.high_four.ensures) c.prefix_at.ensures.is

pub returns-in-0-clause-fits : goal.returns-in-0-clause-fits
returns-in-0-clause-fits c = (omega arith, c.prefix_at.ensures.given)

pub returns-in-1-clause-is : goal.returns-in-1-clause-is
returns-in-1-clause-is c = value_v6 c.byte_at.ensures c.prefix_at-in-1.result c.in-1.is c.part_of.ensures c.high_first-address.ensures c.prefix_at-in-1.ensures.is

pub returns-in-1-clause-fits : goal.returns-in-1-clause-fits
returns-in-1-clause-fits c = c.prefix_at-in-1.ensures.given

pub returns-in-2-clause-is : goal.returns-in-2-clause-is
unfolding at values value_of
returns-in-2-clause-is c = value_bits c.byte_at.ensures 2 DecimalV _ c.in-2.is refl refl c.low_eight.ensures

pub returns-in-3-clause-is : goal.returns-in-3-clause-is
unfolding at values value_of
returns-in-3-clause-is c = value_bits c.byte_at.ensures 3 DatetimeV _ c.in-3.is refl refl c.low_eight-in-3.ensures

pub returns-in-4-clause-is : goal.returns-in-4-clause-is
unfolding at values value_of
returns-in-4-clause-is c = value_bits c.byte_at.ensures 4 DurationV _ c.in-4.is refl refl c.low_eight-in-4.ensures

pub returns-in_default-clause-is : goal.returns-in_default-clause-is
returns-in_default-clause-is c = value_unknown c.byte_at.ensures (omega arith)
