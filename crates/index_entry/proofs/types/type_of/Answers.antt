-- `index_entry::types::type_of` meets its contract: each mark by its arm.
-- Assumes nothing.
use native.Mathlib.Omega.{arith}
use Rattle.script_spec.specs.Base.{bytes}
use Rattle.index_entry.proofs.TypeEntries.{under, type_bool, type_string, type_bitvec, type_option, type_set, type_entity, type_record, no_types}
use Rattle.index_entry.proofs.types.type_of.Goals as goal

pub returns-in-66 : goal.returns-in-66
unfolding bytes
returns-in-66 c = under c.in-66.is type_bool

pub returns-in-83 : goal.returns-in-83
unfolding bytes
returns-in-83 c = under c.in-83.is type_string

pub returns-in-86 : goal.returns-in-86
unfolding bytes
returns-in-86 c = under c.in-86.is (type_bitvec c.number_at.ensures)

pub returns-in-79 : goal.returns-in-79
unfolding bytes
returns-in-79 c = under c.in-79.is (type_option c.number_at-in-79.ensures)

pub returns-in-67 : goal.returns-in-67
unfolding bytes
returns-in-67 c = under c.in-67.is (type_set c.number_at-in-67.ensures)

pub returns-in-69 : goal.returns-in-69
unfolding bytes
returns-in-69 c = under c.in-69.is (type_entity c.text_at.ensures)

pub returns-in-88 : goal.returns-in-88
unfolding bytes
returns-in-88 c = under c.in-88.is c.ext_type.ensures

pub returns-in-82 : goal.returns-in-82
unfolding bytes
returns-in-82 c = under c.in-82.is (type_record c.listed.ensures)

pub returns-in_default : goal.returns-in_default
returns-in_default c = no_types (λ e. omega arith) (λ e. omega arith) (λ e. omega arith) (λ e. omega arith) (λ e. omega arith) (λ e. omega arith) (λ e. omega arith) (λ e. omega arith)
