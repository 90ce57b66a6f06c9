-- `index_entry::terms::term_of` meets its contract: each mark by its arm.
-- Assumes nothing.
use native.Mathlib.Omega.{arith}
use Rattle.script_spec.specs.Base.{bytes}
use Rattle.index_entry.proofs.TermEntries.{under, no_terms}
use Rattle.index_entry.proofs.terms.term_of.Goals as goal

pub returns-in-86-clause-is : goal.returns-in-86-clause-is
unfolding bytes
returns-in-86-clause-is c = under c.in-86.is c.variable.ensures.is

pub returns-in-66-clause-is : goal.returns-in-66-clause-is
unfolding bytes
returns-in-66-clause-is c = under c.in-66.is c.bool_lit.ensures.is

pub returns-in-78-clause-is : goal.returns-in-78-clause-is
unfolding bytes
returns-in-78-clause-is c = under c.in-78.is c.bit_vec_lit.ensures.is

pub returns-in-83-clause-is : goal.returns-in-83-clause-is
unfolding bytes
returns-in-83-clause-is c = under c.in-83.is c.string_lit.ensures.is

pub returns-in-69-clause-is : goal.returns-in-69-clause-is
unfolding bytes
returns-in-69-clause-is c = under c.in-69.is c.entity_lit.ensures.is

pub returns-in-88-clause-is : goal.returns-in-88-clause-is
unfolding bytes
returns-in-88-clause-is c = under c.in-88.is c.ext_lit.ensures.is

pub returns-in-48-clause-is : goal.returns-in-48-clause-is
unfolding bytes
returns-in-48-clause-is c = under c.in-48.is c.none_of.ensures.is

pub returns-in-49-clause-is : goal.returns-in-49-clause-is
unfolding bytes
returns-in-49-clause-is c = under c.in-49.is c.some_of.ensures.is

pub returns-in-67-clause-is : goal.returns-in-67-clause-is
unfolding bytes
returns-in-67-clause-is c = under c.in-67.is c.set_of.ensures.is

pub returns-in-82-clause-is : goal.returns-in-82-clause-is
unfolding bytes
returns-in-82-clause-is c = under c.in-82.is c.record_of.ensures.is

pub returns-in-65-clause-is : goal.returns-in-65-clause-is
unfolding bytes
returns-in-65-clause-is c = under c.in-65.is c.app_of.ensures.is

pub returns-in_default-clause-is : goal.returns-in_default-clause-is
returns-in_default-clause-is c =
    no_terms (λ e. omega arith) (λ e. omega arith) (λ e. omega arith) (λ e. omega arith) (λ e. omega arith) (λ e. omega arith) (λ e. omega arith) (λ e. omega arith) (λ e. omega arith) (λ e. omega arith) (λ e. omega arith)
