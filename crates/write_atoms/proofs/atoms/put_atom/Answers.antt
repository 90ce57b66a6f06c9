-- `write_atoms::atoms::put_atom` meets its contract: by the mark and the operator's code where they tell, or else by the record.
-- Assumes nothing.
use native.Mathlib.Omega.{arith}
use Rattle.std.proofs.Common.{rules}
use Rattle.write_atoms.proofs.MarkLaws.{marked_call, marked_leaf, marked_other, marked_named}
use Rattle.write_atoms.proofs.atoms.put_atom.Goals as goal

pub returns-then-is_other_code : goal.returns-then-is_other_code
returns-then-is_other_code c = marked_other c.args.records c.get-offset.ensures c.letter_at.ensures c.in-65.is c.body_at-body.ensures c.is_other_code.ensures c.if-is_other_code.true c.put_term_name.ensures

pub returns-else-is_other_code : goal.returns-else-is_other_code
returns-else-is_other_code c = marked_call c.args.records c.get-offset.ensures c.letter_at.ensures c.in-65.is c.put_call.ensures

pub returns-in-66 : goal.returns-in-66
returns-in-66 c = marked_leaf c.args.records c.get-offset.ensures c.letter_at.ensures c.in-66.is c.put_read.ensures

pub returns-in_default : goal.returns-in_default
returns-in_default c = marked_named c.args.records c.get-offset.ensures c.letter_at.ensures (λ e. omega (arith, e)) (λ e. search rules) (λ e. search rules) (λ e. search rules) (λ e. search rules) c.put_term_name-in_default.ensures
