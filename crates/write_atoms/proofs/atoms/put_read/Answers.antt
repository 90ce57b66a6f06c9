-- `write_atoms::atoms::put_read` meets its contract: each term by its arm.
-- Assumes nothing.
use Rattle.write_atoms.proofs.AtomLaws.{atom_bool, atom_bits, atom_string, atom_entity, atom_named}
use Rattle.write_atoms.proofs.atoms.put_read.Goals as goal

pub returns-in-BoolLit : goal.returns-in-BoolLit
returns-in-BoolLit c = atom_bool c.term_at.ensures.is c.in-BoolLit.is c.put_bool.ensures

pub returns-in-BitVecLit : goal.returns-in-BitVecLit
returns-in-BitVecLit c = atom_bits c.term_at.ensures.is c.in-BitVecLit.is c.put_bitvec.ensures

pub returns-in-StringLit : goal.returns-in-StringLit
returns-in-StringLit c = atom_string c.term_at.ensures.is c.in-StringLit.is c.put_literal.ensures

pub returns-in-Entity : goal.returns-in-Entity
returns-in-Entity c = atom_entity c.term_at.ensures.is c.in-Entity.is c.put_entity.ensures

pub returns-in_default : goal.returns-in_default
returns-in_default c = atom_named c.term_at.ensures.is (record { not_bool = c.in_default.not-BoolLit; not_bits = c.in_default.not-BitVecLit; not_string = c.in_default.not-StringLit; not_entity = c.in_default.not-Entity }) c.put_term_name.ensures
