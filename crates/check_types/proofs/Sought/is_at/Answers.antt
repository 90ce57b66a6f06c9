-- `check_types::Sought::is_at` meets its contract: types of other letters differ, and types of one letter are compared by their fields.
-- Assumes nothing.
use mathlib.Core.Path.{sym, ◌∙◌}
use Rattle.check_types.specs.Sought.{part_at}
use Rattle.check_types.proofs.Same.{other_letter, same_bools, same_strings, same_widths, same_codes, same_options, same_sets, same_records}
use Rattle.check_types.proofs.Sought.is_at.Goals as goal

pub returns-then-letter_at-letter : goal.returns-then-letter_at-letter
returns-then-letter_at-letter c = λ o W. other_letter c.octets.ensures W c.letter_at.ensures (λ q. c.if-letter_at-letter.true (q ∙ sym c.letter.ensures))

pub returns-in-Bool : goal.returns-in-Bool
returns-in-Bool c = λ o W. same_bools c.octets.ensures W c.letter_at.ensures (c.if-letter_at-letter.false ∙ c.letter.ensures) c.in-Bool.is

pub returns-in-String : goal.returns-in-String
returns-in-String c = λ o W. same_strings c.octets.ensures W c.letter_at.ensures (c.if-letter_at-letter.false ∙ c.letter.ensures) c.in-String.is

pub returns-in-BitVec : goal.returns-in-BitVec
returns-in-BitVec c = λ o W. same_widths c.octets.ensures W c.letter_at.ensures (c.if-letter_at-letter.false ∙ c.letter.ensures) c.in-BitVec.is c.width_at.ensures

pub returns-in-Extension : goal.returns-in-Extension
returns-in-Extension c = λ o W. same_codes c.octets.ensures W c.letter_at.ensures (c.if-letter_at-letter.false ∙ c.letter.ensures) c.in-Extension.is c.code_at.ensures

pub returns-in-Option : goal.returns-in-Option
unfolding part_at
returns-in-Option c = λ o W. same_options c.octets.ensures W c.letter_at.ensures (c.if-letter_at-letter.false ∙ c.letter.ensures) c.in-Option.is c.first_reference.ensures

pub returns-in-Set : goal.returns-in-Set
unfolding part_at
returns-in-Set c = λ o W. same_sets c.octets.ensures W c.letter_at.ensures (c.if-letter_at-letter.false ∙ c.letter.ensures) c.in-Set.is c.first_reference-in-Set.ensures

pub returns-in-Record : goal.returns-in-Record
returns-in-Record c = λ o W. same_records c.octets.ensures W c.letter_at.ensures (c.if-letter_at-letter.false ∙ c.letter.ensures) c.in-Record.is c.same_listed_type.ensures
