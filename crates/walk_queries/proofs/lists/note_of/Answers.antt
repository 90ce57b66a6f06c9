-- `walk_queries::lists::note_of` meets its contract: by the part of an option or a set.
-- Assumes nothing.
use Rattle.walk_queries.proofs.TypeNotes.{of_option, of_set, notes_over, notes_none}
use Rattle.walk_queries.proofs.lists.note_of.Goals as goal

pub returns-in-Option : goal.returns-in-Option
returns-in-Option c = notes_over c.in-Option.is of_option c.under.ensures

pub returns-in-Set : goal.returns-in-Set
returns-in-Set c = notes_over c.in-Set.is of_set c.under-in-Set.ensures

pub returns-in_default : goal.returns-in_default
returns-in_default c = notes_none 0 c.in_default.not-Option c.in_default.not-Set
