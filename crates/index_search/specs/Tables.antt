-- The tables of records: their numbers in the slots, and of those that are searched by their bodies the columns and the counts.
-- Assumes nothing.
use Rattle.std.specs.Prelude.{ℕ}
use Rattle.index.specs.Cells.{type_offset, type_first, fun_offset, fun_first, term_offset, term_first}
use Rattle.index.specs.declared.Sizes.{Sizes}
use Rattle.index_search.specs.declared.slots.Table.{Table}
use Rattle.index_search.specs.declared.slots.Table.TheVariants as table
use Rattle.index_search.specs.declared.search.Compared.{Compared}
use Rattle.index_search.specs.declared.search.Compared.TheVariants.{Types, Funs, Terms}

-- the number that the slots have for the kind of the records
abbrev pub slot_kind : Table → ℕ
slot_kind table.Types = 0
slot_kind table.Funs = 1
slot_kind table.Terms = 2
slot_kind table.Enums = 3

-- the table that the slots hold
abbrev pub table_of : Compared → Table
table_of Types = table.Types
table_of Funs = table.Funs
table_of Terms = table.Terms

-- the column of the records' offsets
abbrev pub offsets_of : Compared → ℕ
offsets_of Types = type_offset
offsets_of Funs = fun_offset
offsets_of Terms = term_offset

-- the column of their first equal numbers
abbrev pub firsts_of : Compared → ℕ
firsts_of Types = type_first
firsts_of Funs = fun_first
firsts_of Terms = term_first

-- how many there are
abbrev pub counted : Compared → Sizes → ℕ
counted Types sizes = sizes.types
counted Funs sizes = sizes.funs
counted Terms sizes = sizes.terms
