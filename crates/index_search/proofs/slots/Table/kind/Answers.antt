-- The number of a table is its place.
-- Assumes nothing.
use mathlib.Core.Path.{◌≡◌, refl}
use denote.Enum.Declared.{tag_of}
use Rattle.index_search.specs.contracts.slots.Table.{the_type}
use Rattle.index_search.specs.declared.slots.Table.{Table}
use Rattle.index_search.specs.declared.slots.Table.TheVariants.{Types, Funs, Terms, Enums}
use Rattle.index_search.specs.Tables.{slot_kind}
use Rattle.index_search.proofs.slots.Table.kind.Goals as goal

tag_is : (t : Table) → tag_of the_type t ≡ slot_kind t
tag_is Types = refl
tag_is Funs = refl
tag_is Terms = refl
tag_is Enums = refl

pub returns : goal.returns
returns c = tag_is c.args.self
