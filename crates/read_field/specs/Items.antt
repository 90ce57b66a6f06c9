-- The lists that records have, and what an item of each is; the values are not kept.
-- Assumes nothing.
use Rattle.script_spec.specs.Fields.{Reader, text, list, ref, element, pair}
use Rattle.read_field.specs.Reads.{skim}
use Rattle.read_field.specs.declared.list.Item.{Item}
use Rattle.read_field.specs.declared.list.Item.TheVariants as item

-- one item of a list
unfoldable pub item_reader : Item → Reader (Unit {0})
item_reader item.Text = skim text
item_reader (item.Reference n) = skim (ref n)
item_reader (item.Named n) = skim (pair text (ref n))
item_reader item.Element = skim element

-- a count and its items
unfoldable pub list_reader : Item → Reader (Unit {0})
list_reader item.Text = skim (list text)
list_reader (item.Reference n) = skim (list (ref n))
list_reader (item.Named n) = skim (list (pair text (ref n)))
list_reader item.Element = skim (list element)
