-- The tests of a list's items that rule 9 asks for, and the items.
-- Assumes nothing.
use Rattle.std.specs.Prelude.{ℕ, Bool, true, false, not, List, ◌∷◌, map, eqb}
use Rattle.script_spec.specs.Base.{Bytes, ascending, any, empty}
use Rattle.script_spec.specs.Fields.{Reader, ◌>>=◌, pure, part, text, u32}
use Rattle.index.specs.Cells.{cell, term_first}
use Rattle.index.specs.Rules.{different}

-- a text without the test that it is UTF-8
unfoldable pub counted : Reader Bytes
counted = do n ← u32; part n

-- a text with a reference after it
unfoldable pub named_text : Reader Bytes
named_text = do t ← text; n ← u32; pure t

-- an item's text, which stands alone or before a reference
unfoldable pub item_text : Bool → Reader Bytes
item_text false = text
item_text true = named_text

-- texts that ascend after a text
unfoldable pub ascending_after : Bytes → List Bytes → Bool
ascending_after previous ts = ascending (previous ∷ ts)

-- one of these terms has this first equal number
unfoldable pub any_first : List ℕ → ℕ → ℕ → List ℕ → Bool
any_first work rows n rs = any (eqb n) (map (cell work rows term_first) rs)

-- no two of these terms have the same first equal number
unfoldable pub different_terms : List ℕ → ℕ → List ℕ → Bool
different_terms work rows rs = different (map (cell work rows term_first) rs)

-- there are any
unfoldable pub any_given : List Bytes → Bool
any_given ts = not (empty ts)
