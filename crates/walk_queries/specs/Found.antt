-- Where a text stands in a list of a body: the scan, the halves of the rows of its list, and the search with a list.
-- Assumes nothing.
use Rattle.std.specs.Prelude.{ℕ, suc, ◌+◌, ◌<◌, ◌≤◌, ◌≡◌, true, false, ◌⊎◌, List, drop}
use Rattle.std.specs.Prelude as std
use Rattle.script_spec.specs.Base.{Bytes, same, before, place}
use Rattle.refusal.specs.Numbers.{option_of}
use Rattle.index.specs.Cells.{cell, list_row}
use Rattle.index.specs.Lists.{first_text, Listed}
use Rattle.index_entry.specs.Places.{texts_in}
use Rattle.index_entry.specs.declared.lists.Texts.{Texts}

-- the first of some texts of a body that is this text
pub record FindsText (among : Texts) (name : Bytes) (r : std.Option ℕ) : Type 0 where
  pub is : place (same name) (texts_in among) ≡ option_of r

-- the texts have a list whose first row is this
abbrev pub HaveList : List ℕ → ℕ → ℕ → Texts → Type 0
HaveList work rows base among = Listed among.body.now among.skip (texts_in among) work rows base

-- the same, of texts that have a list
pub record FindsListed (work : List ℕ) (rows base : ℕ) (among : Texts) (name : Bytes) (r : std.Option ℕ) : Type 0 where
  pub go : HaveList work rows base among → FindsText among name r

-- the same, by the entry of their list
pub record Finds (work : List ℕ) (rows list : ℕ) (among : Texts) (name : Bytes) (r : std.Option ℕ) : Type 0 where
  pub go : ((base : ℕ) → list ≡ suc base → HaveList work rows base among) → FindsText among name r

-- the text of a row
unfoldable pub row_text : Bytes → List ℕ → ℕ → ℕ → ℕ → Bytes
row_text body work rows base j = first_text (drop (cell work rows list_row (base + j)) body)

-- the text can only be between two of the rows: it is not before the text of the lower one, and before that of the higher one
pub record Halves (body : Bytes) (work : List ℕ) (rows base taken : ℕ) (name : Bytes) (low high : ℕ) : Type 0 where
  pub apart : low < high
  pub within : high ≤ taken
  pub not_below : (low ≡ 0) ⊎ (before name (row_text body work rows base low) ≡ false)
  pub below : (high ≡ taken) ⊎ (before name (row_text body work rows base high) ≡ true)
