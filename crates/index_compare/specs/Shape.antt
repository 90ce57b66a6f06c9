-- What is told of a record's segments with no walk.
-- Assumes nothing.
use Rattle.std.specs.Prelude.{ℕ, ◌≡◌, ◌⊎◌, true, false, List, [], ◌∷◌, Option, Some, None, leb, length, take}
use denote.Ref.{Bor}
use Rattle.script_spec.specs.Base.{Bytes}
use Rattle.script_spec.specs.Fields.{low}
use Rattle.index.specs.Cells.{cell}
use Rattle.index.specs.declared.Column.{Column}
use Rattle.index.specs.declared.Column.TheVariants as column
use Rattle.index_compare.specs.Segment.{Segment, plain, type_ref, term_ref}
use Rattle.index_compare.specs.Machine.{items}
use Rattle.index_compare.specs.declared.segments.Walk.{Walk}
use Rattle.index_compare.specs.declared.segments.Field.TheVariants as field
use Rattle.index_compare.specs.declared.segments.Item.TheVariants.{Term}
use Rattle.index_compare.specs.declared.shape.Terms.{Terms}
use Rattle.index_compare.specs.declared.shape.Shape.{Shape}
use Rattle.index_compare.specs.declared.shape.Shape.TheVariants.{Sole, Applied, Listing, Named, Bare}

-- the references still to come
unfoldable pub terms_ahead : Terms → List Segment
terms_ahead t = items Term t.left t.rest.now

-- the segments l of a body, by their shape
abbrev pub Shaped : List Segment → Option Shape → Type 0
Shaped l (Some (Sole n)) = l ≡ term_ref n ∷ []
Shaped l (Some (Applied t code count terms)) = l ≡ type_ref t ∷ plain code.now ∷ plain count.now ∷ terms_ahead terms
Shaped l (Some (Listing t count terms)) = l ≡ type_ref t ∷ plain count.now ∷ terms_ahead terms
Shaped l (Some (Named text t)) = l ≡ plain text.now ∷ type_ref t ∷ []
Shaped l (Some (Bare body)) = l ≡ plain body.now ∷ []
Shaped l None = Unit

-- the segments l of a body that is bytes alone
abbrev pub IsBare : List Segment → Option (Bor Bytes) → Type 0
IsBare l (Some body) = l ≡ plain body.now ∷ []
IsBare l None = Unit

-- the column of the first type of a body for the reference that a walk from its start begins with
abbrev pub Opens : Walk → Option Column → Type 0
Opens w (Some c) = ((w.first ≡ field.TypeRef) × (c ≡ column.TypeFirst)) ⊎ ((w.first ≡ field.TermRef) × (c ≡ column.TermType))
Opens w None = Unit

-- the entry of a column for the reference at the start of a body, 0 where there is none
unfoldable pub first_cell : Bytes → List ℕ → ℕ → ℕ → ℕ
first_cell body work rows column = elim (leb 4 (length body)) [ true ↦ cell work rows column (low (take 4 body)) | false ↦ 0 ]
