-- A list of segments by its first: the kind, the number and the bytes of that, and the rest; and what the functions that compare promise.
-- Assumes nothing.
use Rattle.std.specs.Prelude.{ℕ, ◌≡◌, Bool, true, false, List, [], ◌∷◌, map, eqb}
use Rattle.script_spec.specs.Base.{Bytes}
use Rattle.index.specs.Cells.{cell, type_first, type_depth, fun_first, term_first, term_type, term_depth}
use Rattle.index.specs.Rules.{greatest}
use Rattle.index.specs.Standing.{mark_at, body_at}
use Rattle.index_compare.specs.Segment.{Segment, plain, type_ref, fun_ref, term_ref}
use Rattle.index_compare.specs.Machine.{ahead, segments}
use Rattle.index_compare.specs.declared.compare.ViewedSegments.{ViewedSegments}
use Rattle.index_compare.specs.declared.compare.View.{View}
use Rattle.index_compare.specs.declared.compare.View.TheVariants.{First, Listed, Depth}

-- 0 for no segment, 1 for bytes, 2, 3 and 4 for a reference to a type, a function and a term
unfoldable pub kind_of : List Segment → ℕ
kind_of [] = 0
kind_of (plain p ∷ l) = 1
kind_of (type_ref n ∷ l) = 2
kind_of (fun_ref n ∷ l) = 3
kind_of (term_ref n ∷ l) = 4

-- the number of a reference, 0 where there is none
unfoldable pub reference_number : List Segment → ℕ
reference_number [] = 0
reference_number (plain p ∷ l) = 0
reference_number (type_ref n ∷ l) = n
reference_number (fun_ref n ∷ l) = n
reference_number (term_ref n ∷ l) = n

-- the bytes of a plain segment, none where there is none
unfoldable pub bytes_of : List Segment → Bytes
bytes_of [] = []
bytes_of (plain p ∷ l) = p
bytes_of (type_ref n ∷ l) = []
bytes_of (fun_ref n ∷ l) = []
bytes_of (term_ref n ∷ l) = []

-- ---- views

-- the column that a view has for types
abbrev pub type_column : View → ℕ
type_column First = type_first
type_column Listed = type_first
type_column Depth = type_depth

-- for terms
abbrev pub term_column : View → ℕ
term_column First = term_first
term_column Listed = term_type
term_column Depth = term_depth

-- what a reference to a term is in a view: where types are listed, one to its type
unfoldable pub term_as : View → ℕ → Segment
term_as First n = term_ref n
term_as Listed n = type_ref n
term_as Depth n = term_ref n

-- a segment with what a view has for its reference
unfoldable pub viewed : List ℕ → ℕ → View → Segment → Segment
viewed work rows v (plain p) = plain p
viewed work rows v (type_ref n) = type_ref (cell work rows (type_column v) n)
viewed work rows v (fun_ref n) = fun_ref (cell work rows fun_first n)
viewed work rows v (term_ref n) = term_as v (cell work rows (term_column v) n)

-- the segments still to come, in a view
abbrev pub viewed_ahead : ViewedSegments → List Segment
viewed_ahead s = map (viewed s.records.work.now s.records.sizes.rows s.view) (ahead s.rest)

-- the segments of the record at an offset
unfoldable pub segments_at : Bytes → ℕ → List Segment
segments_at file o = segments (mark_at file o) (body_at file o)

-- a test that is true exactly where P holds
pub record Decides (r : Bool) (P : Type 0) : Type 0 where
  pub true_of : P → r ≡ true
  pub of_true : r ≡ true → P

-- the segments of two records are equal, each with other numbers
abbrev pub SameSegments : Bytes → (Segment → Segment) → ℕ → (Segment → Segment) → ℕ → Type 0
SameSegments file g o h p = map g (segments_at file o) ≡ map h (segments_at file p)

-- ---- the numbers of a kind

-- the number of a segment in front of others, if it is of the kind
unfoldable pub of_kind : Bool → ℕ → List ℕ → List ℕ
of_kind true n ns = n ∷ ns
of_kind false n ns = ns

-- the numbers of the references of a kind, in order
unfoldable pub reference_numbers : ℕ → List Segment → List ℕ
reference_numbers kind [] = []
reference_numbers kind (x ∷ l) = of_kind (eqb (kind_of (x ∷ [])) kind) (reference_number (x ∷ [])) (reference_numbers kind l)

-- the larger of a number and that of a segment, if this is of the kind
unfoldable pub larger : ℕ → ℕ → ℕ → ℕ → ℕ
larger found number kind most = greatest (of_kind (eqb found kind) number (most ∷ []))
