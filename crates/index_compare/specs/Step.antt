-- The walks that a step makes of a walk, and what a step promises.
-- Assumes nothing.
use Rattle.std.specs.Prelude.{ℕ, ◌≡◌, true, false, List, [], ◌∷◌, Option, Some, None, leb, length, take}
use Rattle.script_spec.specs.Base.{Bytes}
use Rattle.script_spec.specs.Fields.{low}
use Rattle.index_compare.specs.Segment.{Segment, plain, type_ref, fun_ref, term_ref}
use Rattle.index_compare.specs.Machine.{Then, field_then, last}
use Rattle.index_compare.specs.declared.segments.Field.{Field}
use Rattle.index_compare.specs.declared.segments.Field.TheVariants as field
use Rattle.index_compare.specs.declared.segments.Referent.{Referent}
use Rattle.index_compare.specs.declared.segments.Referent.TheVariants as referent
use Rattle.index_compare.specs.declared.segments.Segment as met
use Rattle.index_compare.specs.declared.segments.Segment.TheVariants.{Plain, Reference}
use Rattle.index_compare.specs.declared.segments.Walk.{Walk}

-- the number of what a reference is to, among the kinds of segments
abbrev pub kind_number : Referent → ℕ
kind_number referent.Type = 2
kind_number referent.Fun = 3
kind_number referent.Term = 4

-- the segment of a reference
abbrev pub refer : Referent → ℕ → Segment
refer referent.Type n = type_ref n
refer referent.Fun n = fun_ref n
refer referent.Term n = term_ref n

-- the segment that is met
abbrev pub told : met.Segment → Segment
told (Plain p) = plain p.now
told (Reference r n) = refer r n

-- segments after the one that is met; none where none is
abbrev pub led_by : Option met.Segment → List Segment → List Segment
led_by None l = []
led_by (Some x) l = told x ∷ l

-- what four bytes are, if they are there
abbrev pub WordRead : Bytes → Option ℕ → Type 0
WordRead s (Some n) = (leb 4 (length s) ≡ true) × (n ≡ low (take 4 s))
WordRead s None = leb 4 (length s) ≡ false

-- what comes where there are no fields
unfoldable pub walk_ending : Walk → Then
walk_ending w s = last w.counts w.item w.left s

-- what comes after the first field
unfoldable pub after_field : Walk → Then
after_field w s = field_then w.second (walk_ending w) (walk_ending w) s

-- the walk after the first field
abbrev pub popped : Walk → Walk
popped w = record { first = w.second; second = field.Nothing; counts = w.counts; item = w.item; left = w.left }

-- with another first field
abbrev pub put : Walk → Field → Walk
put w f = record { first = f; second = w.second; counts = w.counts; item = w.item; left = w.left }

-- at n items, of which the first has the field f left
abbrev pub items_from : Walk → Field → ℕ → Walk
items_from w f n = record { first = f; second = field.Nothing; counts = false; item = w.item; left = n }
