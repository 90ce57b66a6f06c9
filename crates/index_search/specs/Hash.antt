-- The hash of a record: a number below 2 ^ 64 that its mark and its segments are mixed into under the file's key, one after the other.
-- Assumes nothing.
use Rattle.std.specs.Prelude.{ℕ, ◌+◌, ◌*◌, ◌%◌, ◌^◌, List, [], ◌∷◌, map, length}
use Rattle.script_spec.specs.Base.{Bytes}
use Rattle.index.specs.Standing.{mark_at}
use Rattle.index.specs.Names.{key_of, folded, mixed, mixed_bytes}
use Rattle.index_compare.specs.Segment.{Segment}
use Rattle.index_compare.specs.View.{kind_of, reference_number, bytes_of, viewed, segments_at}
use Rattle.index_compare.specs.declared.compare.View.TheVariants.{First}

-- a hash with the kind and the number of a segment: the kind in the high half
unfoldable pub mixed_segment : ℕ → ℕ → ℕ → ℕ → ℕ
mixed_segment k h kind number = mixed k h (4294967296 * kind + number)

-- with the kind, the number and the bytes of each segment
unfoldable pub mixed_segments : ℕ → ℕ → List Segment → ℕ
mixed_segments k h [] = h
mixed_segments k h (x ∷ l) = mixed_segments k (mixed_bytes k (mixed_segment k h (kind_of (x ∷ [])) (reference_number (x ∷ []))) (bytes_of (x ∷ []))) l

-- the hash of a mark and segments under a key
unfoldable pub hashed : ℕ → Bytes → List Segment → ℕ
hashed k mark l = mixed_segments k (mixed_bytes k k mark) l

-- the hash of the record at an offset, references by first equal numbers
unfoldable pub record_hash : Bytes → List ℕ → ℕ → ℕ → ℕ
record_hash file work rows o = hashed (key_of work rows) (mark_at file o) (map (viewed work rows First) (segments_at file o))

-- the hash of a type, by the second byte of its mark
unfoldable pub type_hash : ℕ → ℕ → List Segment → ℕ
type_hash k letter l = hashed k (84 ∷ letter ∷ []) l

-- ---- sets

-- what an element adds to the hash of a set that starts with h, by its first equal number: the square of h with the number mixed in
unfoldable pub element : ℕ → ℕ → ℕ → ℕ
element k h n = folded (mixed_segment k h 4 n * mixed_segment k h 4 n)

-- a sum with what each of some elements adds, whatever their order
unfoldable pub gathered : ℕ → ℕ → ℕ → List ℕ → ℕ
gathered k h s [] = s
gathered k h s (n ∷ ns) = gathered k h ((s + element k h n) % 2 ^ 64) ns

-- the hash that a set starts with: its mark, the first equal number of its element type, and how many elements it has
unfoldable pub set_start : ℕ → ℕ → ℕ → ℕ
set_start k t count = mixed k (mixed_segment k (mixed_bytes k k (88 ∷ 67 ∷ [])) 2 t) count

-- the hash of a set with these first equal numbers of its element type and its elements
unfoldable pub set_hash : ℕ → ℕ → List ℕ → ℕ
set_hash k t ns = gathered k (set_start k t (length ns)) (set_start k t (length ns)) ns
