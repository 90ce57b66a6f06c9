-- The segments of a record that are told with no walk, mixed in one by one.
-- Assumes nothing.
use Prim.Native.Nat.{ℕ}
use mathlib.Core.Path.{◌≡◌, sym, ap, ◌∙◌}
use mathlib.Core.List.{List, [], ◌∷◌, map}
use Rattle.script_spec.specs.Base.{Bytes}
use Rattle.index.specs.Names.{key_of, mixed_bytes}
use Rattle.index.specs.Standing.{mark_at}
use Rattle.index_compare.specs.Segment.{Segment, plain, type_ref, term_ref}
use Rattle.index_compare.specs.View.{viewed, segments_at}
use Rattle.index_compare.specs.declared.compare.View.TheVariants.{First}
use Rattle.index_search.specs.Hash.{mixed_segments, hashed, record_hash, type_hash}
use Rattle.index_search.proofs.Mixed.{segments_then}

module _ (work : List ℕ) (k key : ℕ) where
  -- ---- one segment, and then others, as the view of first numbers has them

  abbrev seen : List Segment → List Segment
  seen l = map (viewed work k First) l

  -- a reference to a term alone
  pub shape_sole : (h : ℕ) {n r : ℕ} {l : List Segment} → l ≡ term_ref n ∷ [] → r ≡ mixed_segments key h (viewed work k First (term_ref n) ∷ []) → r ≡ mixed_segments key h (seen l)
  shape_sole h e q = q ∙ ap (λ (m : List Segment). mixed_segments key h (seen m)) (sym e)

  -- bytes alone
  pub shape_bare : (h : ℕ) {p : Bytes} {r : ℕ} {l : List Segment} → l ≡ plain p ∷ [] → r ≡ mixed_segments key h (plain p ∷ []) → r ≡ mixed_segments key h (seen l)
  unfolding viewed
  shape_bare h e q = q ∙ ap (λ (m : List Segment). mixed_segments key h (seen m)) (sym e)

  -- a type, and then others
  pub type_then : (h t : ℕ) (m : List Segment) {y r : ℕ} → y ≡ mixed_segments key h (viewed work k First (type_ref t) ∷ []) → r ≡ mixed_segments key y (seen m) → r ≡ mixed_segments key h (seen (type_ref t ∷ m))
  type_then h t m e q = segments_then key h (viewed work k First (type_ref t)) (seen m) e q

  -- bytes, and then others
  pub plain_then : (h : ℕ) (p : Bytes) (m : List Segment) {y r : ℕ} → y ≡ mixed_segments key h (plain p ∷ []) → r ≡ mixed_segments key y (seen m) → r ≡ mixed_segments key h (seen (plain p ∷ m))
  unfolding viewed
  plain_then h p m e q = segments_then key h (plain p) (seen m) e q

  pub shape_is : (h : ℕ) {r : ℕ} {l m : List Segment} → l ≡ m → r ≡ mixed_segments key h (seen m) → r ≡ mixed_segments key h (seen l)
  shape_is h e q = q ∙ ap (λ (m : List Segment). mixed_segments key h (seen m)) (sym e)

  -- ---- the record at an offset

  pub hash_of : (file : Bytes) (o : ℕ) {h r : ℕ} → key ≡ key_of work k → h ≡ mixed_bytes key key (mark_at file o) → r ≡ mixed_segments key h (seen (segments_at file o)) → r ≡ record_hash file work k o
  unfolding record_hash hashed
  hash_of file o is mark e = e ∙ rw (mark, is)

-- ---- a type that is not at hand

pub type_hashed : (key letter : ℕ) (l : List Segment) {h r : ℕ} → h ≡ mixed_bytes key key (84 ∷ letter ∷ []) → r ≡ mixed_segments key h l → r ≡ type_hash key letter l
unfolding type_hash hashed
type_hashed key letter l e q = q ∙ ap (λ (n : ℕ). mixed_segments key n l) e
