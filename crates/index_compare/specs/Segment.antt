-- A record's body as segments: plain bytes and references, in order.
-- Assumes nothing.
use Rattle.std.specs.Prelude.{ℕ, List, [], ◌∷◌}
use Rattle.script_spec.specs.Base.{Bytes, collect}

-- bytes that are compared as they stand, or a reference to a type, a function or a term
pub data Segment : Type 0 where
  plain : Bytes → Segment
  type_ref fun_ref term_ref : ℕ → Segment

-- a segment with another number for its reference
unfoldable pub mapped : (ℕ → ℕ) → (ℕ → ℕ) → (ℕ → ℕ) → Segment → Segment
mapped types funs terms (plain p) = plain p
mapped types funs terms (type_ref n) = type_ref (types n)
mapped types funs terms (fun_ref n) = fun_ref (funs n)
mapped types funs terms (term_ref n) = term_ref (terms n)

-- the type references of some segments, in order
unfoldable pub type_refs : List Segment → List ℕ
type_refs = collect (λ x. elim x [ plain p ↦ [] | type_ref n ↦ n ∷ [] | fun_ref n ↦ [] | term_ref n ↦ [] ])

-- the term references of some segments, in order
unfoldable pub term_refs : List Segment → List ℕ
term_refs = collect (λ x. elim x [ plain p ↦ [] | type_ref n ↦ [] | fun_ref n ↦ [] | term_ref n ↦ n ∷ [] ])
