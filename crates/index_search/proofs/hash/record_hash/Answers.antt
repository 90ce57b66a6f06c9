-- The mark, and then the segments: by the shape of the record one by one, or by the walk from the start of its body.
-- Assumes nothing.
use mathlib.Core.Path.{◌≡◌, subst}
use mathlib.Core.List.{List, [], ◌∷◌}
use Rattle.std.specs.Prelude.{Some}
use Rattle.index_compare.specs.Segment.{Segment, plain, type_ref}
use Rattle.index_compare.specs.Shape.{terms_ahead, Shaped}
use Rattle.index_compare.specs.declared.shape.Shape.{Shape}
use Rattle.index_search.proofs.Shapes.{shape_is, shape_sole, shape_bare, type_then, plain_then, hash_of}
use Rattle.index_search.proofs.hash.record_hash.Goals as goal

-- the segments of a shape that was told
told : (l : List Segment) {s t : Shape} → s ≡ t → Shaped l (Some s) → Shaped l (Some t)
told l e S = subst (λ (s : Shape). Shaped l (Some s)) e S

pub returns-in-Some-Sole : goal.returns-in-Some-Sole
returns-in-Some-Sole c =
    let S = c.in-Some-Sole in
    hash_of _ _ _ c.args.records.file.now c.args.offset c.key-key.ensures c.mark_hash_at-h.ensures (shape_sole _ _ _ _ (told _ S.field-0-is S.ensures) c.mix_first.ensures)

pub returns-in-Some-Applied : goal.returns-in-Some-Applied
returns-in-Some-Applied c =
    let S = c.in-Some-Applied in
    let count = plain S.count.now in
    let terms = terms_ahead S.terms in
    hash_of _ _ _ c.args.records.file.now c.args.offset c.key-key.ensures c.mark_hash_at-h.ensures
    (shape_is _ _ _ _ (told _ S.field-0-is S.ensures)
    (type_then _ _ _ _ S.t (plain S.code.now ∷ count ∷ terms) c.mix_first-x.ensures
    (plain_then _ _ _ _ S.code.now (count ∷ terms) c.mix_segment-y.ensures (plain_then _ _ _ _ S.count.now terms c.mix_segment-z.ensures c.mix_terms.ensures))))

pub returns-in-Some-Bare : goal.returns-in-Some-Bare
returns-in-Some-Bare c =
    let S = c.in-Some-Bare in
    hash_of _ _ _ c.args.records.file.now c.args.offset c.key-key.ensures c.mark_hash_at-h.ensures (shape_bare _ _ _ _ (told _ S.field-0-is S.ensures) c.mix_segment.ensures)

pub returns-in-Some-Named : goal.returns-in-Some-Named
returns-in-Some-Named c =
    let S = c.in-Some-Named in
    hash_of _ _ _ c.args.records.file.now c.args.offset c.key-key.ensures c.mark_hash_at-h.ensures
    (shape_is _ _ _ _ (told _ S.field-0-is S.ensures) (plain_then _ _ _ _ S.text.now (type_ref S.t ∷ []) c.mix_segment-x.ensures c.mix_first-in-Some-Named.ensures))

pub returns-in-Some-Listing : goal.returns-in-Some-Listing
returns-in-Some-Listing c = hash_of _ _ _ c.args.records.file.now c.args.offset c.key-key.ensures c.mark_hash_at-h.ensures (rw c.viewed_segments.ensures at c.mix_ahead.ensures)
