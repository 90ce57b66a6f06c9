-- The entry of a body is what the mark's reader gives.
-- Assumes nothing.
use mathlib.Core.Path.{◌≡◌, refl}
use mathlib.Core.List.{[], ◌∷◌}
use mathlib.Core.Option.{Option, none, some, none-ne-some}
use Rattle.script_spec.specs.Base.{Bytes, lookup, and_then}
use Rattle.script_spec.specs.Fields.{Entry, Read, got, bad, Reader, marks, whole}
use Rattle.index.specs.Standing.{loose, entry_read, entry_of}

-- x is what the reader of a mark gives for a body
pub record Entered (mark body : Bytes) (x : Entry) : Type 0 where
  pub reader : Reader Entry
  pub found : lookup mark (marks loose) ≡ some reader
  pub reads : reader body ≡ got x []

pub entry_whole : (r : Read Entry) (x : Entry) → entry_read (whole r) ≡ some x → r ≡ got x []
unfolding entry_read whole
entry_whole (bad n) x e = absurd (none-ne-some x e)
entry_whole (got y []) x e = cc
entry_whole (got y (b ∷ rest)) x e = absurd (none-ne-some x e)

pub entry_of_inverse : (mark body : Bytes) {x : Entry} → entry_of mark body ≡ some x → Entered mark body x
unfolding entry_of and_then
entry_of_inverse mark body {x} e = from (lookup mark (marks loose)) refl e
  where
    from : (o : Option (Reader Entry)) → lookup mark (marks loose) ≡ o → and_then o (λ (r : Reader Entry). entry_read (whole (r body))) ≡ some x → Entered mark body x
    from none q h = absurd (none-ne-some x h)
    from (some r) q h = record { reader = r; found = q; reads = entry_whole (r body) _ h }
