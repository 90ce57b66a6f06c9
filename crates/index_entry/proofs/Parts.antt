-- The part of an option or a set is the number that its body begins with.
-- Assumes nothing.
use mathlib.Core.Path.{◌≡◌, refl, ap, ◌∙◌}
use mathlib.Core.List.{[], ◌∷◌}
use mathlib.Core.Option.{some}
use Prim.Native.Nat.{ℕ}
use Rattle.script_spec.specs.Base.{Bytes, bytes, same, lookup, and_then}
use Rattle.script_spec.specs.Tree.{Option·, Set·}
use Rattle.script_spec.specs.Fields.{Entry, type, got, Reader, ◌>>=◌, pure, ref, marks}
use Rattle.script_spec.proofs.Readers.{got_value}
use Rattle.index_compare.proofs.Standing.{entry_whole}
use Rattle.index.specs.Standing.{mark_at, body_at, entry_of, entry_at, loose}
use Rattle.index.specs.Lists.{number_at}
use Rattle.check_rules.specs.Marks.{type_bytes, mark_of}
use Rattle.check_rules.proofs.Marks.{entry_mark}
use Rattle.index_entry.specs.Types.{PartAt}
use Rattle.index_entry.proofs.Inverse.{bind_inverse, tested_inverse}

-- an entry made of one reference
abbrev referring : (ℕ → Entry) → Reader Entry
referring k = ◌>>=◌ (ref loose.types) (λ t. pure (k t))

module _ (body : Bytes) (k : ℕ → Entry) {e : Entry} (h : referring k body ≡ got e []) where
  -- the number of its body is the reference
  referred : k (number_at body 0) ≡ e
  unfolding ref pure
  referred = bind_inverse (ref loose.types) (λ t. pure (k t)) body h (λ a mid p q. tested_inverse 8 _ body p (λ v d. ap k v ∙ got_value (k a) e mid [] q))

module _ (file : Bytes) (o : ℕ) where
  part_here : (mark : Bytes) (k : ℕ → Entry) {e : Entry} → lookup mark (marks loose) ≡ some (referring k) → entry_at file o ≡ some e → mark_at file o ≡ mark → k (number_at (body_at file o) 0) ≡ e
  unfolding entry_at entry_of and_then
  part_here mark k {e} found g m = referred (body_at file o) k (entry_whole (referring k (body_at file o)) e (rw (m, found) at g))

  pub part_is : {body : Bytes} {r : ℕ} → body ≡ body_at file o → r ≡ number_at body 0 → PartAt file o r
  unfolding entry_at marks lookup same bytes mark_of type_bytes
  part_is {body} {r} i e =
      let there : r ≡ number_at (body_at file o) 0 = e ∙ ap (λ (s : Bytes). number_at s 0) i in
      record {
        option = λ rs g. let h = part_here (bytes "TO") (λ t. type Option· (t ∷ [])) refl g (entry_mark (mark_at file o) (body_at file o) g) in cc;
        set = λ rs g. let h = part_here (bytes "TC") (λ t. type Set· (t ∷ [])) refl g (entry_mark (mark_at file o) (body_at file o) g) in cc;
      }
