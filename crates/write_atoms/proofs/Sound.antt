-- What every record that is read keeps: a text is UTF-8, and a width is at most 128. By a predicate on readers that each way of making
-- one preserves.
-- Assumes nothing.
use Prim.Native.Nat.{ℕ, ◌≤◌}
use mathlib.Core.Path.{◌≡◌, refl}
use mathlib.Core.Bool.{true}
use mathlib.Core.List.{[]}
use mathlib.Core.Option.{Option, none, some, none-ne-some}
use lib.Dec.{leb, leb→le}
use Rattle.script_spec.specs.Base.{Bytes, between, lookup, and_then}
use Rattle.script_spec.specs.Utf8.{is_utf8}
use Rattle.script_spec.specs.Tree.{TypeMark, Bool·, String·, Option·, Set·, BitVec·, Declared}
use Rattle.script_spec.specs.Fields.{Entry, type, enum, func, term, input, Reader, u32, part, text, width, list, pair, ref, number, ext_type, value, entity_ref, operator, marks, leaf, whole}
use Rattle.script_spec.proofs.Laws.{and_parts, is_true}
use Rattle.index_compare.proofs.Standing.{entry_whole}
use Rattle.write_atoms.specs.Records.{TermSound}
use Rattle.index.specs.Standing.{loose, entry_read, entry_of, entry_at}
use Rattle.index.proofs.Readers.{Gives, Pairwise, Line, ◌&◌, gives_pure, gives_bind, gives_after, gives_ensure, lookup_pairwise}

-- the width of a bit vector type
unfoldable pub TypeSound : TypeMark → Type 0
TypeSound Bool· = Unit {0}
TypeSound String· = Unit {0}
TypeSound Option· = Unit {0}
TypeSound Set· = Unit {0}
TypeSound (BitVec· n) = n ≤ 128
TypeSound (Declared d) = Unit {0}

-- a record
unfoldable pub Sound : Entry → Type 0
Sound (type m rs) = TypeSound m
Sound (enum n ms) = Unit {0}
Sound (func id a r) = Unit {0}
Sound (term m rs) = TermSound m
Sound (input n) = Unit {0}

gives_text : Gives (λ s. is_utf8 s ≡ true) text text
unfolding text
gives_text = gives_after u32 (λ n. gives_after (part n) (λ s. gives_ensure 6 (is_utf8 s) (is_utf8 s) s (λ h. (is_true (is_utf8 s) h, h))))

gives_width : Gives (λ n. n ≤ 128) width width
unfolding width between
gives_width = gives_after u32 (λ n. gives_ensure 7 (between 1 128 n) (between 1 128 n) n (λ h. (leb→le n 128 (and_parts (leb 1 n) (leb n 128) h).1, h)))

-- a mark of the table, with its reader
mark : {s : Bytes} {r : Reader Entry} → Gives Sound r r → (s ≡ s) × Gives Sound r r
mark G = (refl, G)

-- each mark's reader, in the order of `marks`
all_marks : Pairwise (Line (Gives Sound)) (marks loose) (marks loose)
unfolding Pairwise Sound TypeSound TermSound marks leaf
all_marks =
    mark (gives_pure (type Bool· []) tt)
    & mark (gives_pure (type String· []) tt)
    & mark (gives_bind gives_width (λ n h. gives_pure _ h))
    & mark (gives_after (ref loose.types) (λ t. gives_pure _ tt))
    & mark (gives_after (ref loose.types) (λ t. gives_pure _ tt))
    & mark (gives_after text (λ n. gives_pure _ tt))
    & mark (gives_after ext_type (λ x. gives_pure _ tt))
    & mark (gives_after (list (pair text (ref loose.types))) (λ ps. gives_pure _ tt))
    & mark (gives_after text (λ n. gives_after (list text) (λ ms. gives_pure _ tt)))
    & mark (gives_after text (λ n. gives_after (ref loose.types) (λ a. gives_after (ref loose.types) (λ r. gives_pure _ tt))))
    & mark (gives_bind gives_text (λ n h. gives_after (ref loose.types) (λ t. gives_pure _ h)))
    & mark (gives_after _ (λ b. gives_pure _ tt))
    & mark (gives_after width (λ n. gives_after (number 16) (λ v. gives_after _ (λ w. gives_pure _ tt))))
    & mark (gives_bind gives_text (λ s h. gives_pure _ h))
    & mark (gives_after (entity_ref loose) (λ t. gives_bind gives_text (λ i h. gives_pure _ h)))
    & mark (gives_after value (λ v. gives_pure _ tt))
    & mark (gives_after (ref loose.types) (λ t. gives_pure _ tt))
    & mark (gives_after (ref loose.terms) (λ t. gives_pure _ tt))
    & mark (gives_after (ref loose.types) (λ t. gives_after (list (ref loose.terms)) (λ ts. gives_pure _ tt)))
    & mark (gives_after (list (pair text (ref loose.terms))) (λ ps. gives_pure _ tt))
    & mark (gives_after (ref loose.types) (λ t. gives_after (operator loose.funs) (λ o. gives_after (list (ref loose.terms)) (λ ts. gives_pure _ tt))))
    & mark (gives_after (ref loose.terms) (λ t. gives_pure _ tt))
    & tt

entry_sound : (mark body : Bytes) (x : Entry) (o : Option (Reader Entry)) → lookup mark (marks loose) ≡ o
    → and_then o (λ (r : Reader Entry). entry_read (whole (r body))) ≡ some x → Sound x
unfolding and_then
entry_sound mark body x none e h = absurd (none-ne-some x h)
entry_sound mark body x (some r) e h =
    ((lookup_pairwise (Gives Sound) mark (marks loose) (marks loose) r all_marks e).related.go body [] x (entry_whole (r body) x h)).0

-- an entry that stands at an offset of a file
pub sound_at : (file : Bytes) (o : ℕ) (x : Entry) → entry_at file o ≡ some x → Sound x
unfolding entry_at entry_of
sound_at file o x h = entry_sound _ _ x _ refl h
