-- Laws of reading a record: one for each way through it, and how check's `next_record` goes on from there.
-- Assumes nothing.
use mathlib.Core.Path.{◌≡◌, refl, sym, ap, ◌∙◌}
use Prim.Native.Nat.{ℕ, ◌+◌, ◌-◌, ◌≤◌, ◌<◌}
use native.Mathlib.Omega.{arith}
use mathlib.Core.Bool.{Bool, true, false, true≢false}
use mathlib.Core.List.{[], ◌∷◌}
use mathlib.Core.Option.{Option, none, some}
use lib.Dec.{leb}
use lib.ListN.{length, take, drop, get_or, length-drop}
use lib.Seq.{drop-drop, get_or-drop}
use borrow.Author.Tests.{le-leb, lt-leb}
use Rattle.script_spec.specs.Base.{Bytes, is_some, lookup}
use Rattle.script_spec.specs.Fields.{Read, got, bad, Reader, Entry, Typed, Earlier, low, marks, is_typed, untyped, untyped_mark, with_type, whole}
use Rattle.script_spec.specs.File.{TermFile, Named, named, written, earlier, kept, judged, next_record}
use Rattle.script_spec.proofs.Laws.{never}
use Rattle.script_spec.proofs.Lists.{take_two}
use Rattle.read_record.specs.Marks.{reader_of, Marked}
use Rattle.read_record.specs.Bodies.{verdict_as, valueless, read_by, body_read}
use Rattle.read_field.proofs.Laws.{four_at}
use Rattle.read_record.specs.Records.{followed, read_record, Said, NextRecord}
use Rattle.read_record.specs.declared.mark.Kind.{Kind}
use Rattle.std.specs.Prelude.{None, Some, Ok, Err}
use Rattle.refusal.specs.declared.Refusal.{Refusal}
use Rattle.refusal.specs.declared.Refusal.TheVariants.{CutShort, UnknownMark}
use Rattle.refusal.specs.Numbers.{number}
use Rattle.read_record.proofs.Marked.{lookup_kind, lookup_no_kind, known_kind}

-- ---- each way through

module _ (e : Earlier) (s : Bytes) where
  record_short : leb 6 (length s) ≡ false → read_record e s ≡ bad 3
  unfolding read_record
  record_short h = rw (read_record, h)

  record_unknown : leb 6 (length s) ≡ true → lookup (untyped_mark (take 2 s)) (marks e) ≡ none → read_record e s ≡ bad 4
  unfolding read_record
  record_unknown h l = rw (read_record, h, l)

  module _ (r : Reader Entry) (h : leb 6 (length s) ≡ true) (l : lookup (untyped_mark (take 2 s)) (marks e) ≡ some r) where
    record_past : leb (low (take 4 (drop 2 s))) (length (drop 6 s)) ≡ false → read_record e s ≡ bad 3
    unfolding read_record
    record_past g = rw (read_record, h, l, g)

    record_read : leb (low (take 4 (drop 2 s))) (length (drop 6 s)) ≡ true
        → read_record e s ≡ followed (drop (low (take 4 (drop 2 s))) (drop 6 s)) (whole (with_type e (is_typed (get_or s 0 0)) r (take (low (take 4 (drop 2 s))) (drop 6 s))))
    unfolding read_record
    record_read g = rw (read_record, h, l, g)

-- ---- what the code finds

is_some_at : {A : Type 0} (o : Option A) → is_some o ≡ true → (a : A) × (o ≡ some a)
unfolding is_some
is_some_at none h = absurd (true≢false (sym h))
is_some_at (some a) h = (a, refl)

valueless_bad : (x : Read Typed) (v : Refusal) → verdict_as (Err v) ≡ valueless x → x ≡ bad (number v)
unfolding valueless verdict_as
valueless_bad (got a rest) v h = cc
valueless_bad (bad m) v h = let q : number v ≡ m = cc in rw q

valueless_fine : (x : Read Typed) → verdict_as (Ok tt) ≡ valueless x → (a : Typed) × ((rest : Bytes) → followed rest x ≡ got a rest)
unfolding valueless verdict_as followed
valueless_fine (got a left) h = (a, λ rest. refl)
valueless_fine (bad m) h = never cc

-- the record at a place of a file
module _ (e : Earlier) (file : Bytes) (at : ℕ) where
  pub next_short : length file - at < 6 → NextRecord e file at (Err CutShort)
  unfolding Said number
  next_short h = record { is = record_short e (drop at file) (lt-leb 6 (length (drop at file)) (rw length-drop h)) }

  module _ (enough : 6 ≤ length file - at) where
    six_bytes : leb 6 (length (drop at file)) ≡ true
    six_bytes = le-leb 6 (length (drop at file)) (rw length-drop enough)

    first_byte : get_or (drop at file) 0 0 ≡ get_or file at 0
    first_byte = let z : at + 0 ≡ at = omega arith in get_or-drop at file 0 0 ∙ ap (λ n. get_or file n 0) z

    mark_bytes : take 2 (drop at file) ≡ get_or file at 0 ∷ get_or file (at + 1) 0 ∷ []
    mark_bytes = take_two (drop at file) (rw length-drop (omega arith)) ∙ rw (first_byte, get_or-drop at file 1 0)

    -- the first byte of the mark whose fields the record's repeats
    module _ {a : ℕ} (u : a ≡ untyped (get_or file at 0)) where
      mark_is : untyped_mark (take 2 (drop at file)) ≡ a ∷ get_or file (at + 1) 0 ∷ []
      unfolding untyped_mark
      mark_is = rw (mark_bytes, u)

      pub next_unknown : Marked (a ∷ get_or file (at + 1) 0 ∷ []) None → NextRecord e file at (Err UnknownMark)
      unfolding Said number
      next_unknown m = record { is = record_unknown e (drop at file) six_bytes (rw mark_is (lookup_no_kind _ e m)) }

      module _ (k : Kind) (m : Marked (a ∷ get_or file (at + 1) 0 ∷ []) (Some k)) where
        lookup_mark : lookup (untyped_mark (take 2 (drop at file))) (marks e) ≡ reader_of e k
        lookup_mark = rw mark_is (lookup_kind _ k e m)

        known : is_some (reader_of e k) ≡ true
        known = known_kind k e

        module _ (size : ℕ) (sized : size ≡ low (get_or file (at + 2) 0 ∷ get_or file (at + 2 + 1) 0 ∷ get_or file (at + 2 + 2) 0 ∷ get_or file (at + 2 + 3) 0 ∷ [])) where
          size_is : low (take 4 (drop 2 (drop at file))) ≡ size
          size_is = rw (drop-drop 2 at file) (sym (sized ∙ ap low (four_at file (at + 2) (omega arith))))

          pub next_past : length file - (at + 6) < size → NextRecord e file at (Err CutShort)
          unfolding Said number
          next_past h =
              let r = is_some_at (reader_of e k) known in
              record { is = record_past e (drop at file) r.0 six_bytes (lookup_mark ∙ r.1) (rw (size_is, drop-drop 6 at file, length-drop) (lt-leb size _ h)) }

          module _ (fits : size ≤ length file - (at + 6)) (n : ℕ) (whole-size : n ≡ size) {b : Bool} (t : b ≡ is_typed (get_or file at 0)) where
            read_is : (r : Reader Entry) → reader_of e k ≡ some r
                → read_record e (drop at file) ≡ followed (drop (at + 6 + size) file) (whole (with_type e b r (take n (drop (at + 6) file))))
            read_is r h =
                record_read e (drop at file) r six_bytes (lookup_mark ∙ h) (rw (size_is, drop-drop 6 at file, length-drop) (le-leb size _ fits))
                ∙ rw (size_is, first_byte, t, drop-drop 6 at file, drop-drop size (at + 6) file, whole-size)

            pub next_bad : {v : Refusal} → verdict_as (Err v) ≡ body_read e b k (take n (drop (at + 6) file)) → NextRecord e file at (Err v)
            unfolding Said body_read read_by followed
            next_bad {v} h =
                let r = is_some_at (reader_of e k) known in
                let x = valueless_bad (whole (with_type e b r.0 (take n (drop (at + 6) file)))) v (rw r.1 at h) in
                record { is = read_is r.0 r.1 ∙ ap (followed (drop (at + 6 + size) file)) x }

            pub next_fine : verdict_as (Ok tt) ≡ body_read e b k (take n (drop (at + 6) file)) → NextRecord e file at (Ok (record { kind = k; start = at + 6; end = at + 6 + size }))
            unfolding Said body_read read_by
            next_fine h =
                let r = is_some_at (reader_of e k) known in
                let x = valueless_fine (whole (with_type e b r.0 (take n (drop (at + 6) file)))) (rw r.1 at h) in
                record {
                  is = record {
                    marked = rw mark_is m;
                    starts = refl;
                    ends = ap (λ z. at + 6 + z) (sym size_is);
                    within = omega arith;
                    read = x.0;
                    is = read_is r.0 r.1 ∙ x.1 (drop (at + 6 + size) file);
                  };
                }

-- ---- check

-- the rules of a record that has been read
unfoldable pub ruled : TermFile → Read Typed → Read Named
ruled f (bad n) = bad n
ruled f (got x rest) = kept f (written f x.1) (named f x.0) rest

judged_followed : (f : TermFile) (rest : Bytes) (x : Read Typed) → judged f rest x ≡ ruled f (followed rest x)
unfolding judged ruled followed
judged_followed f rest (got x left) = refl
judged_followed f rest (bad n) = refl

-- check's next record is the record that is read, with the rules kept
pub next_record_read : (f : TermFile) (s : Bytes) → next_record f s ≡ ruled f (read_record (earlier f) s)
unfolding next_record read_record ruled
next_record_read f s = six_cases (leb 6 (length s)) refl
  where
    size_cases : (r : Reader Entry) (b : Bool) → leb 6 (length s) ≡ true → lookup (untyped_mark (take 2 s)) (marks (earlier f)) ≡ some r → leb (low (take 4 (drop 2 s))) (length (drop 6 s)) ≡ b → next_record f s ≡ ruled f (read_record (earlier f) s)
    size_cases r true h l g = rw (next_record, read_record, h, l, g) (judged_followed f _ _)
    size_cases r false h l g = rw (next_record, read_record, h, l, g)

    mark_cases : (o : Option (Reader Entry)) → leb 6 (length s) ≡ true → lookup (untyped_mark (take 2 s)) (marks (earlier f)) ≡ o → next_record f s ≡ ruled f (read_record (earlier f) s)
    mark_cases none h l = rw (next_record, read_record, h, l)
    mark_cases (some r) h l = size_cases r (leb (low (take 4 (drop 2 s))) (length (drop 6 s))) h l refl

    six_cases : (b : Bool) → leb 6 (length s) ≡ b → next_record f s ≡ ruled f (read_record (earlier f) s)
    six_cases false h = rw (next_record, read_record, h)
    six_cases true h = mark_cases (lookup (untyped_mark (take 2 s)) (marks (earlier f))) h refl
