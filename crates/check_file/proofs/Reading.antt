-- The next record is what was read of it, judged by the rules; and where it was read it stands at its place, with the type that is
-- written in it.
-- Assumes nothing.
use mathlib.Core.Path.{◌≡◌, refl, sym, ap, ◌∙◌, subst}
use Prim.Native.Nat.{ℕ, ◌+◌, ◌-◌, ◌^◌, ◌≤◌, ◌<◌}
use native.Mathlib.Omega.{arith}
use native.Mathlib.Nat.{sub-zero}
use mathlib.Core.Bool.{Bool, true, false}
use mathlib.Core.Option.{Option, some, none-ne-some}
use borrow.Author.Tests.{le-leb}
use lib.Dec.{leb→le}
use lib.ListN.{length, take, drop, get_or, length-drop}
use lib.Seq.{drop-drop, get_or-drop}
use Rattle.script_spec.specs.Base.{Bytes, lookup}
use Rattle.script_spec.specs.Fields.{got, bad, Entry, Typed, Earlier, low, marks, is_typed, untyped_mark, whole}
use Rattle.script_spec.specs.File.{TermFile, types, funs, terms, named, written, earlier, kept, next_record}
use Rattle.script_spec.proofs.Fronts.{untyped_behind}
use Rattle.script_spec.proofs.Lists.{take_two}
use Rattle.script_spec.proofs.OwnType.{four_fit, own_fields, own_type, own_below}
use Rattle.script_spec.proofs.Readers.{got_value}
use Rattle.script_spec.proofs.Taken.{stated, last_number, Fielded, made_inverse}
use Rattle.index.specs.First.{ReadAs}
use Rattle.index.specs.Lists.{number_at}
use Rattle.index.specs.Standing.{mark_at, type_size, size_at, body_at, entry_at}
use Rattle.index.specs.Meaning.{Stands}
use Rattle.index.proofs.Ranges.{reads_in_range}
use Rattle.index.proofs.Standing.{widens_loose, entry_of_read}
use Rattle.read_record.specs.Records.{followed, read_record}
use Rattle.read_record.proofs.Records.{ruled, next_record_read}
use Rattle.check_enter.specs.Entering.{written_at, WrittenBelow}

module _ (f : TermFile) (s : Bytes) where
  pub next_bad : {n : ℕ} → read_record (earlier f) s ≡ bad n → next_record f s ≡ bad n
  unfolding ruled
  next_bad e = next_record_read f s ∙ ap (ruled f) e

  pub next_got : {x : Entry} {ty : Option ℕ} {rest : Bytes} → read_record (earlier f) s ≡ got (x, ty) rest → next_record f s ≡ kept f (written f ty) (named f x) rest
  unfolding ruled
  next_got e = next_record_read f s ∙ ap (ruled f) e

-- ---- the record at its place

-- its fields
read_fielded : (e : Earlier) (s : Bytes) (x : Typed) (rest : Bytes) → read_record e s ≡ got x rest → Fielded e s x
unfolding read_record followed stated
read_fielded e s x rest h =
    let left : Bytes = drop (stated s) (drop 6 s) in
    let m = made_inverse e s (followed left) (λ n. refl) h in
    subst (Fielded e s) (got_value m.0 x left rest m.2) m.1

-- its first byte, and the mark that its own repeats
module _ (file : Bytes) (at : ℕ) where
  first_read : get_or (drop at file) 0 0 ≡ get_or file at 0
  first_read = let z : at + 0 ≡ at = omega arith in rw z at (get_or-drop at file 0 0)

  pub mark_read : at + 2 ≤ length file → mark_at file at ≡ untyped_mark (take 2 (drop at file))
  unfolding mark_at untyped_mark
  mark_read h = sym (ap untyped_mark (rw (first_read, get_or-drop at file 1 0) at (take_two (drop at file) (rw length-drop (omega (arith, h))))))

-- x is read at a place of a file, and this type is written in it
record Placed (e : Earlier) (file : Bytes) (at : ℕ) (x : Entry) (ty : Option ℕ) : Type 0 where
  pub reads : ReadAs e (mark_at file at) (body_at file at) x
  pub type_is : written_at file at ≡ ty
  pub below : (n : ℕ) → ty ≡ some n → n < e.types

module _ (e : Earlier) (file : Bytes) (at : ℕ) {x : Entry} {ty : Option ℕ} (F : Fielded e (drop at file) (x, ty)) where
  abbrev s : Bytes
  s = drop at file

  long : at + 6 ≤ length file
  long = let h = leb→le 6 (length s) (rw F.six tt) in omega (arith, h, length-drop at file)

  fits : at + 6 + stated s ≤ length file
  fits = let h = leb→le (stated s) (length (drop 6 s)) (rw F.fits tt) in omega (arith, h, long, length-drop 6 s, length-drop at file)

  found : lookup (mark_at file at) (marks e) ≡ some F.reader
  found = rw (mark_read file at (omega (arith, long))) F.marked

  size_there : low (take 4 (drop (at + 2) file)) ≡ stated s
  unfolding stated
  size_there = ap (λ (l : Bytes). low (take 4 l)) (sym (drop-drop 2 at file))

  number_there : (i : ℕ) → i + 4 ≤ length file → number_at file i ≡ low (take 4 (drop i file))
  unfolding number_at
  number_there i h = rw (number_at, le-leb 4 (length (drop i file)) (rw length-drop (omega (arith, h))))

  last_there : last_number s ≡ low (take 4 (drop (at + 2 + stated s) file))
  unfolding last_number
  last_there = let place : at + (2 + stated s) ≡ at + 2 + stated s = omega arith in ap (λ (l : Bytes). low (take 4 l)) (drop-drop (2 + stated s) at file ∙ ap (λ (n : ℕ). drop n file) place)

  -- by whether a type is written
  placed : (b : Bool) → is_typed (get_or file at 0) ≡ b → Placed e file at x ty
  unfolding body_at size_at type_size written_at whole
  placed true t =
      let typed : is_typed (get_or s 0 0) ≡ true = ap is_typed (first_read file at) ∙ t in
      let size : length (take (stated s) (drop 6 s)) - 4 ≡ stated s - 4 = omega (arith, four_fit e s F typed) in
      let own : ty ≡ some (last_number s) = own_type e s F typed in
      record {
        reads = record { reader = F.reader; found = found; reads = rw (t, size_there) (ap whole (rw (size, drop-drop 6 at file) at (own_fields e s F typed))) };
        type_is = rw (written_at, t, number_there (at + 2) (omega (arith, long)), size_there, number_there (at + 2 + stated s) (omega (arith, fits))) (sym (own ∙ ap some last_there));
        below = λ n h. let q : last_number s ≡ n = cc in rw q at (own_below e s F typed);
      }
  placed false t =
      let read = rw (first_read file at, t, drop-drop 6 at file) at F.read in
      let W = untyped_behind e F.reader _ x ty read in
      record {
        reads = record { reader = F.reader; found = found; reads = rw (t, type_size, sub-zero, size_there) (ap whole W.0) };
        type_is = rw (written_at, t) (sym W.1);
        below = λ n h. absurd (none-ne-some n (sym W.1 ∙ h));
      }

module _ (file : Bytes) (f : TermFile) (at : ℕ) (x : Entry) (ty : Option ℕ) (rest : Bytes) (read : read_record (earlier f) (drop at file) ≡ got (x, ty) rest) where
  read_there : Placed (earlier f) file at x ty
  read_there = placed (earlier f) file at (read_fielded (earlier f) (drop at file) (x, ty) rest read) (is_typed (get_or file at 0)) refl

  -- the type that was read is the one that is written there
  pub read_written : written_at file at ≡ ty
  read_written = read_there.type_is

  -- and it is one of those before
  pub written_below : WrittenBelow file f at
  unfolding earlier
  written_below = record { go = λ n h. read_there.below n (sym read_there.type_is ∙ h) }

  module _ (tys : length (types f) ≤ 2 ^ 32) (fns : length (funs f) ≤ 2 ^ 32) (tms : length (terms f) ≤ 2 ^ 32) where
    -- a record that was read after the records f is read again
    pub read_entry : entry_at file at ≡ some x
    unfolding entry_at earlier
    read_entry = entry_of_read (earlier f) (widens_loose (earlier f) tys fns tms) (mark_at file at) (body_at file at) x read_there.reads

    -- and it stands at its place
    pub read_stands : Stands file f (earlier f) at (named f x)
    read_stands = record { entry = x; reads = read_entry; in_range = reads_in_range (earlier f) (mark_at file at) (body_at file at) x read_there.reads; names = refl }
