-- What reading a whole body answers.
-- Assumes nothing.
use Rattle.std.specs.Prelude.{ℕ, Bool, ◌&&◌, List, [], ◌∷◌, ltb, length, take, drop, get_or, Option as Optional, Result, Ok, Err}
use Rattle.std.proofs.Math.Option.{Option, none, some}
use Rattle.script_spec.specs.Base.{Bytes, bytes, same}
use Rattle.script_spec.specs.Fields.{Read, got, bad, Reader, Entry, Earlier, with_type, whole}
use Rattle.read_record.specs.Marks.{reader_of, reader_if}
use Rattle.read_record.specs.declared.mark.Kind.{Kind}
use Rattle.refusal.specs.declared.Refusal.{Refusal}
use Rattle.refusal.specs.Numbers.{number}

-- the record at the offset of type n has the mark `TE`
unfoldable pub is_entity_at : Bytes → List ℕ → ℕ → Bool
is_entity_at file offsets n = ltb n (length offsets) && same (take 2 (drop (get_or offsets n 0) file)) (bytes "TE")

-- what a record may refer to after so many types, functions and terms, the types standing at these offsets
unfoldable pub earlier_with : ℕ → ℕ → ℕ → Bytes → List ℕ → Earlier
earlier_with types funs terms file offsets = record { types = types; funs = funs; terms = terms; is_entity = is_entity_at file offsets }

-- what an answer says: a body that is read to its end, or document 01's refusal
unfoldable pub verdict_as : Result (Unit {0}) Refusal → Read (Unit {0})
verdict_as (Ok u) = got tt []
verdict_as (Err e) = bad (number e)

-- what was read, without its value
unfoldable pub valueless : {A : Type 0} → Read A → Read (Unit {0})
valueless (got a rest) = got tt rest
valueless (bad n) = bad n

-- what a mark's reader makes of a whole body, without its entry; without a reader, refusal 4
unfoldable pub read_by : Earlier → Bool → Option (Reader Entry) → Bytes → Read (Unit {0})
read_by e typed none body = bad 4
read_by e typed (some reader) body = valueless (whole (with_type e typed reader body))

-- the same by the mark's kind
unfoldable pub body_read : Earlier → Bool → Kind → Bytes → Read (Unit {0})
body_read e typed kind body = read_by e typed (reader_of e kind) body

-- and by the kind of a mark: refusal 4 where there is no kind
unfoldable pub marked_read : Earlier → Bool → Optional Kind → Bytes → Read (Unit {0})
marked_read e typed kind body = read_by e typed (reader_if e kind) body

-- the fields have been read: refusal 5 if bytes are left over
unfoldable pub all_read : Read (Unit {0}) → Read (Unit {0})
all_read (bad n) = bad n
all_read (got u []) = got tt []
all_read (got u (b ∷ rest)) = bad 5
