-- Reading the next record of a file: its mark, its size, and its body by the mark's reader.
-- Assumes nothing.
use Rattle.std.specs.Prelude.{◌≡◌, ℕ, ◌+◌, ◌≤◌, true, false, leb, length, take, drop, get_or, Some, Result, Ok, Err}
use Rattle.std.proofs.Math.Option.{none, some}
use Rattle.script_spec.specs.Base.{Bytes, lookup}
use Rattle.script_spec.specs.Fields.{Read, got, bad, Typed, Earlier, low, marks, is_typed, untyped_mark, with_type, whole}
use Rattle.read_field.specs.Reads.{Told, value, refusal}
use Rattle.read_record.specs.Marks.{Marked}
use Rattle.read_record.specs.declared.mark.Kind.{Kind}
use Rattle.read_record.specs.declared.Record.{Record}
use Rattle.refusal.specs.declared.Refusal.{Refusal}
use Rattle.refusal.specs.Numbers.{number}

-- what a body was read as, with the bytes after the record
unfoldable pub followed : Bytes → Read Typed → Read Typed
followed rest (bad n) = bad n
followed rest (got x left) = got x rest

-- the next record as it is read, with the bytes after it: `next_record` without its rules
unfoldable pub read_record : Earlier → Bytes → Read Typed
read_record e s =
    elim (leb 6 (length s)) [
      | false ↦ bad 3
      | true ↦ elim (lookup (untyped_mark (take 2 s)) (marks e)) [
        | none ↦ bad 4
        | some reader ↦ let size = low (take 4 (drop 2 s)) in
            elim (leb size (length (drop 6 s))) [
              | false ↦ bad 3
              | true ↦ followed (drop size (drop 6 s)) (whole (with_type e (is_typed (get_or s 0 0)) reader (take size (drop 6 s))))
            ]
      ]
    ]

-- a record of this kind stands at a place of the file, its body from `start` to `end`, with a written type or without
pub record IsRecord (e : Earlier) (file : Bytes) (at : ℕ) (kind : Kind) (start end : ℕ) : Type 0 where
  pub marked : Marked (untyped_mark (take 2 (drop at file))) (Some kind)
  pub starts : start ≡ at + 6
  pub ends : end ≡ start + low (take 4 (drop 2 (drop at file)))
  pub within : end ≤ length file
  pub read : Typed
  pub is : read_record e (drop at file) ≡ got read (drop end file)

-- an answer in document 01's terms: the record's kind, the start of its body and the place after it, or the refusal's number
abbrev pub next_told : Result Record Refusal → Told (Kind × ℕ)
next_told (Ok r) = value (r.kind, r.start) r.end
next_told (Err e) = refusal (number e)

-- what is told is the record at a place of the file, or its refusal
abbrev pub RecordTold : Earlier → Bytes → ℕ → Told (Kind × ℕ) → Type 0
RecordTold e file at (value x end) = IsRecord e file at x.0 x.1 end
RecordTold e file at (refusal n) = read_record e (drop at file) ≡ bad n

-- what an answer says
unfoldable pub Said : Earlier → Bytes → ℕ → Result Record Refusal → Type 0
Said e file at r = RecordTold e file at (next_told r)

-- r is the record at a place of the file
pub record NextRecord (e : Earlier) (file : Bytes) (at : ℕ) (r : Result Record Refusal) : Type 0 where
  pub is : Said e file at r
