-- What a step over the next record promises: the record is entered, or document 01's refusal of it is told.
-- Assumes nothing.
use Rattle.std.specs.Prelude.{◌≡◌, ℕ, ◌+◌, ◌*◌, ◌/◌, ◌≤◌, ◌<◌, List, [], ◌∷◌, ◌++◌, length, drop, Result, Ok, Err}
use Rattle.std.proofs.Math.Option.{Option}
use Rattle.script_spec.specs.Base.{Bytes, accepted, refused}
use Rattle.script_spec.specs.Tree.{TypeMark, TermMark}
use Rattle.script_spec.specs.Fields.{got, bad, Entry, type, enum, func, term, input}
use Rattle.script_spec.specs.File as files
use Rattle.script_spec.specs.File.{TermFile, Named, earlier, next_record}
use Rattle.index.specs.Meaning.{SizesOf}
use Rattle.index.specs.declared.RecordsMut.{RecordsMut}
use Rattle.refusal.specs.Numbers.{number}
use Rattle.refusal.specs.declared.Refusal.{Refusal}
use Rattle.read_record.specs.Marks.{mark}
use Rattle.read_record.specs.Records.{read_record}
use Rattle.read_record.specs.declared.mark.Kind.{Kind}
use Rattle.check_rules.specs.Marks.{mark_of}
use Rattle.check_enter.specs.Entering.{Keeps, Counted, Unchanged}

-- the records f stand before a place of a file of at most 1,048,576 bytes, and the memory is their index
pub record Before (f : TermFile) (v : RecordsMut) (at : ℕ) : Type 0 where
  pub short : length v.file.now ≤ 1048576
  pub rows_are : v.sizes.rows ≡ length v.file.now / 6
  pub counted : Counted f v
  pub places : 6 * length f ≤ at

-- the next record is got, and the memory is the index with it
pub record Stepped (f : TermFile) (v w : RecordsMut) (at to : ℕ) : Type 0 where
  pub record_got : Named
  pub next : next_record f (drop at v.file.now) ≡ got record_got (drop to v.file.now)
  pub further : at + 6 ≤ to
  pub within : to ≤ length v.file.now
  pub counted : Counted (f ++ (record_got ∷ [])) w

-- the next record is refused, and the memory is as it was
pub record TurnedBack (f : TermFile) (v w : RecordsMut) (at : ℕ) (e : Refusal) : Type 0 where
  pub next : next_record f (drop at v.file.now) ≡ bad (number e)
  pub unchanged : Unchanged v w

-- what a step answers: the place after the next record, or its refusal
abbrev pub Stepping : TermFile → RecordsMut → RecordsMut → ℕ → Result ℕ Refusal → Type 0
Stepping f v w at (Ok to) = Stepped f v w at to
Stepping f v w at (Err e) = TurnedBack f v w at e

-- r is a step over the record at a place
pub record Steps (v w : RecordsMut) (at : ℕ) (r : Result ℕ Refusal) : Type 0 where
  pub kept : Keeps v w
  pub go : (f : TermFile) → Before f v at → Stepping f v w at r

-- ---- all records

-- the file's records are f, and the memory is their index
pub record AllEntered (v w : RecordsMut) : Type 0 where
  pub records : TermFile
  pub is : files.records (length v.file.now) [] v.file.now ≡ accepted records
  pub counted : Counted records w

-- the record after the records f is refused, and the sizes are those of f
pub record AllBroken (v w : RecordsMut) (e : Refusal) : Type 0 where
  pub records : TermFile
  pub is : files.records (length v.file.now) [] v.file.now ≡ refused (number e) (length records) 0
  pub sizes_are : SizesOf records w.sizes
  pub few : length records < 4294967296

-- one or the other
abbrev pub AllTold : RecordsMut → RecordsMut → Result (Unit {0}) Refusal → Type 0
AllTold v w (Ok u) = AllEntered v w
AllTold v w (Err e) = AllBroken v w e

-- what entering all records of a file answers
pub record EntersAll (v w : RecordsMut) (r : Result (Unit {0}) Refusal) : Type 0 where
  pub kept : Keeps v w
  pub told : AllTold v w r

-- ---- records by their kinds

-- x is a type
abbrev pub TypeRecord : Entry → Type 0
TypeRecord x = (m : TypeMark) × (rs : List ℕ) × (x ≡ type m rs)

-- x is an enum
abbrev pub EnumRecord : Entry → Type 0
EnumRecord x = (name : Bytes) × (members : List Bytes) × (x ≡ enum name members)

-- x is a function
abbrev pub FunRecord : Entry → Type 0
FunRecord x = (id : Bytes) × (a : ℕ) × (r : ℕ) × (x ≡ func id a r)

-- x is a term
abbrev pub TermRecord : Entry → Type 0
TermRecord x = (m : TermMark ℕ ℕ) × (rs : List ℕ) × (x ≡ term m rs)

-- x is an input
abbrev pub InputRecord : Entry → Type 0
InputRecord x = (n : ℕ) × (x ≡ input n)

-- x has the mark of a kind
abbrev pub HasMark : Kind → Entry → Type 0
HasMark kind x = mark kind ≡ mark_of x

-- x is a term of a kind
abbrev pub TermOf : Kind → Entry → Type 0
TermOf kind x = TermRecord x × HasMark kind x

-- ---- the step over a record

-- the record x was read after the records f, from one place up to another, with a written type or without
pub record ReadUpTo (file : Bytes) (f : TermFile) (at to : ℕ) (x : Entry) : Type 0 where
  pub ty : Option ℕ
  pub read : read_record (earlier f) (drop at file) ≡ got (x, ty) (drop to file)
  pub further : at + 6 ≤ to
  pub within : to ≤ length file

-- what entering a record that was read up to a place answers
abbrev pub EnterTells : TermFile → RecordsMut → RecordsMut → ℕ → ℕ → Result (Unit {0}) Refusal → Type 0
EnterTells f v w at to (Ok u) = Stepped f v w at to
EnterTells f v w at to (Err e) = TurnedBack f v w at e

-- r is a step over a record that was read from a place on, if it is of this kind
pub record StepsOver (Is : Entry → Type 0) (v w : RecordsMut) (at : ℕ) (r : Result (Unit {0}) Refusal) : Type 0 where
  pub kept : Keeps v w
  pub go : (f : TermFile) → Before f v at → (to : ℕ) (x : Entry) → ReadUpTo v.file.now f at to x → Is x → EnterTells f v w at to r
