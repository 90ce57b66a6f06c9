-- The numbers of the refusals, and what a call answers in the terms of the definitions: its value, or a refusal's number, place and position.
-- Assumes nothing.
use Rattle.std.specs.Prelude.{ℕ, Result, Ok, Err, Some, None}
use Rattle.std.specs.Prelude as std
use Rattle.std.proofs.Math.Option.{Option, none, some}
use Rattle.script_spec.specs.Base.{Answer, accepted, refused}
use Rattle.refusal.specs.declared.Refusal.{Refusal}
use Rattle.refusal.specs.declared.Refusal.TheVariants.{FileTooLong, MemoryTooSmall, CutShort, UnknownMark, Misfit, NotUtf8, OutOfRange, NoSuchRecord, NotAscending, NothingGiven, SecondEnum, TypeNotListed, TooMany, NotMember, HighId, NoAttribute, NotRecord, TypeNotDeclared, NoArgument, NoRoom, WrongType, HighString, HighPattern}
use Rattle.refusal.specs.declared.Refused.{Refused}

-- the number of a refusal
unfoldable pub number : Refusal → ℕ
number FileTooLong = 1
number MemoryTooSmall = 2
number CutShort = 3
number UnknownMark = 4
number Misfit = 5
number NotUtf8 = 6
number OutOfRange = 7
number NoSuchRecord = 8
number NotAscending = 9
number NothingGiven = 10
number SecondEnum = 11
number TypeNotListed = 12
number TooMany = 13
number NotMember = 14
number HighId = 15
number NoAttribute = 16
number NotRecord = 17
number TypeNotDeclared = 18
number NoArgument = 19
number NoRoom = 20
number WrongType = 21
number HighString = 24
number HighPattern = 25

-- an answer, with its value in other terms
unfoldable pub answered : {A B : Type 0} → (A → B) → Result A Refused → Answer B
answered f (Ok a) = accepted (f a)
answered f (Err r) = refused (number r.refusal) r.place r.position

-- an answer that may be none
abbrev pub option_of : {A : Type 0} → std.Option A → Option A
option_of None = none
option_of (Some a) = some a
