-- What the methods of a cursor promise: the answer is what a reader of the definitions makes of the rest of the body, and the cursor stands
-- after what was read.
-- Assumes nothing.
use Rattle.std.specs.Prelude.{◌≡◌, ℕ, Option, None, Some, Result, Ok, Err}
use denote.Ref.{Bor}
use Rattle.script_spec.specs.Base.{Bytes}
use Rattle.script_spec.specs.Fields.{Reader}
use Rattle.refusal.specs.declared.Refusal.{Refusal}
use Rattle.refusal.specs.Numbers.{number}
use Rattle.read_field.specs.Reads.{value, refusal, Reads}
use Rattle.read_field.specs.declared.Cursor.{Cursor}

-- a reader takes a field: of the cursor c it makes the value a, and the cursor d is after the field
pub record TakesTo {A : Type 0} (reader : Reader A) (c d : Cursor) (a : A) : Type 0 where
  pub body : d.body ≡ c.body
  pub reads : Reads reader c.body.now c.at (value a d.at)

-- a reader refuses a field: that at the cursor c
pub record RefusesAt {A : Type 0} (reader : Reader A) (c : Cursor) (e : Refusal) : Type 0 where
  pub reads : Reads reader c.body.now c.at (refusal (number e))

-- what is answered is what a reader makes of the rest of the body: a value, with the cursor moved past the field, or a refusal
abbrev pub Takes : {A : Type 0} → Reader A → Cursor → Result (A × Cursor) Refusal → Type 0
Takes reader c (Ok v) = TakesTo reader c v.1 v.0
Takes reader c (Err e) = RefusesAt reader c e

-- the bytes of a part of the body
abbrev pub bytes_of : Result (Bor Bytes × Cursor) Refusal → Result (Bytes × Cursor) Refusal
bytes_of (Ok v) = Ok (v.0.now, v.1)
bytes_of (Err e) = Err e

-- a prefix as it stands in a body: 255 for none
unfoldable pub prefix_number : Option ℕ → ℕ
prefix_number None = 255
prefix_number (Some n) = n

abbrev pub prefix_of : Result (Option ℕ × Cursor) Refusal → Result (ℕ × Cursor) Refusal
prefix_of (Ok v) = Ok (prefix_number v.0, v.1)
prefix_of (Err e) = Err e

-- a prefix that is given is not 255, so that none is `None` alone
unfoldable pub IsPrefix : Option ℕ → Type 0
IsPrefix None = Unit {0}
IsPrefix (Some n) = n ≡ 255 → ⊥

-- so is the prefix of an answer
abbrev pub PrefixOnOk : Result (Option ℕ × Cursor) Refusal → Type 0
PrefixOnOk (Ok v) = IsPrefix v.0
PrefixOnOk (Err e) = Unit {0}

-- an answer that is the moved cursor alone
abbrev pub moved_of : Result Cursor Refusal → Result (Unit {0} × Cursor) Refusal
moved_of (Ok c) = Ok (tt, c)
moved_of (Err e) = Err e
