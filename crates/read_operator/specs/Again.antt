-- Reading a field of an accepted body again, with no test.
-- Assumes nothing.
use Rattle.std.specs.Prelude.{◌≡◌, ℕ, ◌^◌, Bool, true, false, Result, Ok, Err, drop}
use Rattle.script_spec.specs.Base.{Bytes}
use Rattle.script_spec.specs.Fields.{got, Reader}
use Rattle.refusal.specs.declared.Refusal.{Refusal}
use Rattle.read_field.specs.Takes.{Takes}
use Rattle.read_field.specs.declared.Cursor.{Cursor}

-- from a cursor c what was answered is a value with these bytes after it
abbrev pub Gives : {A : Type 0} → Cursor → A → Bytes → Result (A × Cursor) Refusal → Type 0
Gives c a rest (Ok v) = got v.0 (drop v.1.at c.body.now) ≡ got a rest
Gives c a rest (Err e) = ⊥

-- a moved cursor has the same body
abbrev pub Moves : {A : Type 0} → Cursor → Result (A × Cursor) Refusal → Type 0
Moves c (Ok v) = v.1.body ≡ c.body
Moves c (Err e) = Unit {0}

-- a reader takes a field: a moved cursor has the same body, and where the reader refuses nothing, what is answered is what it makes of
-- the rest of the body
pub record TakesAgain {A : Type 0} (reader : Reader A) (c : Cursor) (r : Result (A × Cursor) Refusal) : Type 0 where
  pub body : Moves c r
  pub go : (a : A) (rest : Bytes) → reader (drop c.at c.body.now) ≡ got a rest → Gives c a rest r

-- a field that is tested, or not
unfoldable pub Taken : {A : Type 0} → Bool → Reader A → Cursor → Result (A × Cursor) Refusal → Type 0
Taken true reader c r = Takes reader c r
Taken false reader c r = TakesAgain reader c r

pub record TakesBy {A : Type 0} (tested : Bool) (reader : Reader A) (c : Cursor) (r : Result (A × Cursor) Refusal) : Type 0 where
  pub is : Taken tested reader c r

-- how many functions there are: where none is tested, as many as there are numbers
unfoldable pub count : Bool → ℕ → ℕ
count true funs = funs
count false funs = 2 ^ 32
