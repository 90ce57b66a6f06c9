-- What reading a field tells, and when that is what a reader of the definitions makes of the rest of the body.
-- Assumes nothing.
use Rattle.std.specs.Prelude.{◌≡◌, ℕ, zero, suc, ◌≤◌, Bool, not, ◌&&◌, ◌||◌, List, eqb, leb, ltb, length, drop}
use Rattle.script_spec.specs.Base.{Bytes, between, at}
use Rattle.script_spec.specs.Tree.{wildcard}
use Rattle.script_spec.specs.Fields.{Read, got, bad, Reader, ◌>>=◌, pure, ensure, present, byte}

-- a value and the place of the moved cursor, or the number of a refusal
pub data Told (A : Type 0) : Type 0 where
  value : A → ℕ → Told A
  refusal : ℕ → Told A

module _ {A : Type 0} where
  -- as a reader tells it: with the rest of the body
  unfoldable pub as_read : Bytes → Told A → Read A
  as_read body (value a to) = got a (drop to body)
  as_read body (refusal n) = bad n

  -- the cursor moves on and stays in a body of this length
  unfoldable pub Within : ℕ → ℕ → Told A → Type 0
  Within from size (value a to) = (from ≤ to) × (to ≤ size)
  Within from size (refusal n) = Unit {0}

-- what is told is what the reader makes of the body from this place on
pub record Reads {A : Type 0} (reader : Reader A) (body : Bytes) (from : ℕ) (t : Told A) : Type 0 where
  pub is : reader (drop from body) ≡ as_read body t
  pub within : from ≤ length body → Within from (length body) t

-- a reader whose value is not kept
unfoldable pub skim : {A : Type 0} → Reader A → Reader (Unit {0})
skim r = ◌>>=◌ r (λ a. pure tt)

-- a code below a bound
unfoldable pub code : ℕ → Reader ℕ
code bound = do
  b ← byte
  ensure 7 (ltb b bound) b

-- the reader that a table has for a code
unfoldable pub chosen : {A : Type 0} → List (Reader A) → ℕ → Reader A
chosen table n = ◌>>=◌ (present 7 (at n table)) (λ r. r)

-- a reader k times
unfoldable pub repeat : ℕ → Reader (Unit {0}) → Reader (Unit {0})
repeat zero r = pure tt
repeat (suc k) r = ◌>>=◌ r (λ u. repeat k r)

-- the test of a pattern's element: the wildcard or a code point
unfoldable pub is_element : ℕ → Bool
is_element c = eqb c wildcard || (leb c 1114111 && not (between 55296 57343 c))
