-- What a run of writes leaves in a buffer and in its place, and what a call that writes answers.
-- Assumes nothing.
use Rattle.std.specs.Prelude.{◌≡◌, [], ◌∷◌, ◌++◌, true, false, ℕ, zero, suc, ◌+◌, ◌-◌, min, leb, length, take, replicate, Result, Ok, Err}
use Rattle.script_spec.specs.Base.{Bytes, Answer, accepted, refused}
use Rattle.script_spec.specs.Command.{left}
use Rattle.refusal.specs.declared.Refusal.{Refusal}
use Rattle.refusal.specs.Numbers.{number}

-- a buffer with bytes laid over it from its start: at most `limit` of them, and cut where the buffer ends
unfoldable pub laid : ℕ → Bytes → Bytes → Bytes
laid zero o s = o
laid (suc limit) [] s = []
laid (suc limit) (x ∷ o) [] = x ∷ o
laid (suc limit) (x ∷ o) (b ∷ s) = b ∷ laid limit o s

-- the length of the longest slice, 2^63 - 1
abbrev pub longest : ℕ
longest = 9223372036854775807

-- the limit that holds: one above the length of the longest slice counts as that length
abbrev pub ceiling : ℕ → ℕ
ceiling limit = min limit longest

-- the place after n more bytes: one past the limit where they do not fit
abbrev pub moved : ℕ → ℕ → ℕ → ℕ
moved at n limit = min (at + n) (limit + 1)

-- `out` is o with the bytes a laid over it, and `at` is the place after them; all places past the limit are alike
pub record Wrote (limit : ℕ) (o out : Bytes) (at : ℕ) (a : Bytes) : Type 0 where
  pub holds : out ≡ laid (ceiling limit) o a
  pub place : min at (ceiling limit + 1) ≡ min (length a) (ceiling limit + 1)

-- a buffer with zeros from a place on
unfoldable pub cleared : Bytes → ℕ → Bytes
cleared x from = take from x ++ replicate (length x - from) 0

-- document 01's answer for each case
unfoldable pub answer : Result ℕ Refusal → Answer ℕ
answer (Ok n) = accepted n
answer (Err r) = refused (number r) 0 0

-- an answer by the length of what is written
unfoldable pub length_of : Answer Bytes → Answer ℕ
length_of (accepted s) = accepted (length s)
length_of (refused n p q) = refused n p q

-- a buffer x has become y and a call answers a, as an answer of document 01 has them
pub record Leaves (x y : Bytes) (a : Answer ℕ) (w : Answer Bytes) : Type 0 where
  pub says : a ≡ length_of w
  pub holds : y ≡ left w (length x)

-- the answer at the end of a run of writes whose limit is the buffer's length
unfoldable pub ending : Bytes → ℕ → Answer Bytes
ending x at = elim (leb at (length x)) [ true ↦ accepted (take at x) | false ↦ refused 20 0 0 ]
