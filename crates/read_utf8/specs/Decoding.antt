-- Code points one by one: what a text starts with, what a cursor finds, and the code points of any bytes.
-- Assumes nothing.
use Rattle.std.specs.Prelude.{◌≡◌, ℕ, zero, suc, ◌+◌, ◌-◌, ◌*◌, ◌^◌, ◌≤◌, Bool, true, false, List, [], ◌∷◌, eqb, ltb, length, drop, Option, None, Some, Result, Ok, Err}
use Rattle.script_spec.specs.Base.{Bytes, between}
use Rattle.read_utf8.specs.declared.CodePoints.{CodePoints}
use Rattle.read_utf8.specs.declared.Malformed.{Malformed}

-- what a text starts with: nothing, bytes that are not UTF-8, or a code point and the number of its bytes
pub data First : Type 0 where
  nothing : First
  malformed : First
  point : ℕ → ℕ → First

-- the same after one more byte of the code point
unfoldable pub longer : First → First
longer nothing = nothing
longer malformed = malformed
longer (point v k) = point v (suc k)

-- one of two numbers by a test
abbrev pub choose : Bool → ℕ → ℕ → ℕ
choose true x y = x
choose false x y = y

-- the rest of a code point: `more` bytes are to come, the next of them from `low` to `high`, and `value` is made of its bits
-- so far
unfoldable pub follow : ℕ → ℕ → ℕ → ℕ → Bytes → First
follow zero low high value s = point value 0
follow (suc more) low high value [] = malformed
follow (suc more) low high value (b ∷ s) =
    elim (between low high b) [
      | true ↦ longer (follow more 128 191 (value * 64 + (b - 128)) s)
      | false ↦ malformed
    ]

-- the bytes after a first byte of 128 or more
unfoldable pub led : ℕ → Bytes → First
led a s =
    elim (ltb a 194) [
      | true ↦ malformed
      | false ↦ elim (ltb a 224) [
        | true ↦ follow 1 128 191 (a - 192) s
        | false ↦ elim (ltb a 240) [
          | true ↦ follow 2 (choose (eqb a 224) 160 128) (choose (eqb a 237) 159 191) (a - 224) s
          | false ↦ elim (ltb a 245) [
            | true ↦ follow 3 (choose (eqb a 240) 144 128) (choose (eqb a 244) 143 191) (a - 240) s
            | false ↦ malformed
          ]
        ]
      ]
    ]

unfoldable pub first_point : Bytes → First
first_point [] = nothing
first_point (a ∷ s) = elim (ltb a 128) [ true ↦ point a 1 | false ↦ longer (led a s) ]

-- the code points of a text up to its end or to the first bytes that are not UTF-8; `fuel` is at least their number
unfoldable pub points_by : ℕ → Bytes → List ℕ
points_by zero s = []
points_by (suc fuel) s = elim (first_point s) [ nothing ↦ [] | malformed ↦ [] | point v k ↦ v ∷ points_by fuel (drop k s) ]

unfoldable pub points : Bytes → List ℕ
points s = points_by (length s) s

-- an answer in terms of the text that was left: nothing, bytes that are not UTF-8, or a code point that is so many bytes long
unfoldable pub next_said : ℕ → Option (Result ℕ Malformed) → First
next_said k None = nothing
next_said k (Some (Err m)) = malformed
next_said k (Some (Ok v)) = point v k

-- the place stays where the text ends, and does not move back elsewhere
abbrev pub NotBefore : ℕ → ℕ → Option (Result ℕ Malformed) → Type 0
NotBefore from to None = to ≡ from
NotBefore from to (Some r) = from ≤ to

-- what is answered is what is decoded at a place of the text c, which becomes d
pub record Decodes (f : First) (c d : CodePoints) (r : Option (Result ℕ Malformed)) : Type 0 where
  pub is : next_said (d.at - c.at) r ≡ f
  pub onward : NotBefore c.at d.at r
  pub text : d.text ≡ c.text

-- the bits so far leave room for those to come, and the next byte is one that continues a code point
pub record Small (more low high value : ℕ) : Type 0 where
  pub bits : (value + 1) * 64 ^ more ≤ 2097152
  pub from : 128 ≤ low
  pub to : high ≤ 191
