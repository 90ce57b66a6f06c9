-- How texts are written: which bytes stand for themselves, in a string literal, in an id's comment and in a comment.
-- Assumes nothing.
use Rattle.std.specs.Prelude.{Bool, true, false, not, ◌||◌, List, [], ◌∷◌, ◌++◌, ℕ, ◌≤◌, T, eqb, length, take}
use Rattle.script_spec.specs.Base.{Bytes, between, all, collect}
use Rattle.script_spec.specs.Text.{brace, escape, debug_char, is_control}
use Rattle.write_text.specs.declared.Quotes.{Quotes}
use Rattle.write_text.specs.declared.Quotes.TheVariants.{Literal, Debug}
use Rattle.write_text.specs.declared.Place.{Place}
use Rattle.write_text.specs.declared.Place.TheVariants.{Comment}
use Rattle.write_text.specs.declared.Place.TheVariants as place

-- a code point as it is where it is printable, and else as `\u{h}`
unfoldable pub shown : ℕ → Bytes
shown c = elim (between 32 126 c) [ true ↦ c ∷ [] | false ↦ brace c ]

-- a code point inside a string literal, or as `{:?}` prints it
unfoldable pub spelling : Quotes → ℕ → Bytes
spelling Literal c = escape c
spelling Debug c = debug_char c

-- code points in double quotes
unfoldable pub quoted : Quotes → List ℕ → Bytes
quoted quotes cs = 34 ∷ (collect (spelling quotes) cs ++ (34 ∷ []))

-- a byte that is not written as it is: in a comment, or in double quotes
unfoldable pub stops : Place → ℕ → Bool
stops Comment b = is_control b
stops place.Quotes b = eqb b 34 || (eqb b 92 || not (between 32 126 b))

-- the first n bytes of s have no stop
pub record Passed (stop : ℕ → Bool) (s : Bytes) (n : ℕ) : Type 0 where
  pub inside : n ≤ length s
  pub keeps : T (all (λ b. not (stop b)) (take n s))
