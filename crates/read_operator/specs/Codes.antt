-- The codes of operators that are asked for by their numbers: where the ranges of codes begin, and the operators with an operand.
-- Assumes nothing.
use Rattle.std.specs.Prelude.{ℕ}

-- how many extension operators there are: their codes are below this
abbrev pub ext_count : ℕ
ext_count = 10

-- `Bvsmod`, at which the second of four ranges of codes begins
abbrev pub bvsmod_code : ℕ
bvsmod_code = 11

-- `Ext`, at which the third begins
abbrev pub ext_code : ℕ
ext_code = 21

-- `RecordGet`, at which the last begins
abbrev pub record_get_code : ℕ
record_get_code = 26

-- `StringLike`
abbrev pub string_like_code : ℕ
string_like_code = 30

-- `Uuf`
abbrev pub uuf_code : ℕ
uuf_code = 31

-- `ZeroExtend`
abbrev pub zero_extend_code : ℕ
zero_extend_code = 32
