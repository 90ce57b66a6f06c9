-- The marks: each kind's two bytes, and the reader that the definitions have for it.
-- Assumes nothing.
use Rattle.std.specs.Prelude.{◌≡◌, Option as Optional, None, Some}
use Rattle.std.proofs.Math.Option.{Option, none}
use Rattle.script_spec.specs.Base.{Bytes, bytes, lookup}
use Rattle.script_spec.specs.Fields.{Reader, Entry, Earlier, marks}
use Rattle.read_record.specs.declared.mark.Kind.{Kind}
use Rattle.read_record.specs.declared.mark.Kind.TheVariants as kind

-- the mark of a kind
unfoldable pub mark : Kind → Bytes
mark kind.TB = bytes "TB"
mark kind.TS = bytes "TS"
mark kind.TV = bytes "TV"
mark kind.TO = bytes "TO"
mark kind.TC = bytes "TC"
mark kind.TE = bytes "TE"
mark kind.TX = bytes "TX"
mark kind.TR = bytes "TR"
mark kind.EN = bytes "EN"
mark kind.UF = bytes "UF"
mark kind.XV = bytes "XV"
mark kind.XB = bytes "XB"
mark kind.XN = bytes "XN"
mark kind.XS = bytes "XS"
mark kind.XE = bytes "XE"
mark kind.XX = bytes "XX"
mark kind.X0 = bytes "X0"
mark kind.X1 = bytes "X1"
mark kind.XC = bytes "XC"
mark kind.XR = bytes "XR"
mark kind.XA = bytes "XA"
mark kind.IN = bytes "IN"

-- bytes that are this kind's mark, or none of the marks
unfoldable pub MarkedAs : Bytes → Optional Kind → Type 0
MarkedAs s (Some k) = s ≡ mark k
MarkedAs s None = (e : Earlier) → lookup s (marks e) ≡ none

-- the kind of two bytes: they are its mark, and there is no kind exactly where they are no mark
pub record Marked (s : Bytes) (k : Optional Kind) : Type 0 where
  pub is : MarkedAs s k

-- the reader of a kind's mark
unfoldable pub reader_of : Earlier → Kind → Option (Reader Entry)
reader_of e k = lookup (mark k) (marks e)

-- the same, and no reader where there is no kind
unfoldable pub reader_if : Earlier → Optional Kind → Option (Reader Entry)
reader_if e None = none
reader_if e (Some k) = reader_of e k
