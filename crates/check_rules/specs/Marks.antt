-- The mark of an entry.
-- Assumes nothing.
use Rattle.script_spec.specs.Base.{Bytes, bytes}
use Rattle.script_spec.specs.Tree.{TypeMark, Bool·, String·, Option·, Set·, BitVec·, Declared, Datatype, entity, extension, record_of}
use Rattle.script_spec.specs.Tree.{TermMark, Var, BoolLit, BitVecLit, StringLit, Entity, ExtLit, None, Some, Set, Record, App}
use Rattle.std.specs.Prelude.{ℕ}
use Rattle.script_spec.specs.Fields.{Entry, type, enum, func, term, input}

-- the mark of a declared type
unfoldable pub datatype_bytes : Datatype → Bytes
datatype_bytes (entity n) = bytes "TE"
datatype_bytes (extension x) = bytes "TX"
datatype_bytes (record_of names) = bytes "TR"

-- the mark of a type
unfoldable pub type_bytes : TypeMark → Bytes
type_bytes Bool· = bytes "TB"
type_bytes String· = bytes "TS"
type_bytes Option· = bytes "TO"
type_bytes Set· = bytes "TC"
type_bytes (BitVec· n) = bytes "TV"
type_bytes (Declared d) = datatype_bytes d

-- the mark of a term
unfoldable pub term_bytes : TermMark ℕ ℕ → Bytes
term_bytes (Var id n) = bytes "XV"
term_bytes (BoolLit b) = bytes "XB"
term_bytes (BitVecLit n v) = bytes "XN"
term_bytes (StringLit s) = bytes "XS"
term_bytes (Entity n id) = bytes "XE"
term_bytes (ExtLit v) = bytes "XX"
term_bytes (None n) = bytes "X0"
term_bytes Some = bytes "X1"
term_bytes (Set n) = bytes "XC"
term_bytes (Record names) = bytes "XR"
term_bytes (App n op) = bytes "XA"

-- the two bytes of an entry's mark
unfoldable pub mark_of : Entry → Bytes
mark_of (type m rs) = type_bytes m
mark_of (enum n ms) = bytes "EN"
mark_of (func id a r) = bytes "UF"
mark_of (term m rs) = term_bytes m
mark_of (input n) = bytes "IN"
