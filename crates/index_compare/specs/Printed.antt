-- The segments of an entry: how each field of a record is written.
-- Assumes nothing.
use Rattle.std.specs.Prelude.{ℕ, zero, suc, ◌/◌, ◌%◌, Bool, true, false, List, [], ◌∷◌, ◌++◌, map, length}
use Rattle.script_spec.specs.Base.{Bytes, collect}
use Rattle.script_spec.specs.Tree.{And, Bvadd, Bvlshr, Bvmul, Bvneg, Bvnego, Bvsaddo, Bvsdiv, Bvshl, Bvsle, Bvslt, Bvsmod, Bvsmulo, Bvsrem, Bvssubo, Bvsub, Bvudiv, Bvule, Bvult, Bvurem, Eq}
use Rattle.script_spec.specs.Tree.{Op, PlainOp, Plain, Ext, RecordGet, StringLike, Uuf, ZeroExtend, Ite, Not, OptionGet, Or, SetInter, SetMember, SetSubset}
use Rattle.script_spec.specs.Tree.{ExtOp, DatetimeOfBitVec, DatetimeVal, DecimalVal, DurationOfBitVec, DurationVal, IpaddrAddrV4, IpaddrAddrV6, IpaddrIsV4, IpaddrPrefixV4, IpaddrPrefixV6}
use Rattle.script_spec.specs.Tree.{TypeMark, Bool·, String·, Option·, Set·, BitVec·, Declared, entity, extension, record_of, ExtType, IPAddr, Decimal, Datetime, Duration, Value, V4, V6, DecimalV, DatetimeV, DurationV}
use Rattle.script_spec.specs.Tree.{TermMark, Var, BoolLit, BitVecLit, StringLit, Entity, ExtLit, None, Some, Set, Record, App}
use Rattle.script_spec.specs.Fields.{Entry, type, enum, func, term, input}
use Rattle.read_operator.specs.Codes.{ext_code, record_get_code, string_like_code, uuf_code, zero_extend_code}
use Rattle.index_compare.specs.Segment.{Segment, plain, type_ref, fun_ref, term_ref}

-- k bytes of a number, low byte first
unfoldable pub low_bytes : ℕ → ℕ → Bytes
low_bytes zero n = []
low_bytes (suc k) n = n % 256 ∷ low_bytes k (n / 256)

-- k bytes of a number, high byte first, in front of `rest`
unfoldable pub high_bytes : ℕ → ℕ → Bytes → Bytes
high_bytes zero n rest = rest
high_bytes (suc k) n rest = high_bytes k (n / 256) (n % 256 ∷ rest)

-- a text: its byte count and its bytes
unfoldable pub text_bytes : Bytes → Bytes
text_bytes s = low_bytes 4 (length s) ++ s

-- a count and items
unfoldable pub list_bytes : {A : Type 0} → (A → Bytes) → List A → Bytes
list_bytes out l = low_bytes 4 (length l) ++ collect out l

-- ---- codes

-- the code of a Boolean
unfoldable pub bool_code : Bool → ℕ
bool_code false = 0
bool_code true = 1

-- the code of an extension type
unfoldable pub ext_type_code : ExtType → ℕ
ext_type_code IPAddr = 0
ext_type_code Decimal = 1
ext_type_code Datetime = 2
ext_type_code Duration = 3

-- the code of an extension operator
unfoldable pub ext_op_code : ExtOp → ℕ
ext_op_code DatetimeOfBitVec = 0
ext_op_code DatetimeVal = 1
ext_op_code DecimalVal = 2
ext_op_code DurationOfBitVec = 3
ext_op_code DurationVal = 4
ext_op_code IpaddrAddrV4 = 5
ext_op_code IpaddrAddrV6 = 6
ext_op_code IpaddrIsV4 = 7
ext_op_code IpaddrPrefixV4 = 8
ext_op_code IpaddrPrefixV6 = 9

-- the code of an operator that has no operand
unfoldable pub plain_op_code : PlainOp → ℕ
plain_op_code And = 0
plain_op_code Bvadd = 1
plain_op_code Bvlshr = 2
plain_op_code Bvmul = 3
plain_op_code Bvneg = 4
plain_op_code Bvnego = 5
plain_op_code Bvsaddo = 6
plain_op_code Bvsdiv = 7
plain_op_code Bvshl = 8
plain_op_code Bvsle = 9
plain_op_code Bvslt = 10
plain_op_code Bvsmod = 11
plain_op_code Bvsmulo = 12
plain_op_code Bvsrem = 13
plain_op_code Bvssubo = 14
plain_op_code Bvsub = 15
plain_op_code Bvudiv = 16
plain_op_code Bvule = 17
plain_op_code Bvult = 18
plain_op_code Bvurem = 19
plain_op_code Eq = 20
plain_op_code Ite = 22
plain_op_code Not = 23
plain_op_code OptionGet = 24
plain_op_code Or = 25
plain_op_code SetInter = 27
plain_op_code SetMember = 28
plain_op_code SetSubset = 29

-- ---- values and operators

-- an extension value: its code and its bytes
unfoldable pub value_bytes : Value → Bytes
value_bytes (V4 a p) = 0 ∷ (high_bytes 4 a [] ++ (p ∷ []))
value_bytes (V6 a p) = 1 ∷ (high_bytes 16 a [] ++ (p ∷ []))
value_bytes (DecimalV n) = 2 ∷ low_bytes 8 n
value_bytes (DatetimeV n) = 3 ∷ low_bytes 8 n
value_bytes (DurationV n) = 4 ∷ low_bytes 8 n

-- an operator: its code and its operand
unfoldable pub op_segments : Op ℕ → List Segment
op_segments (Plain o) = plain (plain_op_code o ∷ []) ∷ []
op_segments (Ext o) = plain (ext_code ∷ []) ∷ plain (ext_op_code o ∷ []) ∷ []
op_segments (RecordGet a) = plain (record_get_code ∷ []) ∷ plain (text_bytes a) ∷ []
op_segments (StringLike p) = plain (string_like_code ∷ []) ∷ plain (list_bytes (low_bytes 4) p) ∷ []
op_segments (Uuf f) = plain (uuf_code ∷ []) ∷ fun_ref f ∷ []
op_segments (ZeroExtend n) = plain (zero_extend_code ∷ []) ∷ plain (low_bytes 4 n) ∷ []

-- ---- records

-- texts, each with a reference
unfoldable pub named_references : (ℕ → Segment) → List Bytes → List ℕ → List Segment
named_references wrap [] rs = map wrap rs
named_references wrap (a ∷ as') [] = plain (text_bytes a) ∷ named_references wrap as' []
named_references wrap (a ∷ as') (r ∷ rs) = plain (text_bytes a) ∷ wrap r ∷ named_references wrap as' rs

-- a count in front of items
unfoldable pub count_before : {A : Type 0} → List A → List Segment → List Segment
count_before l items = plain (low_bytes 4 (length l)) ∷ items

-- the segments of a type by its mark and its references
unfoldable pub type_segments : TypeMark → List ℕ → List Segment
type_segments Bool· rs = plain [] ∷ map type_ref rs
type_segments String· rs = plain [] ∷ map type_ref rs
type_segments Option· rs = map type_ref rs
type_segments Set· rs = map type_ref rs
type_segments (BitVec· n) rs = plain (low_bytes 4 n) ∷ map type_ref rs
type_segments (Declared (entity a)) rs = plain (text_bytes a) ∷ map type_ref rs
type_segments (Declared (extension x)) rs = plain (ext_type_code x ∷ []) ∷ map type_ref rs
type_segments (Declared (record_of names)) rs = count_before names (named_references type_ref names rs)

-- the segments of a term by its mark and its references
unfoldable pub term_segments : TermMark ℕ ℕ → List ℕ → List Segment
term_segments (Var id n) rs = plain (text_bytes id) ∷ type_ref n ∷ map term_ref rs
term_segments (BoolLit b) rs = plain (bool_code b ∷ []) ∷ map term_ref rs
term_segments (BitVecLit n v) rs = plain (low_bytes 4 n ++ low_bytes 16 v) ∷ map term_ref rs
term_segments (StringLit s) rs = plain (text_bytes s) ∷ map term_ref rs
term_segments (Entity n id) rs = type_ref n ∷ plain (text_bytes id) ∷ map term_ref rs
term_segments (ExtLit v) rs = plain (value_bytes v) ∷ map term_ref rs
term_segments (None n) rs = type_ref n ∷ map term_ref rs
term_segments Some rs = map term_ref rs
term_segments (Set n) rs = type_ref n ∷ count_before rs (map term_ref rs)
term_segments (Record names) rs = count_before names (named_references term_ref names rs)
term_segments (App n op) rs = type_ref n ∷ (op_segments op ++ count_before rs (map term_ref rs))

-- the segments of a record
unfoldable pub segments_of : Entry → List Segment
segments_of (type m rs) = type_segments m rs
segments_of (enum n ms) = plain (text_bytes n ++ list_bytes text_bytes ms) ∷ []
segments_of (func id a r) = plain (text_bytes id) ∷ type_ref a ∷ type_ref r ∷ []
segments_of (term m rs) = term_segments m rs
segments_of (input n) = term_ref n ∷ []
