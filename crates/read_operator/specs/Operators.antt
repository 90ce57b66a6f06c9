-- What each operator of the code is, with its operand, and what its answers tell.
-- Assumes nothing.
use Rattle.std.specs.Prelude.{◌≡◌, ℕ, List, [], ◌∷◌, Result, Ok, Err}
use Rattle.std.proofs.Math.Option.{some}
use Rattle.script_spec.specs.Base.{at}
use Rattle.script_spec.specs.Tree as tree
use Rattle.script_spec.specs.Fields.{Reader, ◌>>=◌, pure, ext_op, text, list, element, ref, u32, operators}
use Rattle.refusal.specs.declared.Refusal.{Refusal}
use Rattle.read_field.specs.declared.Cursor.{Cursor}
use Rattle.read_field.specs.Reads.{chosen}
use Rattle.read_field.specs.Takes.{TakesTo}
use Rattle.read_operator.specs.declared.ExtOp.{ExtOp}
use Rattle.read_operator.specs.declared.ExtOp.TheVariants as ext
use Rattle.read_field.specs.Words.{elements}
use Rattle.read_operator.specs.declared.Op.{Op}
use Rattle.read_operator.specs.declared.Op.TheVariants as op

-- an extension operator
unfoldable pub ext_of : ExtOp → tree.ExtOp
ext_of ext.DatetimeOfBitVec = tree.DatetimeOfBitVec
ext_of ext.DatetimeVal = tree.DatetimeVal
ext_of ext.DecimalVal = tree.DecimalVal
ext_of ext.DurationOfBitVec = tree.DurationOfBitVec
ext_of ext.DurationVal = tree.DurationVal
ext_of ext.IpaddrAddrV4 = tree.IpaddrAddrV4
ext_of ext.IpaddrAddrV6 = tree.IpaddrAddrV6
ext_of ext.IpaddrIsV4 = tree.IpaddrIsV4
ext_of ext.IpaddrPrefixV4 = tree.IpaddrPrefixV4
ext_of ext.IpaddrPrefixV6 = tree.IpaddrPrefixV6

-- the extension operators by their codes
unfoldable pub ext_ops : List tree.ExtOp
ext_ops = tree.DatetimeOfBitVec ∷ tree.DatetimeVal ∷ tree.DecimalVal ∷ tree.DurationOfBitVec ∷ tree.DurationVal ∷ tree.IpaddrAddrV4 ∷ tree.IpaddrAddrV6 ∷ tree.IpaddrIsV4 ∷ tree.IpaddrPrefixV4 ∷ tree.IpaddrPrefixV6 ∷ []

-- an extension operator that has this code
pub record IsExt (code : ℕ) (x : ExtOp) : Type 0 where
  pub is : at code ext_ops ≡ some (ext_of x)

-- an operator with its operand
unfoldable pub op_of : Op → tree.Op ℕ
op_of op.And = tree.Plain tree.And
op_of op.Bvadd = tree.Plain tree.Bvadd
op_of op.Bvlshr = tree.Plain tree.Bvlshr
op_of op.Bvmul = tree.Plain tree.Bvmul
op_of op.Bvneg = tree.Plain tree.Bvneg
op_of op.Bvnego = tree.Plain tree.Bvnego
op_of op.Bvsaddo = tree.Plain tree.Bvsaddo
op_of op.Bvsdiv = tree.Plain tree.Bvsdiv
op_of op.Bvshl = tree.Plain tree.Bvshl
op_of op.Bvsle = tree.Plain tree.Bvsle
op_of op.Bvslt = tree.Plain tree.Bvslt
op_of op.Bvsmod = tree.Plain tree.Bvsmod
op_of op.Bvsmulo = tree.Plain tree.Bvsmulo
op_of op.Bvsrem = tree.Plain tree.Bvsrem
op_of op.Bvssubo = tree.Plain tree.Bvssubo
op_of op.Bvsub = tree.Plain tree.Bvsub
op_of op.Bvudiv = tree.Plain tree.Bvudiv
op_of op.Bvule = tree.Plain tree.Bvule
op_of op.Bvult = tree.Plain tree.Bvult
op_of op.Bvurem = tree.Plain tree.Bvurem
op_of op.Eq = tree.Plain tree.Eq
op_of (op.Ext x) = tree.Ext (ext_of x)
op_of op.Ite = tree.Plain tree.Ite
op_of op.Not = tree.Plain tree.Not
op_of op.OptionGet = tree.Plain tree.OptionGet
op_of op.Or = tree.Plain tree.Or
op_of (op.RecordGet p) = tree.RecordGet p.now
op_of op.SetInter = tree.Plain tree.SetInter
op_of op.SetMember = tree.Plain tree.SetMember
op_of op.SetSubset = tree.Plain tree.SetSubset
op_of (op.StringLike p) = tree.StringLike (elements p.now)
op_of (op.Uuf n) = tree.Uuf n
op_of (op.ZeroExtend n) = tree.ZeroExtend n

-- an answer with the operator of the definitions
abbrev pub op_read : Result (Op × Cursor) Refusal → Result (tree.Op ℕ × Cursor) Refusal
op_read (Ok v) = Ok (op_of v.0, v.1)
op_read (Err e) = Err e

-- an operator that has this code and no operand, at any place of any body
pub record Operand (code : ℕ) (o : Op) : Type 0 where
  pub go : (funs : ℕ) (c : Cursor) → TakesTo (chosen (operators funs) code) c c (op_of o)

-- an extension operator, by its code
unfoldable pub ext_operator : Reader (tree.Op ℕ)
ext_operator = do o ← ext_op; pure (tree.Ext o)

-- `RecordGet`, by the name of an attribute
unfoldable pub record_get_operand : Reader (tree.Op ℕ)
record_get_operand = do a ← text; pure (tree.RecordGet a)

-- `StringLike`, by its pattern
unfoldable pub string_like : Reader (tree.Op ℕ)
string_like = do p ← list element; pure (tree.StringLike p)

-- `Uuf`, by the number of an earlier function
unfoldable pub uninterpreted : ℕ → Reader (tree.Op ℕ)
uninterpreted funs = do f ← ref funs; pure (tree.Uuf f)

-- `ZeroExtend`, by a number of bits
unfoldable pub zero_extend : Reader (tree.Op ℕ)
zero_extend = do n ← u32; pure (tree.ZeroExtend n)
