-- The symbols of operators.
-- Assumes nothing.
use Rattle.std.specs.Prelude.{[]}
use Rattle.script_spec.specs.Base.{Bytes}
use Rattle.script_spec.specs.Tree.{Op, Plain, Ext, RecordGet, StringLike, Uuf, ZeroExtend}
use Rattle.script_spec.specs.Spelling.{plain_name, ext_op_name}
use Rattle.read_operator.specs.Operators.{op_of}
use Rattle.read_operator.specs.declared.Op as operator

-- the symbol of an operator without operand or of an extension operator; the others have none
unfoldable pub symbol : {F : Type 0} → Op F → Bytes
symbol (Plain o) = plain_name o
symbol (Ext o) = ext_op_name o
symbol (RecordGet a) = []
symbol (StringLike p) = []
symbol (Uuf f) = []
symbol (ZeroExtend n) = []

-- the symbol of an operator of the code
unfoldable pub symbol_of : operator.Op → Bytes
symbol_of o = symbol (op_of o)
