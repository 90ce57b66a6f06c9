-- An operator without an operand ends after its code.
-- Assumes nothing.
use mathlib.Core.Path.{◌≡◌, sym, ap, ◌∙◌, subst}
use Prim.Native.Nat.{ℕ, ◌+◌}
use native.Mathlib.Omega.{arith}
use lib.ListN.{drop, get_or}
use Rattle.script_spec.specs.Base.{Bytes}
use Rattle.script_spec.specs.Tree as tree
use Rattle.script_spec.specs.Tree.{And, Bvadd, Bvlshr, Bvmul, Bvneg, Bvnego, Bvsaddo, Bvsdiv, Bvshl, Bvsle, Bvslt, Bvsmod, Bvsmulo, Bvsrem, Bvssubo, Bvsub, Bvudiv, Bvule, Bvult, Bvurem, Eq, Ite, Not, OptionGet, Or, SetInter, SetMember, SetSubset}
use Rattle.script_spec.specs.Fields.{got, Reader, pure, plain, operators, operator}
use Rattle.script_spec.proofs.Laws.{never}
use Rattle.script_spec.proofs.Readers.{got_rest, coded_inverse}
use Rattle.index.proofs.Readers.{◌&◌}
use Rattle.index_compare.specs.Machine.{operand_of}
use Rattle.index_compare.specs.declared.segments.Operand.{Operand}
use Rattle.index_compare.specs.declared.segments.Operand.TheVariants.{Byte, Word, Text, Elements, Function}
use mathlib.Core.Bool.{false}
use Rattle.std.specs.Prelude.{Option, None, Some}
use Rattle.std.specs.Option.{is_some}
use Rattle.index_compare.proofs.Agreement.{Each, each_at}

-- the reader of an operator that has no operand leaves what it was given
abbrev LeavesWhere : Option Operand → Reader (tree.Op ℕ) → Type 0
LeavesWhere c r = is_some c ≡ false → (s : Bytes) (o : tree.Op ℕ) (rest : Bytes) → r s ≡ got o rest → s ≡ rest

abbrev Leaves : ℕ → Reader (tree.Op ℕ) → Type 0
Leaves b r = LeavesWhere (operand_of b) r

bare : (o : tree.PlainOp) → LeavesWhere None (plain o)
unfolding plain pure
bare o a s x rest h = got_rest (tree.Plain o) x s rest h

with_operand : (r : Reader (tree.Op ℕ)) (operand : Operand) → LeavesWhere (Some operand) r
with_operand r operand a s x rest h = never cc

operators_leave : (count : ℕ) → Each Leaves 0 (operators count)
unfolding Each operators operand_of
operators_leave count =
    bare And & bare Bvadd & bare Bvlshr & bare Bvmul & bare Bvneg
    & bare Bvnego & bare Bvsaddo & bare Bvsdiv & bare Bvshl & bare Bvsle
    & bare Bvslt & bare Bvsmod & bare Bvsmulo & bare Bvsrem & bare Bvssubo
    & bare Bvsub & bare Bvudiv & bare Bvule & bare Bvult & bare Bvurem & bare Eq
    & with_operand _ Byte
    & bare Ite & bare Not & bare OptionGet & bare Or
    & with_operand _ Text
    & bare SetInter & bare SetMember & bare SetSubset
    & with_operand _ Elements
    & with_operand _ Function
    & with_operand _ Word
    & tt

pub bare_rest : (count : ℕ) (s : Bytes) {o : tree.Op ℕ} {rest : Bytes} → is_some (operand_of (get_or s 0 0)) ≡ false → operator count s ≡ got o rest → drop 1 s ≡ rest
unfolding operator
bare_rest count s {o} {rest} a h =
    let c = coded_inverse (operators count) s h in
    let code : c.code + 0 ≡ c.code = omega arith in
    let leaves : Leaves c.code c.reader = subst (λ (b : ℕ). Leaves b c.reader) code (each_at Leaves c.code 0 (operators count) (operators_leave count) c.has) in
    ap (λ (x : Bytes). drop 1 x) c.is ∙ leaves (ap (λ (x : Bytes). is_some (operand_of (get_or x 0 0))) (sym c.is) ∙ a) c.mid o rest c.reads
