-- `write_bitvec::reading::high_first` meets its contract: the loop keeps `High`.
-- Assumes nothing.
use native.Mathlib.Omega.{arith}
use mathlib.Core.Path.{◌∙◌, ap}
use lib.ListN.{length-take}
use lib.Seq.{get_or-take}
use Rattle.script_spec.specs.Fields.{high}
use Rattle.write_bitvec.proofs.Bytes.{byte_fits, high_next, high_end}
use Rattle.write_bitvec.proofs.reading.high_first.Goals as goal

pub overflow_mul-v : goal.overflow_mul-v
overflow_mul-v c =
    let l = c.loop-byte in
    record { fits = omega (arith, byte_fits l.v 0 l.byte-index (omega arith) (omega (arith, length-take c.min.result c.args.s.now, c.min.ensures)) l.invariant.0.small) }

pub overflow_add-v : goal.overflow_add-v
overflow_add-v c =
    let l = c.loop-byte in
    let few = length-take c.min.result c.args.s.now in
    let byte = c.from.ensures ∙ get_or-take c.min.result c.args.s.now l.byte-index 0 (omega (arith, few)) in
    record { fits = byte_fits l.v c.from.result l.byte-index (omega (arith, byte, c.type_inv.s l.byte-index)) (omega (arith, few, c.min.ensures)) l.invariant.0.small }

pub loop-byte-preserved : goal.loop-byte-preserved
loop-byte-preserved c =
    let l = c.loop-byte in
    let byte = c.from.ensures ∙ get_or-take c.min.result c.args.s.now l.byte-index 0 (omega (arith, length-take c.min.result c.args.s.now)) in
    (high_next _ _ _ _ l.invariant.0 c.loop-byte-test.true c.from.ensures (omega (arith, byte, c.type_inv.s l.byte-index)), l.invariant.1)

pub returns : goal.returns
returns c = high_end _ _ _ c.loop-byte.invariant.0 c.loop-byte-test.false ∙ ap (high 0) c.loop-byte.invariant.1
