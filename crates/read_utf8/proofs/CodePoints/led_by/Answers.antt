-- The first byte's range decides how `led` goes on.
-- Assumes nothing.
use mathlib.Core.Path.{◌≡◌}
use lib.Dec.{eqb}
use Rattle.read_utf8.specs.Decoding.{choose}
use Rattle.read_utf8.proofs.Steps.{led_low, led_two, led_three, led_four, led_high, chosen_then, chosen_else}
use Rattle.read_utf8.proofs.CodePoints.led_by.Goals as goal
use Rattle.read_utf8.proofs.CodePoints.led_by.Goals.{then-a-eq224, else-a-eq224, then-a-eq237, else-a-eq237, then-a-eq240, else-a-eq240, then-a-eq244, else-a-eq244}

pub returns-then-a-lt194 : goal.returns-then-a-lt194
returns-then-a-lt194 c = led_low _ _ c.if-a-lt194.true

pub returns-then-a-lt224 : goal.returns-then-a-lt224
returns-then-a-lt224 c = led_two _ _ c.if-a-lt194.false c.if-a-lt224.true c.continued.ensures

low_of_three : (c : goal.After-continued-then-a-lt240) → c.if-a-eq224.low ≡ choose (eqb c.args.a 224) 160 128
low_of_three c = elim c.if-a-eq224.branch [ then-a-eq224 w ↦ chosen_then 160 128 w.if-a-eq224.true w.low-is | else-a-eq224 w ↦ chosen_else 160 128 w.if-a-eq224.false w.low-is ]

high_of_three : (c : goal.After-continued-then-a-lt240) → c.if-a-eq237.high ≡ choose (eqb c.args.a 237) 159 191
high_of_three c = elim c.if-a-eq237.branch [ then-a-eq237 w ↦ chosen_then 159 191 w.if-a-eq237.true w.high-is | else-a-eq237 w ↦ chosen_else 159 191 w.if-a-eq237.false w.high-is ]

pub returns-then-a-lt240 : goal.returns-then-a-lt240
returns-then-a-lt240 c = led_three _ _ _ _ c.if-a-lt224.false c.if-a-lt240.true (low_of_three c) (high_of_three c) c.continued-then-a-lt240.ensures

low_of_four : (c : goal.After-continued-then-a-lt245) → c.if-a-eq240.low ≡ choose (eqb c.args.a 240) 144 128
low_of_four c = elim c.if-a-eq240.branch [ then-a-eq240 w ↦ chosen_then 144 128 w.if-a-eq240.true w.low-is | else-a-eq240 w ↦ chosen_else 144 128 w.if-a-eq240.false w.low-is ]

high_of_four : (c : goal.After-continued-then-a-lt245) → c.if-a-eq244.high ≡ choose (eqb c.args.a 244) 143 191
high_of_four c = elim c.if-a-eq244.branch [ then-a-eq244 w ↦ chosen_then 143 191 w.if-a-eq244.true w.high-is | else-a-eq244 w ↦ chosen_else 143 191 w.if-a-eq244.false w.high-is ]

pub returns-then-a-lt245 : goal.returns-then-a-lt245
returns-then-a-lt245 c = led_four _ _ _ _ c.if-a-lt240.false c.if-a-lt245.true (low_of_four c) (high_of_four c) c.continued-then-a-lt245.ensures

pub returns : goal.returns
returns c = led_high _ _ c.if-a-lt245.false
