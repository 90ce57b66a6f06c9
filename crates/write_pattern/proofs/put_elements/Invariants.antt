-- `write_pattern::put_elements` meets its contract: each turn writes one of the elements that are to be written, as long as the place is
-- not past the limit.
-- Assumes nothing.
use Rattle.script_spec.specs.Base.{collect}
use Rattle.write_bytes.proofs.Loop.{Along}
use Rattle.write_pattern.specs.Elements.{elements_in, spaced_element}
use Rattle.write_pattern.proofs.put_elements.Given as goal

abbrev pub invariant-loop-c : goal.invariant-loop-c
invariant-loop-c l = Along l.initial.w l.w (collect spaced_element (elements_in l.c-iterator)) (collect spaced_element (elements_in l.fn.elements))
