-- `write_types::datatypes::put_members` meets its contract. The loop's invariant: what is left of the members, after those that were written,
-- makes the whole. Assumes nothing.
use Prim.Native.Nat.{◌-◌}
use Rattle.write_bytes.proofs.Loop.{Along}
use Rattle.write_types.specs.Members.{entity_symbol, members_text}
use Rattle.write_types.proofs.datatypes.put_members.Given as goal
use Rattle.refusal.specs.Numbers.{option_of}

abbrev pub invariant-loop-i : goal.invariant-loop-i
invariant-loop-i l = Along l.initial.w l.w (members_text (entity_symbol (option_of l.name)) l.i (l.n - l.i)) (members_text (entity_symbol (option_of l.name)) 0 l.n)
