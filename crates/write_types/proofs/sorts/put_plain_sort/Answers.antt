-- `write_types::sorts::put_plain_sort` meets its contract: each type by its arm.
-- Assumes nothing.
use Rattle.script_spec.specs.Base.{bytes}
use Rattle.write_bytes.proofs.Laws.{says, nothing}
use Rattle.write_types.specs.Sorts.{plain_sort}
use Rattle.write_types.proofs.SortLaws.{plain_none}
use Rattle.write_types.proofs.sorts.put_plain_sort.Goals as goal

pub returns-in-Bool : goal.returns-in-Bool
unfolding bytes plain_sort
returns-in-Bool c = says (rw c.in-Bool.is) c.put.ensures

pub returns-in-String : goal.returns-in-String
unfolding bytes plain_sort
returns-in-String c = says (rw c.in-String.is) c.put-in-String.ensures

pub returns-in-BitVec : goal.returns-in-BitVec
unfolding plain_sort
returns-in-BitVec c = says (rw c.in-BitVec.is) c.put_bitvec_sort.ensures

pub returns-in-Entity : goal.returns-in-Entity
unfolding bytes plain_sort
returns-in-Entity c = says (rw c.in-Entity.is) c.put_name.ensures

pub returns-in-Ext : goal.returns-in-Ext
unfolding plain_sort
returns-in-Ext c = says (rw c.in-Ext.is) c.put_ext_name.ensures

pub returns-in-Record : goal.returns-in-Record
unfolding bytes plain_sort
returns-in-Record c = says (rw c.in-Record.is) c.put_name-in-Record.ensures

pub returns-in-Option : goal.returns-in-Option
returns-in-Option c = says (plain_none _ _ c.in-Option.is) nothing
