-- `write_types::functions::FunDeclarationLine::write` meets its contract, piece by piece.
-- Assumes nothing.
use Rattle.script_spec.specs.Base.{bytes}
use Rattle.smtlib_script.specs.Opened.{opened}
use Rattle.write_types.proofs.FunctionLaws.{spells_fun}
use Rattle.write_types.proofs.functions.FunDeclarationLine.write.Goals as goal

pub returns : goal.returns
unfolding bytes opened
returns c = spells_fun _ c.fun_at-fun.ensures c.get.ensures c.put_word.ensures c.put_name.ensures c.put.ensures c.put_sort.ensures c.put-2.ensures c.put_sort-2.ensures c.put-3.ensures
