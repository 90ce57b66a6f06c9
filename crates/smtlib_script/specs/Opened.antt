-- The words that lines begin with.
-- Assumes nothing.
use Rattle.script_spec.specs.Base.{Bytes, bytes}
use Rattle.smtlib_script.specs.declared.line.Word.{Word}
use Rattle.smtlib_script.specs.declared.line.Word.TheVariants.{Comment, DeclareDatatype, DeclareConst, DeclareFun, DefineFun, Assert, SetLogic, SetOption}

-- a comment's two bytes; else a parenthesis, a command's word and a space
unfoldable pub opened : Word → Bytes
opened Comment = bytes "; "
opened DeclareDatatype = bytes "(declare-datatype "
opened DeclareConst = bytes "(declare-const "
opened DeclareFun = bytes "(declare-fun "
opened DefineFun = bytes "(define-fun "
opened Assert = bytes "(assert "
opened SetLogic = bytes "(set-logic "
opened SetOption = bytes "(set-option "
