-- The command that a call is given, by the definitions.
-- Assumes nothing.
use mathlib.Core.List.{map, zip}
use Rattle.script_spec.specs.Command as command
use Rattle.smtlib_script.specs.declared.command.Command.{Command}
use Rattle.smtlib_script.specs.declared.command.Command.TheVariants.{Comment, DeclareDatatype, DeclareConst, DeclareFun, DefineFun, Assert, SetLogic, SetOption, CheckSat, GetModel, Reset, Exit}

-- a command with its texts
unfoldable pub command_of : Command → command.Command
command_of (Comment text) = command.comment text.now
command_of (DeclareDatatype id params constructors) = command.declare_datatype id.now (map (λ x. x.now) params.now) (map (λ x. x.now) constructors.now)
command_of (DeclareConst id sort) = command.declare_const id.now sort.now
command_of (DeclareFun id args sort) = command.declare_fun id.now (map (λ x. x.now) args.now) sort.now
command_of (DefineFun id names sorts sort body) = command.define_fun id.now (zip (map (λ x. x.now) names.now) (map (λ x. x.now) sorts.now)) sort.now body.now
command_of (Assert body) = command.assert_that body.now
command_of (SetLogic logic) = command.set_logic logic.now
command_of (SetOption option value) = command.set_option option.now value.now
command_of CheckSat = command.check_sat
command_of GetModel = command.get_model
command_of Reset = command.reset
command_of Exit = command.exit
