-- `write_terms::applications::put_head` meets its contract: each operator by its arm.
-- Assumes nothing.
use Rattle.script_spec.specs.Base.{bytes}
use Rattle.write_terms.proofs.HeadLaws.{head_selector, head_function, head_extend, head_symbol}
use Rattle.write_terms.proofs.applications.put_head.Goals as goal

pub returns-in-RecordGet : goal.returns-in-RecordGet
returns-in-RecordGet c = head_selector c.in-RecordGet.is c.put_selector.ensures

pub returns-in-Uuf : goal.returns-in-Uuf
unfolding bytes
returns-in-Uuf c = head_function c.get-name.result c.in-Uuf.is c.get-name.ensures c.put_name.ensures

pub returns-in-ZeroExtend : goal.returns-in-ZeroExtend
returns-in-ZeroExtend c = head_extend c.in-ZeroExtend.is c.put_zero_extend.ensures

pub returns-in_default : goal.returns-in_default
returns-in_default c = head_symbol (record { not_get = c.in_default.not-RecordGet; not_function = c.in_default.not-Uuf; not_extend = c.in_default.not-ZeroExtend }) c.put_symbol.ensures
