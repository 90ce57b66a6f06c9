-- Opens all definitions of a module by one name: under `unfolding Computes.text` the spellings of texts compute.
-- Assumes nothing.
use native.Mathlib.Decide.{ℕ_discrete}
use Rattle.script_spec.specs.Base
use Rattle.script_spec.specs.Utf8
use Rattle.script_spec.specs.Tree
use Rattle.script_spec.specs.Fields
use Rattle.script_spec.specs.File
use Rattle.script_spec.specs.Text
use Rattle.script_spec.specs.Command
use Rattle.script_spec.specs.Spelling
use Rattle.script_spec.specs.Walk
use Rattle.script_spec.specs.Listing
use Rattle.script_spec.specs.Smtlib
use Rattle.script_spec.specs.Faithful

unfoldable pub base : Unit {0}
unfolding Base.bytes Base.is_some Base.if_some Base.and_then Base.between Base.same Base.before Base.ascending Base.ends_line Base.place_from Base.empty Base.any Base.all Base.joined Base.place Base.first_of Base.at Base.list_dec Base.collect Base.firsts Base.seconds Base.lookup
base = tt

unfoldable pub utf8 : Unit {0}
unfolding Utf8.decode Utf8.code_points? Utf8.is_utf8 Utf8.code_points
utf8 = tt

unfoldable pub tree : Unit {0}
unfolding Tree.trees Tree.forest Tree.children Tree.depth Tree.datatype_mark Tree.datatype Tree.name_of_entity Tree.entity_name Tree.attributes_of Tree.attributes Tree.attribute Tree.enum_of Tree.wildcard Tree.ext_type_of Tree.type_from Tree.type_of Tree.bytes_dec Tree.ty_dec Tree.fun_dec Tree.mark_dec Tree.mark Tree.is_set Tree.itemwise Tree.any_order Tree.eq_ty Tree.eq_fun Tree.eq_tm Tree.negation_over Tree.negation_with Tree.negation Tree.is_falsehood Tree.is_variable ℕ_discrete
tree = tt

unfoldable pub fields : Unit {0}
unfolding Fields.◌>>=◌ Fields.pure Fields.ensure Fields.present Fields.times Fields.part Fields.byte Fields.low Fields.high Fields.number Fields.address Fields.u32 Fields.text Fields.list Fields.ref Fields.pair Fields.width Fields.element Fields.prefix Fields.coded Fields.ext_type Fields.ext_op Fields.value Fields.plain Fields.operators Fields.operator Fields.entity_ref Fields.leaf Fields.marks Fields.is_typed Fields.untyped Fields.untyped_mark Fields.final_type Fields.with_type Fields.whole
fields = tt

unfoldable pub file : Unit {0}
unfolding File.types File.funs File.terms File.inputs File.enums File.members File.type_at File.fun_at File.term_at File.named_op File.named_mark File.named File.written File.earlier File.distinct File.needs_arguments File.list_rules File.rules File.broken File.kept File.judged File.next_record File.records File.checked
file = tt

unfoldable pub text : Unit {0}
unfolding Text.digit Text.digits Text.decimal Text.hex Text.brace Text.escape_by Text.escape Text.escaped Text.literal Text.is_control Text.space_if Text.blanked Text.begun Text.cut_after Text.one_line Text.debug_char Text.debug
text = tt

unfoldable pub command : Unit {0}
unfolding Command.spaced Command.headed Command.listed Command.constructor_list Command.datatype_body Command.spelled Command.line Command.script Command.given Command.fitting Command.command_written Command.left
command = tt

unfoldable pub spelling : Unit {0}
unfolding Spelling.ext_name Spelling.bit_vec_sort Spelling.datatype_sort Spelling.sort_from Spelling.sort Spelling.plain_name Spelling.ext_op_name Spelling.bit_vec Spelling.as_sort Spelling.prefix_by Spelling.prefix_length Spelling.ext_value Spelling.element_by Spelling.pattern_element Spelling.pattern Spelling.member_name Spelling.attribute_name Spelling.selector_by Spelling.selector Spelling.application Spelling.negated Spelling.member_by Spelling.entity_by Spelling.set_value Spelling.record_value Spelling.body_over Spelling.body Spelling.inlined Spelling.atom Spelling.option_declaration Spelling.numbered_from Spelling.entity_constructors Spelling.record_constructor Spelling.ext_constructors Spelling.constructors Spelling.type_declaration Spelling.entity_comment Spelling.type_comment Spelling.fun_declaration
spelling = tt

unfoldable pub walk : Unit {0}
unfolding Walk.start Walk.enter_type Walk.enter_fun Walk.enter_term Walk.write Walk.numbered Walk.letter Walk.type_name Walk.names Walk.◌>>◌ Walk.unless Walk.refuse_unless Walk.is_low Walk.first_high Walk.refuse_high Walk.writing Walk.declare_type Walk.encode_type Walk.declare_function Walk.encode_uuf Walk.enter Walk.declare_var Walk.define_term Walk.define_entity Walk.record_get Walk.operator_step Walk.define_app Walk.encode_new Walk.encode_term Walk.encode_inputs Walk.assertions Walk.is_term Walk.first_equal Walk.encoding Walk.encoded Walk.has_position Walk.position_words Walk.printed Walk.termscript
walk = tt

unfoldable pub listing : Unit {0}
unfolding Listing.only Listing.sets_in Listing.sets_of Listing.stand_in Listing.in_order_of Listing.first_listing Listing.listed Listing.as_listed
listing = tt

unfoldable pub smtlib : Unit {0}
unfolding Smtlib.next Smtlib.outside_comment Smtlib.uncommented Smtlib.word_end Smtlib.separator Smtlib.step_outside Smtlib.step Smtlib.final Smtlib.tokens_from Smtlib.tokens Smtlib.flat Smtlib.is_zero Smtlib.closed Smtlib.depth_after Smtlib.ended Smtlib.read_on Smtlib.last_command Smtlib.commands_from Smtlib.commands_of Smtlib.byte_unless Smtlib.undoubled Smtlib.hex_digit Smtlib.hex_run Smtlib.braced Smtlib.escape_from Smtlib.escape_at Smtlib.unescaped Smtlib.read_back
smtlib = tt

unfoldable pub faithful : Unit {0}
unfolding Faithful.Needed Faithful.name_of Faithful.digits_only Faithful.lettered Faithful.datatype_named Faithful.well_named Faithful.unique Faithful.full Faithful.declaration Faithful.command Faithful.introduced Faithful.asserted Faithful.definitions Faithful.replaced_word Faithful.replaced Faithful.unfolded Faithful.Right Faithful.stem Faithful.is_ext_name Faithful.used Faithful.names_in Faithful.after_ext_name Faithful.operands Faithful.uses Faithful.own Faithful.in_order Faithful.things Faithful.Faithful
faithful = tt
