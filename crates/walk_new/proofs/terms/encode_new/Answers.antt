-- `walk_new::terms::encode_new` meets its contract: each entry by its arm.
-- Assumes nothing.
use Rattle.write_terms.specs.Definitions.{BodyIs}
use Rattle.walk_new.proofs.TermLaws.{new_var, new_left, new_string, new_entity, new_some, new_set, new_record, new_app, new_defined}
use Rattle.walk_new.proofs.terms.encode_new.Goals as goal

pub returns-in-Var : goal.returns-in-Var
returns-in-Var c = new_var c.get-offset.ensures c.term_at.ensures.is c.in-Var.is c.declare.ensures

pub returns-in-BoolLit : goal.returns-in-BoolLit
returns-in-BoolLit c = new_left c.get-offset.ensures c.term_at.ensures.is c.in-BoolLit.is

pub returns-in-StringLit : goal.returns-in-StringLit
returns-in-StringLit c = new_string c.get-offset.ensures c.term_at.ensures.is c.in-StringLit.is c.check_literal.ensures.advances

pub returns-in-Entity : goal.returns-in-Entity
returns-in-Entity c = new_entity c.get-offset.ensures c.term_at.ensures.is c.in-Entity.is c.define_entity.ensures

pub returns-in-Some : goal.returns-in-Some
unfolding BodyIs
returns-in-Some c = new_some c.get-offset.ensures c.term_at.ensures.is c.in-Some.is c.define.ensures

pub returns-in-Set : goal.returns-in-Set
unfolding BodyIs
returns-in-Set c = new_set c.get-offset.ensures c.term_at.ensures.is c.in-Set.is c.define-in-Set.ensures

pub returns-in-Record : goal.returns-in-Record
unfolding BodyIs
returns-in-Record c = new_record c.get-offset.ensures c.term_at.ensures.is c.in-Record.is c.define-in-Record.ensures

pub returns-in-App : goal.returns-in-App
returns-in-App c = new_app c.get-offset.ensures c.term_at.ensures.is c.in-App.is c.define_app.ensures

pub returns-in-ExtLit : goal.returns-in-ExtLit
unfolding BodyIs
returns-in-ExtLit c = new_defined c.get-offset.ensures c.term_at.ensures.is c.in-ExtLit.is c.define-in-ExtLit.ensures
