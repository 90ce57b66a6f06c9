-- `walk_new::entities::define_entity` meets its contract.
-- Assumes nothing.
use Rattle.walk_new.proofs.Introducing.{enters}
use Rattle.walk_new.proofs.EntityLaws.{entity_plain, entity_outside, entity_member, place_noted}
use Rattle.walk_new.proofs.entities.define_entity.Goals as goal

pub returns-in-NoEnum : goal.returns-in-NoEnum
returns-in-NoEnum c = let v = c.view.ensures in entity_plain (rw (v.0, v.1, v.2) at c.find_member.ensures) c.in-NoEnum.is c.define_string_entity.ensures

pub returns-in-NotMember : goal.returns-in-NotMember
returns-in-NotMember c = let v = c.view.ensures in entity_outside (rw (v.0, v.1, v.2) at c.find_member.ensures) c.in-NotMember.is

pub returns-in-At : goal.returns-in-At
returns-in-At c =
    let v = c.view.ensures in
    entity_member (rw (v.0, v.1, v.2) at c.find_member.ensures) c.in-At.is (enters c.enter.ensures) c.get-first.ensures (place_noted _ c.checked_add.ensures) (rw c.unwrap_or-note.ensures at c.set.ensures)
