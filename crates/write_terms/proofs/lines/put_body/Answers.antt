-- `write_terms::lines::put_body` meets its contract: each term by its arm.
-- Assumes nothing.
use Rattle.script_spec.specs.Base.{bytes}
use Rattle.write_terms.proofs.BodyLaws.{body_entity, body_value, body_none, body_atom}
use Rattle.write_terms.proofs.lines.put_body.Goals as goal

pub returns-in-Entity : goal.returns-in-Entity
returns-in-Entity c = body_entity c.term_at.ensures.is c.in-Entity.is c.put_entity.ensures

pub returns-in-ExtLit : goal.returns-in-ExtLit
returns-in-ExtLit c = body_value c.term_at.ensures.is c.in-ExtLit.is c.put_ext_value.ensures

pub returns-in-None : goal.returns-in-None
unfolding bytes
returns-in-None c = body_none c.term_at.ensures.is c.in-None.is c.put_constant.ensures

pub returns-in_default : goal.returns-in_default
returns-in_default c = body_atom c.term_at.ensures.is (record { not_entity = c.in_default.not-Entity; not_value = c.in_default.not-ExtLit; not_none = c.in_default.not-None }) c.put_atom.ensures
