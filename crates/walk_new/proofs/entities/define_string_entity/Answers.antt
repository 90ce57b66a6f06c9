-- `walk_new::entities::define_string_entity` meets its contract: the text is tested, and then the entity is defined.
-- Assumes nothing.
use Rattle.read_field.proofs.Laws.{handed_on}
use Rattle.walk_new.proofs.Testing.{told_low, told_high}
use Rattle.write_terms.specs.Definitions.{BodyIs}
use Rattle.walk_new.proofs.EntityLaws.{string_entity, string_stopped}
use Rattle.walk_new.proofs.entities.define_string_entity.Goals as goal

pub returns-in_err-refuse_high : goal.returns-in_err-refuse_high
returns-in_err-refuse_high c =
    let q = told_high _ _ _ c.refuse_high.ensures c.in_err-refuse_high.was in
    rw (handed_on _ c.from_residual.ensures.1, q.2) (string_stopped _ c.first_high.ensures q.1)

pub returns : goal.returns
unfolding BodyIs
returns c = string_entity _ c.first_high.ensures (told_low _ _ _ c.refuse_high.ensures c.in_ok-refuse_high.was) c.define.ensures
