-- `check_types::sought_by` meets its contract: the kind of the type that each kind of terms has, and the fields of the term.
-- Assumes nothing.
use mathlib.Core.Path.{refl, ap}
use Rattle.check_types.specs.Sought.{part_at}
use Rattle.check_types.proofs.TermTypes.{sought_of, sought_some, sought_nothing}
use Rattle.check_types.proofs.sought_by.Goals as goal

pub returns-in-XB : goal.returns-in-XB
unfolding sought_of
returns-in-XB c = λ M. sought_some _ _ _ _ M (ap sought_of c.in-XB.is) tt

pub returns-in-XS : goal.returns-in-XS
unfolding sought_of
returns-in-XS c = λ M. sought_some _ _ _ _ M (ap sought_of c.in-XS.is) tt

pub returns-in-XN : goal.returns-in-XN
unfolding sought_of
returns-in-XN c = λ M. sought_some _ _ _ _ M (ap sought_of c.in-XN.is) c.width_at.ensures

pub returns-in-XX : goal.returns-in-XX
unfolding sought_of
returns-in-XX c = λ M. sought_some _ _ _ _ M (ap sought_of c.in-XX.is) c.value_code.ensures

pub returns-in-X0 : goal.returns-in-X0
unfolding sought_of part_at
returns-in-X0 c = λ M. sought_some _ _ _ _ M (ap sought_of c.in-X0.is) c.first_reference.ensures

pub returns-in-X1 : goal.returns-in-X1
unfolding sought_of part_at
returns-in-X1 c = λ M. sought_some _ _ _ _ M (ap sought_of c.in-X1.is) c.first_reference-in-X1.ensures

pub returns-in-XC : goal.returns-in-XC
unfolding sought_of part_at
returns-in-XC c = λ M. sought_some _ _ _ _ M (ap sought_of c.in-XC.is) c.first_reference-in-XC.ensures

pub returns-in-XR : goal.returns-in-XR
unfolding sought_of
returns-in-XR c = λ M. sought_some _ _ _ _ M (ap sought_of c.in-XR.is) refl

pub returns-in_default : goal.returns-in_default
returns-in_default c = λ M. sought_nothing c.in_default.not-XB c.in_default.not-XS c.in_default.not-XN c.in_default.not-XX c.in_default.not-X0 c.in_default.not-X1 c.in_default.not-XC c.in_default.not-XR _ _ M
