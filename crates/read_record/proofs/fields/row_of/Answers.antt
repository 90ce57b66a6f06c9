-- Each kind's fields by its arm.
-- Assumes nothing.
use Rattle.read_record.proofs.fields.row_of.Goals as goal

pub returns-in-TB : goal.returns-in-TB
returns-in-TB c = rw c.in-TB.is

pub returns-in-TS : goal.returns-in-TS
returns-in-TS c = rw c.in-TS.is

pub returns-in-TV : goal.returns-in-TV
returns-in-TV c = rw c.in-TV.is

pub returns-in-TO : goal.returns-in-TO
returns-in-TO c = rw c.in-TO.is

pub returns-in-TC : goal.returns-in-TC
returns-in-TC c = rw c.in-TC.is

pub returns-in-TE : goal.returns-in-TE
returns-in-TE c = rw c.in-TE.is

pub returns-in-TX : goal.returns-in-TX
returns-in-TX c = rw c.in-TX.is

pub returns-in-TR : goal.returns-in-TR
returns-in-TR c = rw c.in-TR.is

pub returns-in-EN : goal.returns-in-EN
returns-in-EN c = rw c.in-EN.is

pub returns-in-UF : goal.returns-in-UF
returns-in-UF c = rw c.in-UF.is

pub returns-in-XV : goal.returns-in-XV
returns-in-XV c = rw c.in-XV.is

pub returns-in-XB : goal.returns-in-XB
returns-in-XB c = rw c.in-XB.is

pub returns-in-XN : goal.returns-in-XN
returns-in-XN c = rw c.in-XN.is

pub returns-in-XS : goal.returns-in-XS
returns-in-XS c = rw c.in-XS.is

pub returns-in-XE : goal.returns-in-XE
returns-in-XE c = rw c.in-XE.is

pub returns-in-XX : goal.returns-in-XX
returns-in-XX c = rw c.in-XX.is

pub returns-in-X0 : goal.returns-in-X0
returns-in-X0 c = rw c.in-X0.is

pub returns-in-X1 : goal.returns-in-X1
returns-in-X1 c = rw c.in-X1.is

pub returns-in-XC : goal.returns-in-XC
returns-in-XC c = rw c.in-XC.is

pub returns-in-XR : goal.returns-in-XR
returns-in-XR c = rw c.in-XR.is

pub returns-in-XA : goal.returns-in-XA
returns-in-XA c = rw c.in-XA.is

pub returns-in-IN : goal.returns-in-IN
returns-in-IN c = rw c.in-IN.is
