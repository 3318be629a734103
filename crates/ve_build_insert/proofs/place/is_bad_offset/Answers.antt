use Rattle.std.proofs.Common.{refl, sym}
use Rattle.ve_build_insert.proofs.place.is_bad_offset.Goals as goal

pub returns-in-Some : goal.returns-in-Some
returns-in-Some c = λ values. sym (c.in-Some.ensures.some.good values)

pub returns-in-None : goal.returns-in-None
returns-in-None c = λ values. sym (c.in-None.ensures.none refl values)
