-- Which items may stand.
use Rattle.std.specs.Prelude.{replicate}
use Rattle.std.proofs.Common.{◌≡◌, true, false, [], None, codes, refl}
use Rattle.ve_kinds.specs.declared.kind.Kind.TheVariants.{InternalItem, P, Ref}
use Rattle.ve_base.specs.Empty.{empty_head}
use Rattle.ve_base.specs.declared.marks.Mark.{Mark}
use Rattle.model_items.specs.declared.plain_item.PlainItem.TheVariants.{Char, Opening}
use Rattle.model_world_law.specs.Standing.{may_stand}

abbrev bold : Mark
bold = record { tag = codes "b"; attrs = [] }

as_many_as_may_be : may_stand (Char 97 (replicate 64 bold)) ≡ true
as_many_as_may_be = refl

one_too_many : may_stand (Char 97 (replicate 65 bold)) ≡ false
one_too_many = refl

paragraph : may_stand (Opening P empty_head [] [] None false) ≡ true
paragraph = refl

-- it has neither key nor `data-mw`
no_reference : may_stand (Opening Ref empty_head [] [] None false) ≡ false
no_reference = refl

no_key : may_stand (Opening InternalItem empty_head [] [] None false) ≡ false
no_key = refl
